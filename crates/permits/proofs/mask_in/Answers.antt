use mathlib.Core.Path.{ap, ◌∙◌}
use mathlib.Core.Bool.{not}
use borrow.Author.Tests.{eq-eqb}
use Rattle.permits.proofs.Finds as finds
use Rattle.permits.proofs.mask_in.Goals as goal

pub returns-else-mask-ne0 : goal.returns-else-mask-ne0
returns-else-mask-ne0 c = ap not (eq-eqb _ 0 c.if-mask-ne0.false) ∙ finds.mask-zero c.args.attributes c.args.mask c.if-mask-ne0.false

pub returns-then-mask-eq65535 : goal.returns-then-mask-eq65535
returns-then-mask-eq65535 c = eq-eqb _ 65535 c.if-mask-eq65535.true ∙ finds.mask-all c.args.attributes c.args.mask c.if-mask-ne0.true c.if-mask-eq65535.true

pub returns-else-mask-eq65535 : goal.returns-else-mask-eq65535
returns-else-mask-eq65535 c = finds.mask_is c.args.attributes c.args.mask c.attributes_in.result c.if-mask-ne0.true c.if-mask-eq65535.false c.attributes_in.ensures
