use mathlib.Core.Path.{ap, ◌∙◌}
use mathlib.Core.Bool.{Bool, not, ◌||◌}
use Prim.Native.Nat.{ℕ}
use lib.Dec.{ltb}
use borrow.Author.Tests.{ne_eqb}
use Rattle.permits.proofs.Loops.{bit-set, bit-clear}
use Rattle.permits.proofs.has_if_known.Goals as goal

pub returns-then-mask-attribute-ne1 : goal.returns-then-mask-attribute-ne1
returns-then-mask-attribute-ne1 c = ap not (ne_eqb _ 1 c.if-mask-attribute-ne1.true) ∙ ap (λ (b : Bool). not b || ltb c.args.attribute c.args.attributes) (bit-clear c.args.mask c.args.attribute c.if-mask-attribute-ne1.true)

pub returns-else-mask-attribute-ne1 : goal.returns-else-mask-attribute-ne1
returns-else-mask-attribute-ne1 c = ap (λ (a : ℕ). ltb a c.args.attributes) c.from.ensures ∙ ap (λ (b : Bool). not b || ltb c.args.attribute c.args.attributes) (bit-set c.args.mask c.args.attribute c.if-mask-attribute-ne1.false)
