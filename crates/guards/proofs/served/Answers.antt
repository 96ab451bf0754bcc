use mathlib.Core.Bool.{not}
use mathlib.Core.Path.{ap, ◌∙◌}
use Rattle.catalogue.specs.Layout.{stored_of}
use Rattle.guards.proofs.Steps.{served-some, served-none}
use Rattle.catalogue.specs.declared.Relation.{Relation}
use Rattle.guards.proofs.served.Goals as goal

pub returns-then-mask-ne0 : goal.returns-then-mask-ne0
returns-then-mask-ne0 c = served-some (stored_of c.args.catalogue.now c.args.relation) c.args.mask c.if-mask-ne0.true

pub returns : goal.returns
returns c = ap (λ (x : Relation). not x.stored) c.entry-known.ensures.value ∙ served-none (stored_of c.args.catalogue.now c.args.relation) c.args.mask c.if-mask-ne0.false
