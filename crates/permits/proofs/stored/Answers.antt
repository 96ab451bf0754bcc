use Rattle.permits.proofs.Grants.{stored-none}
use mathlib.Core.Path.{ap, ◌∙◌}
use mathlib.Core.Bool.{not}
use borrow.Author.Tests.{eq-eqb}
use Rattle.catalogue.specs.declared.Relation.{Relation}
use Rattle.permits.proofs.stored.Goals as goal

pub returns-then-bound-eq0 : goal.returns-then-bound-eq0
returns-then-bound-eq0 c = let pre = c.requires in eq-eqb _ 0 c.if-bound-eq0.true ∙ stored-none c.args.condition.now c.args.bound (pre) c.args.catalogue.now c.args.relation _ (ap (λ (x : Relation). x.stored) c.entry.ensures.value) (ap not c.if-entry.true) c.if-bound-eq0.true
