use mathlib.Core.Path.{sym, ap, ◌∙◌}
use borrow.Author.Tests.{le-ltb}
use Rattle.catalogue.specs.declared.Relation.{Relation}
use Rattle.conditions.specs.Reach.{shape_in}
use Rattle.conditions.proofs.scope.Shapes.{shape-length}
use Rattle.conditions.proofs.scope.Steps.{known_past, known-rest}
use Rattle.conditions.proofs.scope.known.Goals as goal

pub returns-else-variable-limit : goal.returns-else-variable-limit
returns-else-variable-limit c = le-ltb _ _ c.if-variable-limit.false ∙ known_past (shape_in c.args.catalogue.now) c.args.limit c.args.variable c.args.relation c.if-variable-limit.false

pub returns-then-variable-limit : goal.returns-then-variable-limit
returns-then-variable-limit c = let catalogue = c.args.catalogue.now in
    known-rest (shape_in catalogue) c.args.limit c.args.variable c.args.relation c.if-variable-limit.true _ _ (ap (λ (x : Relation). x.listed) c.entry.ensures.value) (sym (shape-length catalogue))
