use mathlib.Core.Path.{refl, ◌∙◌}
use borrow.Author.Tests.{le-ltb}
use Rattle.conditions.proofs.scope.Shapes.{has-none, has_some}
use Rattle.conditions.proofs.scope.has.Goals as goal

pub returns-else-relation-catalogue : goal.returns-else-relation-catalogue
returns-else-relation-catalogue c = le-ltb _ _ c.if-relation-catalogue.false ∙ has-none c.args.catalogue.now c.args.relation c.args.attribute _ refl c.if-relation-catalogue.false

pub returns-then-relation-catalogue : goal.returns-then-relation-catalogue
returns-then-relation-catalogue c = has_some c.args.catalogue.now c.args.relation c.args.attribute _ refl c.if-relation-catalogue.true _ c.byte.ensures
