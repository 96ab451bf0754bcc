use Rattle.conditions.specs.Reach.{shape_in}
use Rattle.conditions.proofs.scope.Tables.{out-of-reach, in_reach}
use Rattle.conditions.proofs.scope.attribute.Goals as goal

pub returns-else-x-ne0 : goal.returns-else-x-ne0
returns-else-x-ne0 c = rw c.if-x-ne0.false (out-of-reach (shape_in c.args.catalogue.now) c.args.reach.now c.args.variable c.args.attribute _ c.entry-x.ensures c.if-x-ne0.false)

pub returns-then-x-ne0 : goal.returns-then-x-ne0
returns-then-x-ne0 c = in_reach (shape_in c.args.catalogue.now) c.args.reach.now c.args.variable c.args.attribute _ _ _ c.entry-x.ensures c.if-x-ne0.true c.from.ensures c.has.ensures
