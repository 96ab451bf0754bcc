use mathlib.Core.Path.{refl}
use Rattle.odometer.proofs.Steps.{cells_of, cells-listed}
use Rattle.odometer.proofs.cells.Goals as goal

pub returns-then-plan : goal.returns-then-plan
returns-then-plan c = record { cells = cells-listed c.args.plan c.args.walks.now c.args.values.now c.args.memo.now c.args.env.now c.args.q.now c.args.z.now c.listed_cells.result c.args.row.now _ c.requires.1 c.args.list.now c.requires.3 c.if-plan.true c.listed_cells.ensures; env_unchanged = refl }

pub returns : goal.returns
returns c = record { cells = cells_of c.args.plan c.args.walks.now c.args.values.now c.args.memo.now c.args.env.now c.args.q.now c.args.z.now c.targets.result c.args.row.now _ c.requires.1 _ _ c.tail-x.ensures c.tail_sizes-y.ensures c.targets.ensures.written; env_unchanged = c.targets.ensures.env_unchanged }
