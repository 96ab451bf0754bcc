use native.Mathlib.Omega.{arith}
use lib.ListN.{length-take}
use Rattle.rows.specs.Buffer.{start}
use Rattle.walks.specs.Assigned.{assigned}
use Rattle.odometer.specs.Plan.{row_by}
use Rattle.odometer.proofs.Steps.{cells_of, write-none, write-row}
use Rattle.odometer.proofs.only.Goals as goal

pub targets-requires : goal.targets-requires
targets-requires c = (c.requires.0, omega (arith, c.requires.1))

pub returns-then-not-targets : goal.returns-then-not-targets
returns-then-not-targets c = let answer = c.args.answer.now in let env = c.args.env.now in let memo = c.args.memo.now in let q = c.args.q.now in let values = c.args.values.now in let walks = c.args.walks.now in let z = c.args.z.now in let plan = c.args.plan in record { answer_after = write-none c.targets.result plan.columns c.targets.new.row (start answer) (row_by plan q z walks values memo (assigned values env)) (cells_of plan walks values memo env q z c.targets.result _ c.targets.new.row (omega (arith, c.requires.1)) _ _ c.tail-x.ensures c.tail_sizes-y.ensures c.targets.ensures.written) c.if-not-targets.true-raw; env_unchanged = c.targets.ensures.env_unchanged }

pub slice_bounds-only_row-end : goal.slice_bounds-only_row-end
slice_bounds-only_row-end c = omega (arith, length-take c.args.plan.columns c.targets.new.row, c.targets.auto.row, c.requires.1)

pub returns : goal.returns
returns c = let env = c.args.env.now in let memo = c.args.memo.now in let q = c.args.q.now in let values = c.args.values.now in let walks = c.args.walks.now in let z = c.args.z.now in let plan = c.args.plan in record { answer_after = write-row c.targets.result plan.columns c.targets.new.row (start c.args.answer.now) (row_by plan q z walks values memo (assigned values env)) (cells_of plan walks values memo env q z c.targets.result _ c.targets.new.row (omega (arith, c.requires.1)) _ _ c.tail-x.ensures c.tail_sizes-y.ensures c.targets.ensures.written) _ c.if-not-targets.false-raw c.only_row.ensures; env_unchanged = c.targets.ensures.env_unchanged }
