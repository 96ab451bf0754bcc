use native.Mathlib.Omega.{arith}
use Prim.Native.Nat.{ℕ, ◌+◌, ◌≤◌}
use mathlib.Core.List.{List}
use mathlib.Core.Path.{refl, sym, subst}
use lib.ListN.{length, drop, length-take}
use Rattle.rows.specs.Chains.{Linked}
use Rattle.walks.specs.Assigned.{assigned}
use Rattle.odometer.specs.Plan.{Listed, row_by}
use Rattle.odometer.proofs.Steps.{write-none, write-row, row-linked, linked-row}
use Rattle.odometer.proofs.Parts.{sixteen, to_end, table-back, front-back}
use Rattle.odometer.proofs.write.Goals as goal

pub cells-requires : goal.cells-requires
cells-requires c = let plan = c.args.plan in
    (c.requires.0, c.requires.1.columns, c.requires.1.columns, subst (λ (l : List ℕ). Listed l plan c.args.q.now c.args.z.now c.args.memo.now) (sym (sixteen plan.front c.args.work.now)) c.requires.3, subst (λ (l : List ℕ). length l ≤ 16) (sym (sixteen plan.front c.args.work.now)) (omega (arith, length-take 16 (drop plan.front c.args.work.now))))

pub returns-then-not-cells : goal.returns-then-not-cells
returns-then-not-cells c = let values = c.args.values.now in let plan = c.args.plan in record { answer_after = write-none _ plan.columns _ (record { rows = plan.rows; full = plan.full; cells = c.args.answer.now }) (row_by plan c.args.q.now c.args.z.now c.args.walks.now values c.args.memo.now (assigned values c.args.env.now)) c.cells.ensures.cells c.if-not-cells.true-raw; env_unchanged = c.cells.ensures.env_unchanged; linked = (c.requires.2, refl) }

pub slice_bounds-add_row-end-2 : goal.slice_bounds-add_row-end-2
slice_bounds-add_row-end-2 c = omega (arith, length-take c.args.plan.columns c.cells.new.row, c.cells.auto.row, c.requires.1.columns)

pub add_row-requires : goal.add_row-requires
add_row-requires c = let plan = c.args.plan in
    row-linked plan.columns c.cells.new.row _ _ _ (omega (arith, c.cells.auto.row, c.requires.1.columns)) (subst (λ (l : List ℕ). Linked plan.columns plan.rows c.args.answer.now l) (sym (to_end (plan.front + 16) c.args.work.now)) c.requires.2)

pub returns : goal.returns
returns c = let values = c.args.values.now in let work = c.args.work.now in let plan = c.args.plan in record { answer_after = write-row _ plan.columns _ (record { rows = plan.rows; full = plan.full; cells = c.args.answer.now }) (row_by plan c.args.q.now c.args.z.now c.args.walks.now values c.args.memo.now (assigned values c.args.env.now)) c.cells.ensures.cells _ c.if-not-cells.false-raw c.add_row.ensures.answer_after; env_unchanged = c.cells.ensures.env_unchanged; linked = (subst (λ (l : List ℕ). Linked plan.columns c.add_row.result.rows c.add_row.new.answer l) (sym (table-back (plan.front + 16) work c.add_row.new.table c.requires.1.room)) (linked-row plan.columns c.cells.new.row _ _ _ (omega (arith, c.cells.auto.row, c.requires.1.columns)) c.add_row.ensures.linked), front-back (plan.front + 16) work c.add_row.new.table c.requires.1.room) }
