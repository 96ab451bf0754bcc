use Prim.Native.Nat.{◌+◌, ◌*◌, ◌-◌, ◌≤◌}
use mathlib.Core.Path.{◌≡◌}
use lib.ListN.{length, set}
use Rattle.numbers.specs.Numbers.{Accumulates}
use Rattle.walks.specs.Walks.{place_at, kept}
use Rattle.walks.proofs.Loops.{Failed}
use Rattle.evaluator.specs.Evaluation.{holds_on}
use Rattle.evaluator.proofs.+condition_gather_some_row_term.Given as goal

abbrev pub decreases-condition : goal.decreases-condition
decreases-condition l = 2 * l.level

abbrev pub decreases-gather : goal.decreases-gather
decreases-gather l = 2 * l.column.level + 1

abbrev pub decreases-some_row : goal.decreases-some_row
decreases-some_row l = 2 * l.asked.level + 1

abbrev pub decreases-term : goal.decreases-term
decreases-term l = 2 * l.level

abbrev pub invariant-gather-loop-i : goal.invariant-gather-loop-i
invariant-gather-loop-i l = (set l.env l.column.variable l.old ≡ l.initial.env)
    × Accumulates l.taken (kept l.values (holds_on l.column.level l.q l.z l.walks l.values l.memo l.initial.env l.column.variable) l.column.attribute (place_at l.walks l.walk) l.i)
    × (l.i ≤ l.n) × (length l.env ≡ length l.initial.env)

abbrev pub decreases-gather-loop-i : goal.decreases-gather-loop-i
decreases-gather-loop-i l = l.n - l.i

abbrev pub invariant-some_row-loop-i : goal.invariant-some_row-loop-i
invariant-some_row-loop-i l = (set l.env l.asked.variable l.old ≡ l.initial.env)
    × Failed (place_at l.walks l.walk) l.values (holds_on l.asked.level l.q l.z l.walks l.values l.memo l.initial.env l.asked.variable) l.i
    × (l.i ≤ l.n) × (length l.env ≡ length l.initial.env)

abbrev pub decreases-some_row-loop-i : goal.decreases-some_row-loop-i
decreases-some_row-loop-i l = l.n - l.i
