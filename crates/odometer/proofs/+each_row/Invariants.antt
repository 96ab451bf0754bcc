use Prim.Native.Nat.{◌-◌, ◌≤◌, ◌<◌}
use mathlib.Core.Bool.{true}
use mathlib.Core.Path.{◌≡◌}
use lib.ListN.{length, set}
use Rattle.catalogue.specs.Layout.{tuple_at}
use Rattle.rows.specs.Buffer.{added_all}
use Rattle.rows.specs.Chains.{Linked}
use Rattle.walks.specs.Walks.{place_at}
use Rattle.decide.specs.Cursor.{stops}
use Rattle.odometer.specs.Plan.{code_in, table_in, front_of}
use Rattle.odometer.proofs.Steps.{passed, held}
use Rattle.odometer.proofs.+each_row.Given as goal

abbrev pub decreases-each_row : goal.decreases-each_row
decreases-each_row l = l.plan.left

abbrev pub invariant-loop-rows : goal.invariant-loop-rows
invariant-loop-rows l = (set l.env l.variable l.old ≡ l.initial.env)
    × (record { rows = l.inner.rows; full = l.inner.full; cells = l.answer } ≡ added_all (record { rows = l.initial.inner.rows; full = l.initial.inner.full; cells = l.initial.answer }) (passed l.inner (code_in l.initial.work) l.q l.z l.walks l.values l.memo l.initial.env l.variable (place_at l.walks l.walk) l.i))
    × (l.i ≤ l.n) × (length l.env ≡ length l.initial.env) × (length l.answer ≡ length l.initial.answer)
    × Linked l.inner.columns l.inner.rows l.answer (table_in l.inner l.work) × (length l.work ≡ length l.initial.work)
    × (0 < l.i → stops l.cursor (tuple_at l.values (place_at l.walks l.walk (l.i - 1))) ≡ true)
    × (front_of l.initial.inner l.work ≡ front_of l.initial.inner l.initial.work) × (l.inner ≡ held l.initial.inner l.inner.rows l.inner.full)

abbrev pub decreases-loop-rows : goal.decreases-loop-rows
decreases-loop-rows l = l.n - l.i
