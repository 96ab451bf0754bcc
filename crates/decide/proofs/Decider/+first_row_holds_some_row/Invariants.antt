use mathlib.Core.Path.{◌≡◌}
use mathlib.Core.Bool.{true}
use lib.ListN.{length, set}
use Prim.Native.Nat.{◌+◌, ◌*◌, ◌-◌, ◌≤◌, ◌<◌}
use Rattle.walks.specs.Assigned.{assigned}
use Rattle.walks.specs.Walks.{place_at}
use Rattle.walks.proofs.Loops.{Failed}
use Rattle.catalogue.specs.Layout.{tuple_at}
use Rattle.decide.specs.Cursor.{stops}
use Rattle.decide.specs.Decider.{runs}
use Rattle.decide.proofs.Searching as S
use Rattle.decide.proofs.Decider.+first_row_holds_some_row.Given as goal

abbrev pub decreases-first_row : goal.decreases-first_row
decreases-first_row l = 3 * l.start + 3

abbrev pub decreases-holds : goal.decreases-holds
decreases-holds l = 3 * l.start + 2

abbrev pub decreases-some_row : goal.decreases-some_row
decreases-some_row l = 3 * l.i + 1

abbrev pub invariant-first_row-loop-rows : goal.invariant-first_row-loop-rows
invariant-first_row-loop-rows l =
    (set l.env l.own l.old ≡ l.initial.env) × Failed (place_at l.self.walks.now l.walk) l.self.values.now (S.asks l.self.t.now l.self.q.now l.self.z.now l.self.walks.now l.self.values.now l.self.memo.now l.start l.variable l.initial.env) l.i × (l.i ≤ l.n) × (length l.env ≡ length l.initial.env)
    × (0 < l.i → stops l.cursor (tuple_at l.self.values.now (place_at l.self.walks.now l.walk (l.i - 1))) ≡ true)

abbrev pub decreases-first_row-loop-rows : goal.decreases-first_row-loop-rows
decreases-first_row-loop-rows l = l.n - l.i

abbrev pub invariant-holds-loop-start : goal.invariant-holds-loop-start
invariant-holds-loop-start l = (runs l.self l.from (assigned l.self.values.now l.initial.env) ≡ runs l.self l.start (assigned l.self.values.now l.initial.env)) × (l.env ≡ l.initial.env) × (l.from ≤ l.start) × (length l.env ≡ length l.initial.env)

abbrev pub decreases-holds-loop-start : goal.decreases-holds-loop-start
decreases-holds-loop-start l = l.from
