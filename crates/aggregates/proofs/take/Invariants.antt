use Rattle.aggregates.proofs.Taking.{meets}
use Rattle.decide.specs.Cursor.{stops}
use Rattle.walks.specs.Walks.{place_at, kept}
use Rattle.catalogue.specs.Layout.{tuple_at}
use Rattle.numbers.specs.Numbers.{Accumulates}
use lib.ListN.{length, set}
use Prim.Native.Nat.{◌-◌, ◌≤◌, ◌<◌}
use mathlib.Core.Bool.{true}
use mathlib.Core.Path.{◌≡◌}
use Rattle.aggregates.proofs.take.Given as goal

abbrev pub invariant-loop-rows : goal.invariant-loop-rows
invariant-loop-rows l = (set l.env l.own l.old ≡ l.initial.env) × Accumulates l.taken (kept l.values (meets l.t l.q l.z l.walks l.values l.memo l.initial.env l.column.variable) l.column.attribute (place_at l.walks l.walk) l.i) × (l.i ≤ l.n) × (length l.env ≡ length l.initial.env) × (0 < l.i → stops l.cursor (tuple_at l.values (place_at l.walks l.walk (l.i - 1))) ≡ true)

abbrev pub decreases-loop-rows : goal.decreases-loop-rows
decreases-loop-rows l = l.n - l.i
