use Rattle.std.proofs.Common.{◌≡◌, ℕ, ◌≤◌, ◌<◌, false}
use Rattle.catalogue.specs.Layout.{tuple_at}
use Rattle.walks.specs.Walks.{place_at}
use Rattle.decide.specs.Cursor.{passes}
use Rattle.decide.proofs.probes.Test.next_row.Given as goal

abbrev pub invariant-loop-j : goal.invariant-loop-j
invariant-loop-j l = (k : ℕ) → l.from ≤ k → k < l.j → passes l.self (tuple_at l.rows.values.now (place_at l.rows.walks.now l.rows.walk k)) ≡ false
