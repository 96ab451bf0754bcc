use Rattle.std.proofs.Common.{ℕ, ◌≤◌}
use Rattle.decide.specs.Chains as C
use Rattle.decide.specs.Linked as L
use Rattle.decide.proofs.chains.Steps.{Passed}
use Rattle.decide.proofs.chains.Chain.next_equal.Given as goal

abbrev pub invariant-loop-at : goal.invariant-loop-at
invariant-loop-at l = (l.at ≤ l.self.rows.walk.count) × ((from : ℕ) → C.First (L.InBucket l.self) from l.self.rows.walk.count l.link → Passed (L.value_in l.self) l.self.entry.value from l.self.rows.walk.count l.at)

abbrev pub decreases-loop-at : goal.decreases-loop-at
decreases-loop-at l = C.left l.self.rows.walk.count l.at
