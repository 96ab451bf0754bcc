use Rattle.decide.proofs.seeks.Keys.{Along}
use Prim.Native.Nat.{◌≤◌}
use Rattle.decide.proofs.seeks.key_of.Given as goal

abbrev pub invariant-loop-at : goal.invariant-loop-at
invariant-loop-at l = (l.at ≤ l.start) × Along l.t l.start l.at

abbrev pub decreases-loop-at : goal.decreases-loop-at
decreases-loop-at l = l.at
