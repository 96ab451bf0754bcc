use Prim.Native.Nat.{◌-◌}
use lib.ListN.{length}
use Rattle.quick.proofs.index.Whole.{Left}
use Rattle.quick.proofs.index.listed.Given as goal

abbrev pub invariant-loop-at : goal.invariant-loop-at
invariant-loop-at l = Left l.list l.names l.at l.n

abbrev pub decreases-loop-at : goal.decreases-loop-at
decreases-loop-at l = length l.list - l.at
