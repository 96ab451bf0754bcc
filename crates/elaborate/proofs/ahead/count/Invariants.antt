use Prim.Native.Nat.{◌<◌}
use lib.ListN.{length}
use Rattle.elaborate.proofs.ahead.Laws.{From}
use Rattle.elaborate.proofs.ahead.count.Given as goal

abbrev pub invariant-loop-i : goal.invariant-loop-i
invariant-loop-i l = From l.kinds l.counts l.i × (length l.kinds < length l.counts)
