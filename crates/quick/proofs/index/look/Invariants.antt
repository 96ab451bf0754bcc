use Prim.Native.Nat.{ℕ}
use Rattle.quick.specs.Index.{Filled}
use Rattle.quick.proofs.index.Slots.{Way}
use Rattle.quick.proofs.index.look.Given as goal

abbrev pub invariant-loop-slot : goal.invariant-loop-slot
invariant-loop-slot l = (at n : ℕ) → Filled l.list l.names at n → Way l.list l.names n l.kind l.relation l.code l.slot

abbrev pub decreases-loop-slot : goal.decreases-loop-slot
decreases-loop-slot l = l.slot
