use mathlib.Core.Path.{◌≡◌}
use Prim.Native.Nat.{◌-◌}
use lib.ListN.{length}
use lib.ListN.{drop, take}
use Rattle.names.proofs.Once.{Left}
use Rattle.names.proofs.listed.Given as goal

abbrev pub invariant-loop-at : goal.invariant-loop-at
invariant-loop-at l = Left l.list (length (drop 512 l.initial.index)) l.at (take 512 l.index) (drop 512 l.index) × (length l.index ≡ length l.initial.index)

abbrev pub decreases-loop-at : goal.decreases-loop-at
decreases-loop-at l = length l.list - l.at
