use Prim.Native.Nat.{ℕ, ◌<◌}
use mathlib.Core.List.{List}
use Rattle.names.specs.Search.{like, HeldIn}
use lib.ListN.{drop, take}
use Prim.Native.Nat.{◌/◌}
use Rattle.buckets.proofs.Laws.{Walk}
use Rattle.names.proofs.known.Given as goal

abbrev pub invariant-loop-link : goal.invariant-loop-link
invariant-loop-link l = (xs : List ℕ) → HeldIn l.list l.at (take 512 l.index) (drop 512 l.index) xs → Walk (λ (i : ℕ). i / 14) (drop 512 l.index) (λ (i : ℕ). like l.list l.at (drop i l.list)) (λ (i : ℕ). i < l.at) xs l.link

abbrev pub decreases-loop-link : goal.decreases-loop-link
decreases-loop-link l = l.link
