use Prim.Native.Nat.{ℕ, ◌≤◌}
use lib.ListN.{length}
use Rattle.quel.specs.Results.{Word}
use Rattle.tokens.specs.Codes.{Spelt}
use Rattle.names.specs.Search.{is_named, IndexedBy}
use lib.ListN.{drop, take}
use mathlib.Core.Bool.{false}
use Prim.Native.Nat.{◌/◌, ◌*◌}
use Rattle.buckets.proofs.Laws.{Walk}
use Rattle.names.proofs.Once.{Sound}
use Rattle.names.proofs.Sought.follow.Given as goal

abbrev pub invariant-loop-link : goal.invariant-loop-link
invariant-loop-link l = (f : IndexedBy l.list (take 512 l.index) (drop 512 l.index)) → length l.list ≤ 14 * length (drop 512 l.index) → Walk (λ (i : ℕ). i / 14) (drop 512 l.index) (λ (i : ℕ). false) (Sound l.list) f.places l.link × ((w : Word) → Spelt w l.self.code → Walk (λ (i : ℕ). i / 14) (drop 512 l.index) (λ (i : ℕ). is_named l.self.kind l.self.relation w (drop i l.list)) (Sound l.list) f.places l.link)

abbrev pub decreases-loop-link : goal.decreases-loop-link
decreases-loop-link l = l.link
