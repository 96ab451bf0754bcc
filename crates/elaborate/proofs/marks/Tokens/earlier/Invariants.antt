use lib.ListN.{take, drop}
use Prim.Native.Nat.{ℕ, ◌≤◌, ◌<◌}
use lib.ListN.{length}
use Rattle.quel.specs.Results.{Word, same_word}
use Rattle.buckets.proofs.Laws.{Walk}
use Rattle.elaborate.specs.Places.{name_in}
use Rattle.elaborate.specs.Numbers.{Numbering}
use Rattle.elaborate.proofs.marks.Tokens.earlier.Given as goal

abbrev pub invariant-loop-link : goal.invariant-loop-link
invariant-loop-link l = let w : ℕ → Word = name_in l.self.text.now l.self.kinds.now l.self.starts.now in (f : Numbering w l.i (take 512 l.index) (drop 512 l.index) l.ids) → Walk (λ (x : ℕ). x) (drop 512 l.index) (λ (x : ℕ). same_word (w x) (w l.i)) (λ (x : ℕ). (x < l.i) × (1 ≤ length (w x))) f.places l.link

abbrev pub decreases-loop-link : goal.decreases-loop-link
decreases-loop-link l = l.link
