-- Places by the bucket of their words, in two tables: for each of 512 buckets its last place, and for each place, at its slot, the one before it there.
-- A link is 0, or one more than a place.
use Rattle.std.specs.Prelude.{ℕ, ◌+◌, ◌%◌, ◌≤◌, ◌<◌, ◌≡◌, List, [], ◌∷◌, eqb, get_or}
use Rattle.model.specs.Lists.{filter, Every}
use Rattle.quel.specs.Results.{Word}
use Rattle.tokens.specs.Spans.{capped}
use Rattle.tokens.specs.Kinds.{code_of}

-- the bucket of a word
abbrev pub bucket_of : Word → ℕ
bucket_of w = capped (code_of w) % 512

-- a link leads through these places, from each one to a lower one
unfoldable pub Chain : (ℕ → ℕ) → List ℕ → ℕ → List ℕ → Type 0
Chain slot nexts link [] = link ≡ 0
Chain slot nexts link (x ∷ xs) = (link ≡ x + 1) × ((get_or nexts (slot x) 0 ≤ x) × Chain slot nexts (get_or nexts (slot x) 0) xs)

-- the tables chain these places, all below top, each in its bucket
pub record Held (b slot : ℕ → ℕ) (top : ℕ) (heads nexts xs : List ℕ) : Type 0 where
  pub chains : (h : ℕ) → h < 512 → Chain slot nexts (get_or heads h 0) (filter (λ (x : ℕ). eqb (b x) h) xs)
  pub low : Every (λ (x : ℕ). (x < top) × (slot x < slot top)) xs

-- the tables chain some places
pub record Chained (b slot : ℕ → ℕ) (top : ℕ) (heads nexts : List ℕ) : Type 0 where
  pub places : List ℕ
  pub held : Held b slot top heads nexts places
