-- What the functions that fill the table promise.
use Rattle.std.specs.Prelude.{ℕ, ◌<◌, ◌≡◌, ◌&&◌, List, ℤ, length, get_or, drop}
use Rattle.model.specs.Syntax.{Condition, Term, Binding}
use Rattle.model.specs.Meaning.{Assignment, Rows}
use Rattle.sizes.specs.Decode.{decode, decode_t}
use Rattle.numbers.specs.Recalled.{holds_by, value_by}
use Rattle.walks.specs.Walks.{rows_by}
use Rattle.conjuncts.specs.Stages.{stages_hold, Extends, Steady}

-- the truth of c does not depend on the ranges after the first s
abbrev pub Stable : Condition → ℕ → List Binding → Type 0
Stable c s bs = (m : List ℤ) (R : Rows) (e e' : Assignment) → Extends (drop s bs) e e' → holds_by m c R e' ≡ holds_by m c R e

abbrev pub StableT : Term → ℕ → List Binding → Type 0
StableT t s bs = (m : List ℤ) (R : Rows) (e e' : Assignment) → Extends (drop s bs) e e' → value_by m t R e' ≡ value_by m t R e

-- nor does what bytes stand for, read as a condition or as a term
pub record Settled (s l : ℕ) (q z : List ℕ) (bs : List Binding) : Type 0 where
  pub condition : Stable (decode l q z) s bs
  pub term : StableT (decode_t l q z) s bs

-- the stages start below branch k
abbrev pub Begun : ℕ → List ℕ → Type 0
Begun k t = (s : ℕ) → s < 16 → get_or t s 0 < k

-- the stages are what they were, and the condition c, whatever the rows; branches below n are in use
pub record Joined (n : ℕ) (t t' q z : List ℕ) (m : List ℤ) (c : Condition) (bs : List Binding) : Type 0 where
  pub begun : Begun n t'
  pub whole : (ws : List ℕ) (vs : List ℤ) (e : Assignment) → stages_hold t' q z ws vs m (length bs) e ≡ holds_by m c (rows_by ws vs) e && stages_hold t q z ws vs m (length bs) e
  pub steady : (ws : List ℕ) (vs : List ℤ) → Steady t q z ws vs m bs → Steady t' q z ws vs m bs
