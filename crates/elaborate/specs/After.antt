-- What a turn of the loop over a text's tokens leaves: a buffer and a place, with the rest of the loop still to be written there.
use Rattle.std.specs.Prelude.{ℕ, ◌+◌, ◌≤◌, ◌<◌, cond, List, ◌≡◌, eqb, length, Option, Some, None}
use Rattle.std.proofs.lemmas.List.Edits.{sets}
use Rattle.quel.specs.Results.{fail, ok}
use Rattle.quel.specs.Names.{Entry}
use Rattle.quel.specs.Ahead.{Mode, at-condition, at-conjunct, at-factor, at_rest, in_some, in-attribute, in-aggregate}
use Rattle.quel.specs.Writing.{Written, Reaches, loop}
use Rattle.kinds.specs.declared.Record.{Record}
use Rattle.tokens.specs.Table.{Table}
use Rattle.elaborate.specs.Places.{tokens_from, name_in}
use Rattle.elaborate.specs.Modes.{mode_no}
use Rattle.elaborate.specs.Puts.{frame_mode}
use Rattle.elaborate.specs.Frames.{Stack}
use Rattle.elaborate.specs.declared.turns.State.{State}

-- a buffer and the place after what was written, once g has been written from `at` on
abbrev pub ended : List ℕ → ℕ → Written → Written
ended d at fail = fail
ended d at (ok bs m) = ok (sets d at bs) (at + length bs)

-- the mode of a number
unfoldable pub mode_of : ℕ → Mode
mode_of m =
    cond (eqb m 0) at-condition (cond (eqb m 1) at-conjunct (cond (eqb m 2) at-factor
    (cond (eqb m 3) at_rest (cond (eqb m 4) in_some (cond (eqb m 5) in-attribute in-aggregate)))))

-- the records of an action that opens a frame
pub record Fits (a : ℕ) (it : Record) : Type 0 where
  pub head : a ≡ 4 → frame_mode it ≡ 2
  pub binder : a ≡ 6 → frame_mode it ≡ 1
  pub left : a ≡ 7 → frame_mode it ≡ 0

module _ (text : List ℕ) (t : Table) (es : List Entry) (ids : List ℕ) where
  -- what is still to be done from token i on
  abbrev pub left : List ℕ → ℕ → State → Reaches → Written
  left z i s σ = loop es z (tokens_from text t i) (mode_of (mode_no s.mode)) σ s.n

  -- the reaches after a turn, which changes nothing of how the loop ends
  pub record Going (g : List ℕ → Written) (i : ℕ) (s : State) (fs known out : List ℕ) : Type 0 where
    pub reaches : Reaches
    pub stack : Stack (name_in text t.kinds t.starts) ids fs s.reach.depth s.reach.crossing known reaches
    pub ends : (z : List ℕ) → g z ≡ ended out s.at (left z i s reaches)

  abbrev pub GoesOn : (List ℕ → Written) → ℕ → Option State → List ℕ → List ℕ → List ℕ → Type 0
  GoesOn g i None fs known out = (z : List ℕ) → g z ≡ fail
  GoesOn g i (Some s) fs known out = Going g i s fs known out

  abbrev pub Goes : ℕ → State → Reaches → List ℕ → Option State → List ℕ → List ℕ → List ℕ → Type 0
  Goes i s σ out r gs known to = GoesOn (λ z. ended out s.at (left z i s σ)) (i + 1) r gs known to

-- a turn writes at most 8197 bytes, and opens at most one frame
abbrev pub Within : State → Option State → Type 0
Within s None = Unit
Within s (Some r) = (r.reach.depth ≤ s.reach.depth + 1) × (r.n ≤ s.n + 1) × (r.at ≤ s.at + 8197) × (r.reach.crossing < 8192)
