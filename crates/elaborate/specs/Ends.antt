-- How the loop over a text's tokens ends: all is written but what stands after the last token.
use Rattle.std.specs.Prelude.{ℕ, ◌+◌, ◌≤◌, List, [], ◌∷◌, ◌≡◌, Option, Some, None}
use Rattle.quel.specs.Results.{fail, ok}
use Rattle.quel.specs.Names.{Entry}
use Rattle.quel.specs.Elaboration.{Symbol}
use Rattle.quel.specs.Ahead.{at_rest}
use Rattle.quel.specs.Writing.{Written, loop}
use Rattle.tokens.specs.Table.{Table}
use Rattle.elaborate.specs.Places.{tokens_from}
use Rattle.elaborate.specs.After.{ended}

-- m: the number of the variables
abbrev pub end_by : List ℕ → ℕ → Option ℕ → List ℕ → Written
end_by z m None out = fail
end_by z m (Some at) out = ended out at (ok z m)

pub record Ends (text : List ℕ) (t : Table) (es : List Entry) (ρ : List Symbol) (i at n : ℕ) (out : List ℕ) (r : Option ℕ) (to : List ℕ) : Type 0 where
  pub number : ℕ
  pub ends : (z : List ℕ) → ended out at (loop es z (tokens_from text t i) at_rest (ρ ∷ []) n) ≡ end_by z number r to

abbrev pub Last : ℕ → Option ℕ → Type 0
Last at None = Unit
Last at (Some p) = p ≤ at + 32812591
