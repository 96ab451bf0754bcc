-- What the tables of a text say of its names: w says the name at each place, no letters where there is none.
use Rattle.std.specs.Prelude.{ℕ, ◌≤◌, cond, List, ◌≡◌, eqb, get_or}
use Rattle.quel.specs.Results.{Word, same_word}
use Rattle.quel.specs.Elaboration.{Symbol, symbol_in}
use Rattle.tokens.specs.Codes.{Spelt}
use Rattle.elaborate.specs.Reach.{mode_in, place_in, known_of, standing}

-- two places have one number where they have one name
abbrev pub Same : (ℕ → Word) → List ℕ → Type 0
Same w ids = (x y : ℕ) → same_word (w x) (w y) ≡ eqb (get_or ids x 0) (get_or ids y 0)

-- the code of the name at x; that of no letters is 1
abbrev pub code_at : List ℕ → List ℕ → ℕ → ℕ
code_at ids numbers x = cond (eqb (get_or ids x 0) 0) 1 (get_or numbers x 0)

-- names by their numbers and codes
pub record Named (w : ℕ → Word) (ids numbers : List ℕ) : Type 0 where
  pub same : Same w ids
  pub spelt : (x : ℕ) → Spelt (w x) (code_at ids numbers x)

-- no name stands for anything; some may be marked
abbrev pub Clear : List ℕ → Type 0
Clear known = (x : ℕ) → (mode_in (get_or known x 0) ≡ 0) × (place_in (get_or known x 0) ≡ 0)

-- a table by the names' numbers says what each name stands for in a reach, in so many frames
pub record Holds (w : ℕ → Word) (ids known : List ℕ) (depth crossing : ℕ) (ρ : List Symbol) : Type 0 where
  pub says : (x : ℕ) → known_of (symbol_in (w x) ρ) ≡ standing crossing (get_or known (get_or ids x 0) 0)
  pub low : (x : ℕ) → place_in (get_or known x 0) ≤ depth
  pub crossed : crossing ≤ depth
