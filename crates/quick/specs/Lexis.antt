-- What stands at a place of a text that zeros end.
use Rattle.std.specs.Prelude.{ℕ, ◌+◌, ◌≤◌, ◌<◌, List, [], ◌≡◌, length, get_or, drop}
use Rattle.quel.specs.Tokens.{key, IN, left, point, run}
use Rattle.tokens.specs.Spans.{within, positional, capped}
use Rattle.parts.specs.Parts.{Spells}
use Rattle.parts.specs.Places.{WordAt, TokenAt}

-- zeros from place 254 on: every loop over bytes that are none ends before them
pub record Ended (text : List ℕ) : Type 0 where
  pub zeros : (i : ℕ) → 254 ≤ i → get_or text i 0 ≡ 0

-- X.A, by the codes of both
pub record AttributeAt (text : List ℕ) (i j v u : ℕ) : Type 0 where
  pub p : ℕ
  pub q : ℕ
  pub owner : WordAt text i p v
  pub dot : TokenAt text p q (key point)
  pub attribute : WordAt text q j u

-- IN, the relation with a code, and the parenthesis
pub record RelationAt (text : List ℕ) (i j v : ℕ) : Type 0 where
  pub p : ℕ
  pub q : ℕ
  pub in-word : TokenAt text i p (key IN)
  pub relation : WordAt text p q v
  pub opens : TokenAt text q j (key left)

-- blanks, from i to j
pub record Blanks (text : List ℕ) (i j : ℕ) : Type 0 where
  pub spells : Spells text i j []
  pub inside : i ≤ length text → j ≤ length text

-- bytes from low to high stand from i to j and no further; after `start` they spell v
pub record Stretch (text : List ℕ) (low high base start i j v : ℕ) : Type 0 where
  pub ends : j ≡ i + length (run (within low high) (drop i text))
  pub spells : v ≡ capped (positional base low start (run (within low high) (drop i text)))

-- digits and blanks
pub record DigitsAt (text : List ℕ) (i j v : ℕ) : Type 0 where
  pub stop : ℕ
  pub some : i < stop
  pub digits : Stretch text 48 57 10 0 i stop v
  pub blanks : Blanks text stop j
