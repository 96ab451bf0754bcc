-- What stands from place i to place j of a text: a word, a name, a sign, a number.
use Rattle.std.specs.Prelude.{ℕ, ◌≤◌, ◌<◌, List, [], ◌∷◌, ◌≡◌, length}
use Rattle.quel.specs.Results.{Word}
use Rattle.quel.specs.Tokens.{Function, Sign, Token, name, function, sign, reserved, word_in}
use Rattle.quel.specs.Elaboration.{operator_of, function_of}
use Rattle.tokens.specs.Codes.{Spelt}
use Rattle.parts.specs.Parts.{Spells}

-- the word is no reserved one
abbrev pub Named : Word → Type 0
Named w = word_in reserved w ≡ name w

module _ (text : List ℕ) (i j : ℕ) where
  -- a word, reserved or a name, with its code
  pub record WordAt (v : ℕ) : Type 0 where
    pub word : Word
    pub spells : Spells text i j (word_in reserved word ∷ [])
    pub spelt : Spelt word v
    pub small : v < 288230376151711744
    pub inside : j ≤ length text

  pub record NameAt (v : ℕ) : Type 0 where
    pub word : Word
    pub spells : Spells text i j (name word ∷ [])
    pub named : Named word
    pub spelt : Spelt word v
    pub small : v < 288230376151711744
    pub inside : j ≤ length text

  -- the one token t
  pub record TokenAt (t : Token) : Type 0 where
    pub spells : Spells text i j (t ∷ [])
    pub inside : j ≤ length text

  -- a sign between terms, by its number
  pub record SignAt (k : ℕ) : Type 0 where
    pub is : Sign
    pub spells : Spells text i j (sign is ∷ [])
    pub number : operator_of is ≡ k
    pub inside : j ≤ length text

  -- a function, by its number
  pub record FunctionAt (k : ℕ) : Type 0 where
    pub is : Function
    pub spells : Spells text i j (function is ∷ [])
    pub number : function_of is ≡ k
    pub inside : j ≤ length text
