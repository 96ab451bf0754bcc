-- A name as one number: two names of up to twelve letters are the same where their numbers are.
use Rattle.std.specs.Prelude.{ℕ, ◌≤◌, ◌<◌, true, List, ◌≡◌, length, get_or}
use Rattle.model.specs.Lists.{all}
use Rattle.quel.specs.Results.{Word}
use Rattle.quel.specs.Tokens.{is_letter}
use Rattle.tokens.specs.Spans.{capped}
use Rattle.tokens.specs.Kinds.{code_of}
use Rattle.tokens.specs.Table.{Table, word_in}

-- v is the code of the word
pub record Spelt (w : Word) (v : ℕ) : Type 0 where
  pub letters : all is_letter w ≡ true
  pub code : v ≡ capped (code_of w)

-- the first n tokens that are names have their codes
pub record Coded (text : List ℕ) (t : Table) (n : ℕ) : Type 0 where
  pub spelt : (i : ℕ) → i < n → get_or t.kinds i 0 ≡ 0 → Spelt (word_in text t i) (get_or t.numbers i 0) × (1 ≤ length (word_in text t i))
