-- A text's tokens as the code holds them: for token i its kind, where its word starts in the text, and its number.
use Rattle.std.specs.Prelude.{ℕ, zero, suc, ◌-◌, cond, List, [], ◌∷◌, eqb, get_or, drop}
use Rattle.quel.specs.Results.{Word}
use Rattle.quel.specs.Tokens.{RANGE, RETRIEVE, NOT, SOME, IN, or, and, left, right, comma, colon, semicolon, point, COUNT, SUM, AVE, MAX, MIN, equal, unequal, less, at_most, more, at_least, Token, name, number, function, sign, key, is_letter, run}

pub record Table : Type 0 where
  pub kinds : List ℕ
  pub starts : List ℕ
  pub numbers : List ℕ

-- the kinds from 2 up: functions 2 to 6, signs 7 to 12, keys 13 to 25; 0 is a name and 1 a number
abbrev pub fixed : List Token
fixed =
    function COUNT ∷ function SUM ∷ function AVE ∷ function MAX ∷ function MIN
    ∷ sign equal ∷ sign unequal ∷ sign less ∷ sign at_most ∷ sign more ∷ sign at_least
    ∷ key RANGE ∷ key RETRIEVE ∷ key NOT ∷ key SOME ∷ key IN ∷ key or ∷ key and ∷ key left ∷ key right ∷ key comma ∷ key colon ∷ key semicolon ∷ key point
    ∷ []

unfoldable pub token_of : ℕ → Word → ℕ → Token
token_of k w n = cond (eqb k 0) (name w) (cond (eqb k 1) (number n) (get_or fixed (k - 2) (key point)))

-- a word is read as far as its letters go
unfoldable pub word_in : List ℕ → Table → ℕ → Word
word_in text t i = run is_letter (drop (get_or t.starts i 0) text)

unfoldable pub token_at : List ℕ → Table → ℕ → Token
token_at text t i = token_of (get_or t.kinds i 0) (word_in text t i) (get_or t.numbers i 0)

-- so many tokens from i on
unfoldable pub tokens_at : List ℕ → Table → ℕ → ℕ → List Token
tokens_at text t i zero = []
tokens_at text t i (suc n) = token_at text t i ∷ tokens_at text t (suc i) n
