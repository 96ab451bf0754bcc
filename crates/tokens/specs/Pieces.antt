-- What the code gives, as the definitions of QUEL have it: a token at the front of some bytes, and all tokens of a text.
use Rattle.std.specs.Prelude.{ℕ, ◌≤◌, false, List, [], ◌∷◌, ◌≡◌, eqb, length, drop, Option, Some, None}
use Rattle.quel.specs.Results.{Read, fail, ok}
use Rattle.quel.specs.Tokens.{Token, is_letter, is_digit, run, token, with_equal}
use Rattle.tokens.specs.Codes.{Spelt}
use Rattle.tokens.specs.Kinds.{number_of}
use Rattle.tokens.specs.Table.{Table, token_of, tokens_at}
use Rattle.tokens.specs.declared.Piece.{Piece}

-- the token that begins with the first byte
abbrev pub leading : List ℕ → Read (List ℕ) Token
leading [] = fail
leading (b ∷ bs) = token b bs

-- the token that a piece stands for, and the bytes after it
abbrev pub stands : Option Piece → List ℕ → Read (List ℕ) Token
stands (Some p) s = ok (token_of (number_of p.kind) (run is_letter s) p.value) (drop p.size s)
stands None s = fail

-- it takes some of the bytes
abbrev pub Fits : Option Piece → List ℕ → Type 0
Fits (Some p) s = (1 ≤ p.size) × (p.size ≤ length s)
Fits None s = Unit {0}

-- a name with its code
abbrev pub Names : Option Piece → List ℕ → Type 0
Names (Some p) s = number_of p.kind ≡ 0 → Spelt (run is_letter s) p.value × (1 ≤ length (run is_letter s))
Names None s = Unit {0}

pub record Leads (p : Option Piece) (s : List ℕ) : Type 0 where
  pub says : stands p s ≡ leading s
  pub fits : Fits p s
  pub names : Names p s

-- the byte b begins < with 9 and 10, > with 11 and 12
pub record Opens (alone with : ℕ) (b : ℕ) : Type 0 where
  pub some-alone : 1 ≤ alone
  pub some-with : 1 ≤ with
  pub reads : (r w v : List ℕ) (n m : ℕ) → token b r ≡ with_equal (token_of alone w n) (token_of with v m) r

-- of no other class than the signs of one byte
pub record Single (b : ℕ) : Type 0 where
  pub no-letter : is_letter b ≡ false
  pub no_digit : is_digit b ≡ false
  pub no_minus : eqb b 45 ≡ false
  pub no_less : eqb b 60 ≡ false
  pub no_more : eqb b 62 ≡ false

-- the tokens that the arrays hold
abbrev pub read_of : Option ℕ → List ℕ → Table → Read (List ℕ) (List Token)
read_of (Some n) text t = ok (tokens_at text t 0 n) []
read_of None text t = fail

abbrev pub counted : Option ℕ → ℕ
counted (Some n) = n
counted None = 0
