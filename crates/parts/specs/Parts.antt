-- Parts of a text, read from the left with no token kept: what stands from one place to another, and what it derives.
use Rattle.std.specs.Prelude.{ℕ, ◌≤◌, List, [], ◌∷◌, ◌++◌, ◌≡◌, length, get_or, drop}
use Rattle.std.proofs.Math.Option.{Option, none, some}
use Rattle.quel.specs.Results.{Several}
use Rattle.quel.specs.Tokens.{Key, right, Token, key}
use Rattle.quel.specs.Lexical.{Spelled}
use Rattle.quel.specs.Tree.{Formula, Or}
use Rattle.quel.specs.Grammar.{IsCondition, IsConjunct, Listed}

-- the given text copied to 256 bytes, with zeros behind it
pub record Copied (text given : List ℕ) : Type 0 where
  pub size : length text ≡ 256
  pub room : length given ≤ 254
  pub same : (i : ℕ) → get_or text i 0 ≡ get_or given i 0

-- the tokens ts stand from i to j: before whatever is spelled from j on
pub record Spells (text : List ℕ) (i j : ℕ) (ts : List Token) : Type 0 where
  pub before : (s : List Token) → Spelled (drop j text) s → Spelled (drop i text) (ts ++ s)

-- the tokens ts derive x, whatever follows them
pub record Part {A : Type 0} (Is : List Token → A → List Token → Type 0) (ts : List Token) (x : A) : Type 0 where
  pub derived : (r : List Token) → Is (ts ++ r) x r

-- a condition and the parenthesis that closes it
abbrev pub IsBracket : List Token → Formula → List Token → Type 0
IsBracket s c r = IsCondition s c (key right ∷ r)

-- items before one that is last
abbrev pub several : {A : Type 0} → List A → A → Several A
several [] x = record { first = x; others = [] }
several (y ∷ ys) x = record { first = y; others = ys ++ (x ∷ []) }

-- the tokens ts are a list up to where an item begins
pub record Listing {A : Type 0} (k : Key) (Is : List Token → A → List Token → Type 0) (ts : List Token) (xs : List A) : Type 0 where
  pub derived : (us : List Token) (x : A) → Part Is us x → Part (Listed k Is) (ts ++ us) (several xs x)

-- what stands before the last V of a condition, if there is one, and the conjunct after it
abbrev pub joined : Option Formula → Formula → Formula
joined none a = a
joined (some c) a = Or c a

-- the tokens ts are a condition up to where a conjunct begins
pub record Opened (ts : List Token) (o : Option Formula) : Type 0 where
  pub derived : (s r : List Token) (a : Formula) → IsConjunct s a r → IsCondition (ts ++ s) (joined o a) r
