-- The name list by codes, in one table of 256 words: for each of the slots 1 to 63 the code of a name, 64 words further the place of its record in the list, 128 words
-- further the last slot before it in its bucket; from 192 on the last slot of each of 64 buckets. A link is 0 where there is no slot.
use Rattle.std.specs.Prelude.{ℕ, zero, suc, ◌+◌, ◌%◌, ◌≤◌, ◌<◌, ◌≡◌, Bool, false, not, cond, ◌&&◌, ◌||◌, List, [], ◌∷◌, eqb, leb, length, get_or, set, drop}
use Rattle.std.proofs.Math.Option.{Option, none, some}
use Rattle.model.specs.Lists.{any, all}
use Rattle.quel.specs.Results.{Word}
use Rattle.quel.specs.Tokens.{is_letter, run, is_reserved}
use Rattle.quel.specs.Names.{Bytes}
use Rattle.tokens.specs.Kinds.{code_of}
use Rattle.tokens.specs.Codes.{Spelt}
use Rattle.parts.specs.Places.{Named}
use Rattle.names.specs.Search.{name_of, is_named, seek, Index}

-- the code of the letters in front, if there are some and spaces fill the rest; 0 otherwise
unfoldable pub padded_code : ℕ → ℕ → List ℕ → ℕ
padded_code n code x = cond (leb 1 n && all (λ b. eqb b 32) (drop n x)) code 0

unfoldable pub letter_code : List ℕ → ℕ
letter_code x = padded_code (length (run is_letter x)) (code_of (run is_letter x)) x

-- the record at a place is of a kind, and, an attribute, belongs to a relation
abbrev pub is_like : List ℕ → ℕ → ℕ → ℕ → Bool
is_like x i k q = eqb (get_or x i 0) k && (not (eqb k 81) || eqb (get_or x (i + 1) 0) q)

-- the places of the first n slots
unfoldable pub places_of : List ℕ → ℕ → List ℕ
places_of t zero = []
places_of t (suc n) = get_or t (64 + suc n) 0 ∷ places_of t n

-- l is the last slot of bucket h before slot s
pub record Link (t : List ℕ) (s h l : ℕ) : Type 0 where
  pub below : l < s
  pub own : 1 ≤ l → get_or t l 0 % 64 ≡ h
  pub last : (i : ℕ) → 1 ≤ i → i < s → get_or t i 0 % 64 ≡ h → i ≤ l

-- slot s has a record of the list x, and the code of its name, which is no reserved word
pub record Slot (x t : List ℕ) (s : ℕ) : Type 0 where
  pub spelt : Spelt (name_of x (get_or t (64 + s) 0)) (get_or t s 0)
  pub free : is_reserved (name_of x (get_or t (64 + s) 0)) ≡ false
  pub inside : get_or t (64 + s) 0 + 14 ≤ length x

-- the first n slots have the records of x before a place
pub record Filled (x t : List ℕ) (at n : ℕ) : Type 0 where
  pub size : length t ≡ 256
  pub few : n ≤ 63
  pub slots : (s : ℕ) → 1 ≤ s → s ≤ n → Slot x t s
  pub links : (s : ℕ) → 1 ≤ s → s ≤ n → Link t s (get_or t s 0 % 64) (get_or t (128 + s) 0)
  pub heads : (h : ℕ) → h < 64 → Link t (n + 1) h (get_or t (192 + h) 0)
  pub index : Index x at (places_of t n)

-- some of the list's records, and all of them
pub record Begun (x t : List ℕ) : Type 0 where
  pub at : ℕ
  pub count : ℕ
  pub filled : Filled x t at count

pub record Indexed (x t : List ℕ) : Type 0 where
  pub count : ℕ
  pub filled : Filled x t (length x) count

-- a record more, in slot s
unfoldable pub put_in : List ℕ → ℕ → ℕ → ℕ → List ℕ
put_in t s code at = set (set (set (set t s code) (64 + s) at) (128 + s) (get_or t (192 + code % 64) 0)) (192 + code % 64) s

-- the place r of a record among the first n slots, past the list where none is named so
pub record Sought (x t : List ℕ) (n k q : ℕ) (w : Word) (r : ℕ) : Type 0 where
  pub hit : r < length x → seek (is_named k q w) x ≡ drop r x
  pub free : r < length x → is_reserved w ≡ false
  pub miss : length x ≤ r → any (λ (i : ℕ). is_named k q w (drop i x)) (places_of t n) ≡ false

-- what a word says, at the place r of its record; nothing past the list
pub record Told {A : Type 0} (x : List ℕ) (w : Word) (r : ℕ) (says : Option A) (a : A) : Type 0 where
  pub found : r < length x → says ≡ some a
  pub named : r < length x → Named w
  pub missing : length x ≤ r → says ≡ none

-- a value's four bytes, after the kind
abbrev pub bytes_at : List ℕ → ℕ → Bytes
bytes_at x i = record { b0 = get_or x (i + 1) 0; b1 = get_or x (i + 2) 0; b2 = get_or x (i + 3) 0; b3 = get_or x (i + 4) 0 }
