-- Names as numbers, 0 for none, and tables of marks by these numbers. w says the name at each place, no letters where there is none.
use Rattle.std.specs.Prelude.{ℕ, ◌≤◌, ◌<◌, Bool, true, false, not, cond, List, ◌≡◌, eqb, length, get_or, set, Option, Some, None}
use Rattle.model.specs.Lists.{any, Every}
use Rattle.quel.specs.Results.{Word, same_word, has_word}
use Rattle.tokens.specs.Table.{Table}
use Rattle.flat.specs.Flat.{uses}
use Rattle.buckets.specs.Chains.{bucket_of, Held}
use Rattle.elaborate.specs.Places.{tokens_from, name_in, bound_place}

-- two places have one number where they have one name
pub record Numbered (w : ℕ → Word) (n : ℕ) (ids : List ℕ) : Type 0 where
  pub same : (x y : ℕ) → same_word (w x) (w y) ≡ eqb (get_or ids x 0) (get_or ids y 0)
  pub most : (x : ℕ) → get_or ids x 0 ≤ n

-- the first i places are numbered, and the first place of each name is chained
pub record Numbering (w : ℕ → Word) (i : ℕ) (heads nexts ids : List ℕ) : Type 0 where
  pub places : List ℕ
  pub held : Held (λ (x : ℕ). bucket_of (w x)) (λ (x : ℕ). x) i heads nexts places
  pub named : Every (λ (x : ℕ). (x < i) × (1 ≤ length (w x))) places
  pub all : (y : ℕ) → y < i → 1 ≤ length (w y) → any (λ (x : ℕ). same_word (w x) (w y)) places ≡ true
  pub some : (y : ℕ) → y < i → 1 ≤ length (w y) → 1 ≤ get_or ids y 0
  pub none : (y : ℕ) → length (w y) ≡ 0 → get_or ids y 0 ≡ 0
  pub later : (y : ℕ) → i ≤ y → get_or ids y 0 ≡ 0
  pub same : (x y : ℕ) → x < i → y < i → 1 ≤ length (w x) → w x ≡ w y → get_or ids x 0 ≡ get_or ids y 0
  pub back : (x y : ℕ) → x < i → y < i → 1 ≤ length (w x) → 1 ≤ length (w y) → get_or ids x 0 ≡ get_or ids y 0 → w x ≡ w y
  pub most : (y : ℕ) → get_or ids y 0 ≤ i

-- r is the number of an earlier place with the name at i
pub record Earlier (w : ℕ → Word) (ids : List ℕ) (i r : ℕ) : Type 0 where
  pub place : ℕ
  pub before : place < i
  pub name : w place ≡ w i
  pub number : r ≡ get_or ids place 0

abbrev pub Met : (ℕ → Word) → List ℕ → ℕ → List ℕ → Option ℕ → Type 0
Met w ids i xs None = any (λ (x : ℕ). same_word (w x) (w i)) xs ≡ false
Met w ids i xs (Some r) = Earlier w ids i r

-- whether the name at x is marked
abbrev pub marked : List ℕ → List ℕ → ℕ → Bool
marked ids marks x = not (eqb (get_or marks (get_or ids x 0) 0) 0)

-- the name at i is marked, if b, in the table of what names stand for
pub record Noted (ids marks : List ℕ) (i : ℕ) (b : Bool) (after : List ℕ) : Type 0 where
  pub is : after ≡ cond b (set marks (get_or ids i 0) 4) marks

-- marks say which names tokens from a place on use
pub record Used (text : List ℕ) (t : Table) (ids : List ℕ) (from : ℕ) (marks : List ℕ) : Type 0 where
  pub at : (x : ℕ) → marked ids marks x ≡ has_word (name_in text t.kinds t.starts x) (uses 0 (tokens_from text t from))

-- marks say which names the tokens xs bind
pub record Seen (w : ℕ → Word) (ks ids marks xs : List ℕ) : Type 0 where
  pub at : (x : ℕ) → marked ids marks x ≡ any (λ (y : ℕ). same_word (w (bound_place ks y)) (w x)) xs

-- the answer at token i: where it binds a name, this was not marked; it is then
pub record Told (ks ids marks : List ℕ) (i : ℕ) (binds : Bool) (after : List ℕ) (r : Bool) : Type 0 where
  pub says : r ≡ cond binds (not (marked ids marks (bound_place ks i))) true
  pub is : r ≡ true → after ≡ cond binds (set marks (get_or ids (bound_place ks i) 0) 1) marks
