-- How the code searches a name list: the bytes from the first record on that has a name.
use Rattle.std.specs.Prelude.{Option, Some, None, ℕ, zero, suc, ◌+◌, ◌*◌, ◌-◌, ◌/◌, ◌≤◌, ◌<◌, ◌≡◌, Bool, true, false, not, cond, ◌&&◌, ◌||◌, List, [], ◌∷◌, eqb, leb, ltb, length, get_or, take, drop}
use Rattle.model.specs.Lists.{any, all, Every}
use Rattle.quel.specs.Results.{Word, same_word}
use Rattle.buckets.specs.Chains.{bucket_of, Held, Chained}
use Rattle.quel.specs.Names.{is_padded}
use Rattle.tokens.specs.Spans.{capped}
use Rattle.tokens.specs.Kinds.{code_of}
use Rattle.names.specs.Entries.{place_of, width_of, name_at}

-- the code of a good name at a place, 0 where none stands there
unfoldable pub good_code : List ℕ → ℕ → ℕ
good_code x i = cond (is_padded (name_at x i) (drop i x)) (capped (code_of (name_at x i))) 0

-- the name of the record at a place
abbrev pub name_of : List ℕ → ℕ → Word
name_of x i = name_at x (i + place_of (get_or x i 0))

-- the code of a good record's name, 0 where the one at a place is none
unfoldable pub record_code : List ℕ → ℕ → ℕ
record_code x i = let k = get_or x i 0 in cond (leb 80 k && leb k 82) (good_code x (i + place_of k)) 0

-- whether the record that x starts with has the kind k and the name w, and, an attribute, belongs to the relation q
unfoldable pub is_named : ℕ → ℕ → Word → List ℕ → Bool
is_named k q w x = eqb (get_or x 0 0) k && ((not (eqb k 81) || eqb (get_or x 1 0) q) && same_word (name_at x (place_of k)) w)

-- the bytes from the first record on that passes, after so many that belong to the one before
unfoldable pub seek_after : (List ℕ → Bool) → ℕ → List ℕ → List ℕ
seek_after p n [] = []
seek_after p (suc n) (b ∷ q) = seek_after p n q
seek_after p zero (b ∷ q) = cond (p (b ∷ q)) (b ∷ q) (seek_after p (width_of b - 1) q)

unfoldable pub seek : (List ℕ → Bool) → List ℕ → List ℕ
seek p x = seek_after p 0 x

-- the bytes from a place on, none where there is no place
abbrev pub found_at : List ℕ → Option ℕ → List ℕ
found_at x (Some i) = drop i x
found_at x None = []

-- whether a later record of its kind has the name of the first (an attribute: and its relation)
unfoldable pub again : List ℕ → Bool
again x = let k = get_or x 0 0 in ltb 0 (length (seek (is_named k (get_or x 1 0) (name_at x (place_of k))) (drop (width_of k) x)))

-- the first record is good, and its name comes once
unfoldable pub good_at : List ℕ → Bool
good_at x = let k = get_or x 0 0 in (leb 80 k && leb k 82) && (is_padded (name_at x (place_of k)) (drop (place_of k) x) && not (again x))

-- Each name once, by the records before: those at xs are in chains by their names (a record has at least 14 bytes).
module _ (x : List ℕ) where
  -- whether a record has the kind, the name and, an attribute, the relation of the one at i
  abbrev pub like : ℕ → List ℕ → Bool
  like i y = is_named (get_or x i 0) (get_or x (i + 1) 0) (name_of x i) y

  abbrev pub HeldIn : ℕ → List ℕ → List ℕ → List ℕ → Type 0
  HeldIn at heads nexts xs = Held (λ (i : ℕ). bucket_of (name_of x i)) (λ (i : ℕ). i / 14) at heads nexts xs

  abbrev pub ChainedIn : ℕ → List ℕ → List ℕ → Type 0
  ChainedIn at heads nexts = Chained (λ (i : ℕ). bucket_of (name_of x i)) (λ (i : ℕ). i / 14) at heads nexts

  -- one of the records at xs is like the one at i
  abbrev pub listed_before : ℕ → List ℕ → Bool
  listed_before i xs = any (λ (j : ℕ). like i (drop j x)) xs

  -- some record from a place on is like the one at i
  abbrev pub later : ℕ → ℕ → Bool
  later i at = ltb 0 (length (seek (like i) (drop at x)))

  -- no record from a place on is like one of those at xs
  abbrev pub apart : List ℕ → ℕ → Bool
  apart xs at = all (λ (i : ℕ). not (later i at)) xs

  abbrev pub after : ℕ → ℕ
  after i = i + width_of (get_or x i 0)

  -- the records at xs are all before a place, and none is named as another: a search ends at the one of them that has the name, or goes on there
  pub record Index (at : ℕ) (xs : List ℕ) : Type 0 where
    pub hit : Every (λ (i : ℕ). (k q : ℕ) (w : Word) → is_named k q w (drop i x) ≡ true → seek (is_named k q w) x ≡ drop i x) xs
    pub none : (k q : ℕ) (w : Word) → any (λ (i : ℕ). is_named k q w (drop i x)) xs ≡ false → seek (is_named k q w) x ≡ seek (is_named k q w) (drop at x)

  -- the answer at record i, with b the answer of all that is left: what it says of this record, and the records that are held to those after it
  pub record Told (i : ℕ) (xs heads nexts : List ℕ) (r : Bool) : Type 0 where
    pub places : List ℕ
    pub says : (b : Bool) → ((not (later i (after i)) && b) && apart xs i) ≡ (r && (b && apart places (after i)))
    pub held : r ≡ true → HeldIn (after i) heads nexts places
    pub index : r ≡ true → i / 14 < length nexts → Index i xs → Index (after i) places

  -- the whole list, chained as far as the table goes
  pub record IndexedBy (heads nexts : List ℕ) : Type 0 where
    pub places : List ℕ
    pub top : ℕ
    pub end : length x ≤ top
    pub held : HeldIn top heads nexts places
    pub inside : Every (λ (i : ℕ). i ≤ length x) places
    pub index : length x ≤ 14 * length nexts → Index top places

  -- the same, in one table: 512 heads, then the nexts
  pub record Indexed (index : List ℕ) : Type 0 where
    pub room : 512 ≤ length index
    pub most : length index ≤ 4608
    pub chains : IndexedBy (take 512 index) (drop 512 index)
