-- A walk from record to record.
use mathlib.Core.Path.{◌≡◌, refl, sym, ap, ap₂, ◌∙◌}
use mathlib.Core.Bool.{Bool, true, false, not, cond, ◌&&◌, ◌||◌}
use mathlib.Core.List.{List, [], ◌∷◌, ◌++◌}
use Prim.Native.Nat.{ℕ, zero, suc, ◌+◌, ◌-◌, ◌<◌, ◌≤◌}
use native.Mathlib.Omega.{arith}
use lib.Dec.{eqb}
use lib.ListN.{length, get_or, drop, take, length-drop, drop_of_length-le}
use lib.Seq.{drop-drop, get_or-drop}
use borrow.Author.Tests.{eq-eqb, ne_eqb}
use Rattle.quel.specs.Results.{Word, same_word}
use Rattle.quel.specs.Tokens.{is_letter, run}
use Rattle.quel.specs.Names.{Entry}
use Rattle.model.proofs.Lists.{first-at}
use Rattle.names.specs.Entries.{place_of, width_of, name_at, entry_at, entries_after, entries}
use Rattle.names.specs.Search.{is_named, seek_after, seek}

pub place-small : (k : ℕ) → (2 ≤ place_of k) × (place_of k ≤ 5)
unfolding place_of
place-small k = go (eqb k 80) (eqb k 81)
  where
    go : (a b : Bool) → (2 ≤ cond a 2 (cond b 3 5)) × (cond a 2 (cond b 3 5) ≤ 5)
    go true b = (omega arith, omega arith)
    go false true = (omega arith, omega arith)
    go false false = (omega arith, omega arith)

-- what follows the first record
past_first : {A : Type 0} (f : List ℕ → A) (b : ℕ) (q : List ℕ) → f (drop (width_of b - 1) q) ≡ f (drop (width_of b) (b ∷ q))
past_first f b q =
    let e : width_of b ≡ suc (width_of b - 1) = omega arith in
    ap (λ (n : ℕ). f (drop n (b ∷ q))) (sym e)

entries-after : (n : ℕ) (x : List ℕ) → entries_after n x ≡ entries (drop n x)
unfolding entries_after entries
entries-after zero [] = refl
entries-after (suc n) [] = refl
entries-after zero (b ∷ q) = refl
entries-after (suc n) (b ∷ q) = entries-after n q

pub entries-cons : (b : ℕ) (q : List ℕ) → entries (b ∷ q) ≡ entry_at (b ∷ q) ++ entries (drop (width_of b) (b ∷ q))
unfolding entries_after entries
entries-cons b q = ap (λ (l : List Entry). entry_at (b ∷ q) ++ l) (entries-after (width_of b - 1) q ∙ past_first entries b q)

pub entries_none : entries [] ≡ []
unfolding entries_after entries
entries_none = refl

module _ (p : List ℕ → Bool) where
  seek-after : (n : ℕ) (x : List ℕ) → seek_after p n x ≡ seek p (drop n x)
  unfolding seek_after seek
  seek-after zero [] = refl
  seek-after (suc n) [] = refl
  seek-after zero (b ∷ q) = refl
  seek-after (suc n) (b ∷ q) = seek-after n q

  pub seek-cons : (b : ℕ) (q : List ℕ) → seek p (b ∷ q) ≡ cond (p (b ∷ q)) (b ∷ q) (seek p (drop (width_of b) (b ∷ q)))
  unfolding seek_after seek
  seek-cons b q = ap (λ (l : List ℕ). cond (p (b ∷ q)) (b ∷ q) l) (seek-after (width_of b - 1) q ∙ past_first (seek p) b q)

  pub seek-some : (x : List ℕ) → 0 < length x → seek p x ≡ cond (p x) x (seek p (drop (width_of (get_or x 0 0)) x))
  seek-some [] h = absurd (omega arith)
  seek-some (b ∷ q) h = seek-cons b q

  pub seek-none : seek p [] ≡ []
  unfolding seek_after seek
  seek-none = refl

pub name-at : (x : List ℕ) (at o : ℕ) → name_at (drop at x) o ≡ name_at x (at + o)
unfolding name_at
name-at x at o = ap (λ (y : List ℕ). run is_letter (take 12 y)) (drop-drop o at x)

-- one turn of a walk, at a record of kind k
module _ (x : List ℕ) (at k o : ℕ) (h : at < length x) (ek : k ≡ get_or x at 0) (eo : o ≡ place_of k) where
  some_left : 0 < length (drop at x)
  some_left = simp length-drop (omega arith)

  pub rest_at : drop (width_of (get_or (drop at x) 0 0)) (drop at x) ≡ drop (at + (o + 12)) x
  rest_at = drop-drop (width_of (get_or (drop at x) 0 0)) at x ∙ ap (λ (n : ℕ). drop (at + n) x) (ap (λ (i : ℕ). i + 12) (ap place_of (first-at at x ∙ sym ek) ∙ sym eo))

  module _ (p : List ℕ → Bool) (t : Bool) (et : t ≡ p (drop at x)) (y : List ℕ) (e : seek p (drop at x) ≡ y) where
    pub seek-on : t ≡ false → seek p (drop (at + (o + 12)) x) ≡ y
    seek-on f =
        sym (ap (seek p) rest_at)
        ∙ sym (ap (λ (b : Bool). cond b (drop at x) (seek p (drop (width_of (get_or (drop at x) 0 0)) (drop at x)))) (sym et ∙ f))
        ∙ sym (seek-some p (drop at x) some_left)
        ∙ e

pub seek_found : (x : List ℕ) (at : ℕ) (p : List ℕ → Bool) (t : Bool) (y : List ℕ) → at < length x → t ≡ p (drop at x) → seek p (drop at x) ≡ y → t ≡ true → drop at x ≡ y
seek_found x at p t y h et e f =
    sym (ap (λ (b : Bool). cond b (drop at x) (seek p (drop (width_of (get_or (drop at x) 0 0)) (drop at x)))) (sym et ∙ f))
    ∙ sym (seek-some p (drop at x) (simp length-drop (omega arith)))
    ∙ e

pub seek-end : (x : List ℕ) (at : ℕ) (p : List ℕ → Bool) (y : List ℕ) → length x ≤ at → seek p (drop at x) ≡ y → [] ≡ y
seek-end x at p y h e = sym (seek-none p) ∙ sym (ap (seek p) (drop_of_length-le x h)) ∙ e

-- whether the record at a place has the name, by the outcomes of the tests
module _ (x : List ℕ) (at b k q : ℕ) (w : Word) (eb : b ≡ get_or x at 0) where
  pub named-of : is_named k q w (drop at x) ≡ (eqb b k && ((not (eqb k 81) || eqb (get_or x (at + 1) 0) q) && same_word (name_at x (at + place_of k)) w))
  unfolding is_named
  named-of =
      ap₂ (λ (c d : ℕ). eqb c k && ((not (eqb k 81) || eqb d q) && same_word (name_at (drop at x) (place_of k)) w)) (first-at at x ∙ sym eb) (get_or-drop at x 1 0)
      ∙ ap (λ (n : Word). eqb b k && ((not (eqb k 81) || eqb (get_or x (at + 1) 0) q) && same_word n w)) (name-at x at (place_of k))

  pub named-kind : (b ≡ k → ⊥) → false ≡ is_named k q w (drop at x)
  named-kind ne = sym (named-of ∙ ap (λ (t : Bool). t && ((not (eqb k 81) || eqb (get_or x (at + 1) 0) q) && same_word (name_at x (at + place_of k)) w)) (ne_eqb b k ne))

  module _ (h : b ≡ k) (t : Bool) (et : t ≡ (not (eqb k 81) || eqb (get_or x (at + 1) 0) q)) where
    named-rest : is_named k q w (drop at x) ≡ (t && same_word (name_at x (at + place_of k)) w)
    named-rest = named-of ∙ ap₂ (λ (c d : Bool). c && (d && same_word (name_at x (at + place_of k)) w)) (eq-eqb b k h) (sym et)

    pub named-apart : t ≡ false → false ≡ is_named k q w (drop at x)
    named-apart f = sym (named-rest ∙ ap (λ (c : Bool). c && same_word (name_at x (at + place_of k)) w) f)

    pub named-is : (o : ℕ) (s : Bool) → t ≡ true → o ≡ place_of k → s ≡ same_word (name_at x (at + o)) w → s ≡ is_named k q w (drop at x)
    named-is o s f eo es = es ∙ ap (λ (i : ℕ). same_word (name_at x (at + i)) w) eo ∙ sym (named-rest ∙ ap (λ (c : Bool). c && same_word (name_at x (at + place_of k)) w) f)

pub place-relation : (k : ℕ) → k ≡ 80 → 2 ≡ place_of k
unfolding place_of
place-relation k h = sym (rw (eq-eqb k 80 h))

pub place-attribute : (k : ℕ) → k ≡ 81 → 3 ≡ place_of k
unfolding place_of
place-attribute k h = sym (ap place_of h)

pub place_other : (k : ℕ) → (k ≡ 80 → ⊥) → (k ≡ 81 → ⊥) → 5 ≡ place_of k
unfolding place_of
place_other k h i = sym (rw (ne_eqb k 80 h, ne_eqb k 81 i))

-- where a byte is not 0 the list goes on
pub some-byte : (x : List ℕ) (at : ℕ) → 1 ≤ get_or x at 0 → at < length x
some-byte [] at h = absurd (omega arith)
some-byte (b ∷ x) zero h = omega arith
some-byte (b ∷ x) (suc at) h = omega (arith, some-byte x at h)
