-- A walk from permit to permit: what is left of it, at each of its steps.
use mathlib.Core.Path.{◌≡◌, refl, sym, ap, ◌∙◌}
use mathlib.Core.Bool.{Bool, true, false, cond}
use mathlib.Core.List.{List, [], ◌∷◌}
use Prim.Native.Nat.{ℕ, zero, suc, ◌+◌, ◌-◌, ◌<◌, ◌≤◌, max}
use native.Mathlib.Omega.{arith}
use lib.Dec.{eqb}
use lib.ListN.{length, get_or, drop, length-drop}
use borrow.Author.Tests.{eq-eqb, ne_eqb}
use Rattle.kinds.specs.Tables.{record_length}
use Rattle.kinds.proofs.Entries.{length-small}
use Rattle.scans.specs.Flat.{parts_of}
use Rattle.scans.proofs.Walk.{parts-on, parts-over}
use Rattle.permits.specs.Entries.{span_after, span_of, Entry, size_of, entry_at, entries_after, entries}

span-after : (n : ℕ) (q : List ℕ) → span_after n q ≡ n + span_of (drop n q)
unfolding span_after span_of
span-after zero [] = refl
span-after (suc n) [] = omega arith
span-after zero (b ∷ q) = omega arith
span-after (suc n) (b ∷ q) = omega (arith, span-after n q)

-- a record that is no permit, and what follows it
pub span-cons : (b : ℕ) (q : List ℕ) → eqb b 64 ≡ false → span_of (b ∷ q) ≡ record_length b + span_of (drop (record_length b) (b ∷ q))
unfolding span_after span_of
span-cons b q h = ap (λ (t : Bool). cond t 0 (suc (span_after (record_length b - 1) q))) h ∙ go (record_length b) (length-small b).0
  where
    go : (n : ℕ) → 1 ≤ n → suc (span_after (n - 1) q) ≡ n + span_of (drop n (b ∷ q))
    go zero l = absurd (omega arith)
    go (suc n) l =
        let e : suc n - 1 ≡ n = omega arith in
        ap (λ (m : ℕ). suc (span_after m q)) e ∙ omega (arith, span-after n q)

span_head : (x : List ℕ) → 0 < length x → eqb (get_or x 0 0) 64 ≡ false → span_of x ≡ record_length (get_or x 0 0) + span_of (drop (record_length (get_or x 0 0)) x)
span_head [] l h = absurd (omega arith)
span_head (b ∷ q) l h = span-cons b q h

span-permit : (x : List ℕ) → 0 < length x → eqb (get_or x 0 0) 64 ≡ true → span_of x ≡ 0
unfolding span_after span_of
span-permit [] l h = absurd (omega arith)
span-permit (b ∷ q) l h = ap (λ (t : Bool). cond t 0 (suc (span_after (record_length b - 1) q))) h

-- one turn of the walk over the records of a condition, from s to t
module _ (s t x : List ℕ) (b : ℕ) (h : parts_of s ≡ x ∷ parts_of t) (eb : b ≡ get_or x 0 0) (at w : ℕ) (e : at + span_of s ≡ w) where
  first : b ≡ get_or s 0 0
  first = eb ∙ ap (λ (y : List ℕ). get_or y 0 0) (parts-on s t x h).1

  pub span-on : (n : ℕ) → (b ≡ 64 → ⊥) → n ≡ record_length b → at + n + span_of t ≡ w
  span-on n ne en =
      let p = parts-on s t x h in
      let k : span_of s ≡ record_length (get_or s 0 0) + span_of (drop (record_length (get_or s 0 0)) s) = span_head s p.0 (ap (λ (y : ℕ). eqb y 64) (sym first) ∙ ne_eqb b 64 ne) in
      omega (arith, k, ap span_of p.2, en, ap record_length first, e)

  pub span-found : b ≡ 64 → at ≡ w
  span-found eq = omega (arith, span-permit s (parts-on s t x h).0 (ap (λ (y : ℕ). eqb y 64) (sym first) ∙ eq-eqb b 64 eq), e)

  -- a record that ends past the bytes is the last one
  pub span-within : (n l : ℕ) → n ≡ record_length b → n ≤ 5 → (0 < length s → at + length s ≡ l) → (at + n ≤ l + 4) × (0 < length t → at + n + length t ≡ l)
  span-within n l en k m =
      let p = parts-on s t x h in
      let f = m p.0 in
      (omega (arith, p.0), λ q. omega (arith, q, ap length p.2, length-drop (record_length (get_or s 0 0)) s, en, ap record_length first))

-- no bytes have no record
pub span_none : (q : List ℕ) → length q ≡ 0 → 0 ≡ span_of q
unfolding span_after span_of
span_none [] e = refl
span_none (b ∷ q) e = absurd (omega arith)

pub span-end : (s : List ℕ) (at w : ℕ) → parts_of s ≡ [] → at + span_of s ≡ w → at ≡ w
unfolding span_after span_of
span-end [] at w h e = omega arith
span-end (b ∷ s) at w h e = absurd (omega (arith, parts-over (b ∷ s) h))

after_is : (n : ℕ) (x : List ℕ) → entries_after n x ≡ entries (drop n x)
unfolding entries_after entries
after_is zero [] = refl
after_is (suc n) [] = refl
after_is zero (b ∷ q) = refl
after_is (suc n) (b ∷ q) = after_is n q

size-some : (x : List ℕ) → 1 ≤ size_of x
unfolding size_of
size-some x = omega arith

-- the first permit, and those of the bytes after it
pub entries-cons : (x : List ℕ) → 0 < length x → entries x ≡ entry_at x ∷ entries (drop (size_of x) x)
unfolding entries_after entries
entries-cons [] h = absurd (omega arith)
entries-cons (b ∷ q) h = ap (λ (l : List Entry). entry_at (b ∷ q) ∷ l) (after_is (size_of (b ∷ q) - 1) q ∙ go (size_of (b ∷ q)) (size-some (b ∷ q)))
  where
    go : (n : ℕ) → 1 ≤ n → entries (drop (n - 1) q) ≡ entries (drop n (b ∷ q))
    go zero l = absurd (omega arith)
    go (suc n) l = let e : suc n - 1 ≡ n = omega arith in ap (λ (m : ℕ). entries (drop m q)) e

pub entries_none : entries [] ≡ []
unfolding entries entries_after
entries_none = refl

-- a permit ends at most a record past the end
span-most : (n : ℕ) (q : List ℕ) → span_after n q ≤ max n (length q + 4)
unfolding span_after
span-most zero [] = omega arith
span-most (suc n) [] = omega arith
span-most (suc n) (b ∷ q) = omega (arith, span-most n q)
span-most zero (b ∷ q) = go (eqb b 64) (span-most (record_length b - 1) q)
  where
    go : (t : Bool) → span_after (record_length b - 1) q ≤ max (record_length b - 1) (length q + 4) → cond t 0 (suc (span_after (record_length b - 1) q)) ≤ max 0 (suc (length q) + 4)
    go true h = omega arith
    go false h = omega (arith, h, (length-small b).1)

pub size_few : (x : List ℕ) → size_of x ≤ length x + 8
unfolding size_of span_of
size_few x = omega (arith, span-most 0 (drop 4 x), length-drop 4 x)
