-- Of tables that were filled, check 33 and the length of the rewritten query are the model's.
use mathlib.Core.Path.{◌≡◌, refl, sym, ap, ap₂, ◌∙◌}
use mathlib.Core.Bool.{Bool, true, false, not, cond, ◌&&◌, ◌||◌}
use mathlib.Core.List.{List, [], ◌∷◌, map}
use Prim.Native.Nat.{ℕ, zero, suc, ◌+◌, ◌*◌, ◌-◌, ◌/◌, ◌%◌, ◌≤◌, ◌<◌}
use native.Mathlib.Nat.{add-zero}
use native.Mathlib.Omega.{arith}
use lib.Dec.{eqb, ltb}
use lib.ListN.{length, get_or, set, drop, replicate, length-drop}
use borrow.Author.Tests.{eq-eqb, ne_eqb, ltb-true}
use Rattle.model.specs.Lists.{any, all, filter, cons_if, total, Every}
use Rattle.model.specs.Syntax.{Condition, Binding, Query, Permit, bindings_q}
use Rattle.model.specs.Encoding.{encode_query, permits_of}
use Rattle.model.specs.Catalogue.{Shape, catalogue_of, shape_of, stored_at}
use Rattle.model.specs.Permits.{used_of, applies, bars, only, guard_of, guards_of}
use Rattle.model.specs.Checks.{fails10, fails20, fails21, served, fails33, rewritten_bytes}
use Rattle.model.proofs.Tests.{clash, or_no, not-no}
use Rattle.model.proofs.Sizes.{size, size-encode}
use Rattle.model.proofs.Passed.{all-every}
use Rattle.catalogue.proofs.Reading.{stored_is}
use Rattle.scans.specs.Flat.{flat_bindings}
use Rattle.scans.proofs.Whole.{bindings-query}
use Rattle.permits.specs.Entries.{size_of}
use Rattle.permits.proofs.Walk.{size_few}
use Rattle.copier.specs.Guard.{bits_of}
use Rattle.copier.proofs.Encoded.{bits-some}
use Rattle.guards.specs.Filled.{placed_from}
use Rattle.guards.specs.Counted.{served_by, turn_length, length_from, length_by, rewritten_length, Short}
use Rattle.model.proofs.Barred.{Filled, filled-guard}
use Rattle.guards.proofs.Lengths.{joined_bytes, guard_bytes, bytes_for, rewritten-size}
use Rattle.guards.proofs.Stands.{written, LengthsOf, lengths-of, few-permits, mask_is}

all-cong : {A : Type 0} (f g : A → Bool) → ((x : A) → f x ≡ g x) → (xs : List A) → all f xs ≡ all g xs
unfolding all
all-cong f g h [] = refl
all-cong f g h (x ∷ xs) = ap₂ (λ (a b : Bool). a && b) (h x) (all-cong f g h xs)

-- numbers that agree where P holds
total-where : {A : Type 0} (P : A → Type 0) (f g : A → ℕ) → ((x : A) → P x → f x ≡ g x) → (xs : List A) → Every P xs → total f xs ≡ total g xs
unfolding total Every
total-where P f g h [] w = refl
total-where P f g h (x ∷ xs) w = ap₂ (λ (a b : ℕ). a + b) (h x w.0) (total-where P f g h xs w.1)

-- a mask is 0 where no permit applies
module _ {A : Type 0} (t : A → Bool) where
  none-bits : (xs : List A) → any t xs ≡ false → bits_of t xs ≡ 0
  unfolding bits_of any
  none-bits [] h = refl
  none-bits (x ∷ xs) h =
      let i = or_no (t x) (any t xs) h in
      ap (λ (b : Bool). cond b 1 0 + 2 * bits_of t xs) i.0 ∙ omega (arith, none-bits xs i.1)

  bits-any : (xs : List A) → not (eqb (bits_of t xs) 0) ≡ any t xs
  bits-any xs = go (any t xs) refl
    where
      go : (b : Bool) → any t xs ≡ b → not (eqb (bits_of t xs) 0) ≡ any t xs
      go true h = ap not (ne_eqb (bits_of t xs) 0 (bits-some t xs h)) ∙ sym h
      go false h = ap not (eq-eqb (bits_of t xs) 0 (none-bits xs h)) ∙ sym h

-- a mask of no permit adds nothing
length-zero : (places : List ℕ) (n k : ℕ) → length_from places n 0 k ≡ 0
unfolding length_from
length-zero places zero k = refl
length-zero places (suc n) k = omega (arith, length-zero places n (suc k))

-- the permits of a mask add their conditions, each with one byte more
module _ (u : Permit → Bool) (places : List ℕ) where
  lengths-filter : (ps : List Permit) (n k : ℕ) → length ps ≤ n → LengthsOf places k ps → length_from places n (bits_of u ps) k ≡ total (λ (p : Permit). suc (length (written p))) (filter u ps)
  unfolding length_from bits_of filter total LengthsOf
  lengths-filter [] n k h l = length-zero places n k
  lengths-filter (p ∷ ps) zero k h l = absurd (omega arith)
  lengths-filter (p ∷ ps) (suc n) k h l = go (u p) (lengths-filter ps n (suc k) (omega arith) l.1)
    where
      go : (b : Bool) → length_from places n (bits_of u ps) (suc k) ≡ total (λ (p : Permit). suc (length (written p))) (filter u ps)
          → turn_length places (cond b 1 0 + 2 * bits_of u ps) k + length_from places n ((cond b 1 0 + 2 * bits_of u ps) / 2) (suc k) ≡ total (λ (p : Permit). suc (length (written p))) (cons_if b p (filter u ps))
      go true i =
          let e : (1 + 2 * bits_of u ps) / 2 ≡ bits_of u ps = omega arith in
          let o : (1 + 2 * bits_of u ps) % 2 ≡ 1 = omega arith in
          rw (eq-eqb ((1 + 2 * bits_of u ps) % 2) 1 o, e) (ap₂ (λ (a b : ℕ). suc a + b) l.0 i)
      go false i =
          let e : (0 + 2 * bits_of u ps) / 2 ≡ bits_of u ps = omega arith in
          let o : (0 + 2 * bits_of u ps) % 2 ≡ 1 → ⊥ = λ o. omega arith in
          rw (ne_eqb ((0 + 2 * bits_of u ps) % 2) 1 o, e) (omega (arith, i))

joined-are : (ps : List Permit) → total (λ (p : Permit). suc (length (written p))) ps ≡ joined_bytes (map (λ (p : Permit). p.condition) ps)
unfolding total joined_bytes
joined-are [] = refl
joined-are (p ∷ ps) = ap₂ (λ (a b : ℕ). suc a + b) (size-encode p.condition [] ∙ add-zero (size p.condition)) (joined-are ps)

-- a guard that is not empty adds at least a byte
joined-some : (cs : List Condition) → Filled (only cs) → 1 ≤ joined_bytes cs
unfolding Filled joined_bytes total
joined-some [] h = absurd h
joined-some (c ∷ cs) h = omega arith

-- the guard of a variable that passed 33, over a stored relation or not
guard-is : (d x : Bool) (u : Permit → Bool) (places : List ℕ) (ps : List Permit) → length ps ≤ 8 → LengthsOf places 0 ps → (not d || (not x && any u ps)) ≡ true → Filled (guard_of d (map (λ (p : Permit). p.condition) (filter u ps)))
    → length_from places 8 (cond d (cond x 0 (bits_of u ps)) 0) 0 ≡ guard_bytes (guard_of d (map (λ (p : Permit). p.condition) (filter u ps)))
unfolding guard_of guard_bytes
guard-is true true u places ps few l h f = clash h
guard-is true false u places ps few l h f =
    let cs = map (λ (p : Permit). p.condition) (filter u ps) in
    lengths-filter u places ps 8 0 few l
    ∙ joined-are (filter u ps)
    ∙ sym (ap (λ (b : Bool). cond b 2 (joined_bytes cs)) (ne_eqb (joined_bytes cs) 0 (λ z. omega (arith, z, joined-some cs f))))
guard-is false x u places ps few l h f = length-zero places 8 0

module _ (cb pb : List ℕ) (hc : fails10 cb ≡ false) (hp : fails20 pb ≡ false) (h21 : fails21 (permits_of pb) ≡ false) (q : Query) where
  abbrev sh : Shape
  sh = shape_of (catalogue_of cb)

  abbrev ps : List Permit
  ps = permits_of pb

  -- 33 of a binding, by its mask
  served-same : (b : Binding) → served_by (encode_query q) pb cb b ≡ served sh ps q b
  unfolding served_by served
  served-same b =
      ap₂ (λ (d : Bool) (m : ℕ). not d || not (eqb m 0)) (sym (stored_is cb hc b.relation)) (mask_is cb pb hc hp h21 q b)
      ∙ go (stored_at sh b.relation) (any (bars (used_of q b.variable) b.relation) ps)
    where
      u : Permit → Bool
      u = applies (used_of q b.variable) b.relation

      go : (d x : Bool) → (not d || not (eqb (cond d (cond x 0 (bits_of u ps)) 0) 0)) ≡ (not d || (not x && any u ps))
      go true true = refl
      go true false = bits-any u ps
      go false x = refl

  -- the length of its guard
  length-same : (places : List ℕ) → LengthsOf places 0 ps → (b : Binding) → served sh ps q b ≡ true → length_by (encode_query q) pb cb places b ≡ guard_bytes (guards_of sh ps q b.variable b.relation)
  unfolding guards_of served
  length-same places l b h =
      ap (λ (m : ℕ). length_from places 8 m 0) (mask_is cb pb hc hp h21 q b)
      ∙ guard-is (stored_at sh b.relation) (any (bars (used_of q b.variable) b.relation) ps) (applies (used_of q b.variable) b.relation) places ps (few-permits ps h21) l h (filled-guard sh ps q b h)

  -- check 33
  pub served-all : not (all (served_by (encode_query q) pb cb) (flat_bindings (encode_query q))) ≡ fails33 sh ps q
  unfolding fails33
  served-all = ap not (ap (all (served_by (encode_query q) pb cb)) (bindings-query q) ∙ all-cong (served_by (encode_query q) pb cb) (served sh ps q) served-same (bindings_q q))

  -- the length, where 33 passed
  pub length-all : fails33 sh ps q ≡ false → (places : List ℕ) → 16 ≤ length places → rewritten_length (encode_query q) pb cb (placed_from 8 pb 0 0 places) ≡ length (rewritten_bytes sh ps q)
  unfolding fails33 rewritten_length rewritten_bytes bytes_for
  length-all h places room =
      let P = placed_from 8 pb 0 0 places in
      let g = length_by (encode_query q) pb cb P in
      ap (λ (bs : List Binding). length (encode_query q) + total g bs) (bindings-query q)
      ∙ ap (λ (n : ℕ). length (encode_query q) + n)
      (total-where (λ (b : Binding). served sh ps q b ≡ true) g (λ (b : Binding). guard_bytes (guards_of sh ps q b.variable b.relation)) (length-same P (lengths-of pb places hp h21 room)) (bindings_q q) (all-every (served sh ps q) (bindings_q q) (not-no (all (served sh ps q) (bindings_q q)) h)))
      ∙ sym (rewritten-size (guards_of sh ps q) q)

-- numbers below a bound stay below it
pub set_below : (n : ℕ) (l : List ℕ) (i x j : ℕ) → get_or l j 0 < n → x < n → get_or (set l i x) j 0 < n
set_below n [] i x j h k = h
set_below n (a ∷ l) zero x zero h k = k
set_below n (a ∷ l) zero x (suc j) h k = h
set_below n (a ∷ l) (suc i) x zero h k = h
set_below n (a ∷ l) (suc i) x (suc j) h k = set_below n l i x j h k

-- places and lengths stay within the list, or just past its end
set-short : (l : List ℕ) (i x j : ℕ) → get_or l j 0 ≤ 4096 → x ≤ 4096 → get_or (set l i x) j 0 ≤ 4096
set-short l i x j h k = omega (arith, set_below 4097 l i x j (omega (arith, h)) (omega (arith, k)))

places-short : (list : List ℕ) → length list ≤ 2048 → (n at k : ℕ) (places : List ℕ) (j : ℕ) → get_or places j 0 ≤ 4096 → get_or (placed_from n list at k places) j 0 ≤ 4096
unfolding placed_from
places-short list s zero at k places j h = h
places-short list s (suc n) at k places j h =
    go (ltb at (length list)) refl
    (λ e. places-short list s n (at + size_of (drop at list)) (k + 1) next j e)
  where
    next : List ℕ
    next = set (set places (2 * k) (at + 4)) (2 * k + 1) (size_of (drop at list) - 4)

    go : (b : Bool) → ltb at (length list) ≡ b → (get_or next j 0 ≤ 4096 → get_or (placed_from n list (at + size_of (drop at list)) (k + 1) next) j 0 ≤ 4096)
        → get_or (cond b (placed_from n list (at + size_of (drop at list)) (k + 1) next) places) j 0 ≤ 4096
    go true e i =
        let l = ltb-true at (length list) e in
        let f : size_of (drop at list) - 4 ≤ 4096 = omega (arith, size_few (drop at list), length-drop at list, s) in
        i (set-short (set places (2 * k) (at + 4)) (2 * k + 1) (size_of (drop at list) - 4) j (set-short places (2 * k) (at + 4) j h (omega (arith, l, s))) f)
    go false e i = h

pub blank-short : (n : ℕ) → Short (replicate n 0)
blank-short n = record { short = go n }
  where
    go : (n i : ℕ) → get_or (replicate {A = ℕ} n 0) i 0 ≤ 4096
    go zero i = omega arith
    go (suc n) zero = omega arith
    go (suc n) (suc i) = go n i

pub filled-short : (list : List ℕ) → length list ≤ 2048 → (places : List ℕ) → Short places → Short (placed_from 8 list 0 0 places)
filled-short list s places h = record { short = λ i. places-short list s 8 0 0 places i (h.short i) }
