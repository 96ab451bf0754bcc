-- One step of each function as an equation over plain variables.
use mathlib.Core.Path.{◌≡◌, refl, sym, ap, ap₂, subst, ◌∙◌}
use mathlib.Core.Bool.{Bool, true, false, not, cond, ◌||◌}
use mathlib.Core.List.{List, [], ◌∷◌}
use Prim.Native.Nat.{ℕ, zero, suc, ◌+◌, ◌*◌, ◌-◌, ◌/◌, ◌%◌, ◌^◌, ◌≤◌, ◌<◌}
use native.Mathlib.Nat.{pow-suc}
use native.Mathlib.Omega.{arith}
use native.Mathlib.Numerals.{add-one, sub-one}
use lib.Dec.{eqb}
use lib.ListN.{length, length-drop, drop, set, take, get_or}
use borrow.Author.Tests.{lt-ltb, le-ltb, eq-eqb, ne_eqb, not-true, not-false}
use Rattle.permits.specs.Entries.{Entry, size_of, entry_at, entries}
use Rattle.permits.proofs.Walk.{entries-cons, entries_none}
use Rattle.copier.specs.Guard.{bits_of}
use Rattle.model.specs.Lists.{any}
use Rattle.model.specs.Permits.{bit}
use Rattle.model.proofs.Tests.{or_right, or-false}
use Rattle.catalogue.specs.Layout.{stored_of}
use Rattle.scans.specs.Flat.{flat_uses, used_in}
use Rattle.permits.specs.Applying.{applies_to, bars_from, used_bytes}
use Rattle.guards.proofs.applying.Finds.{applies-same, bars-same}
use Rattle.guards.specs.Filled.{placed_from, verdict_of, mask_unless_barred, mask_for, bit_of}
use Rattle.guards.specs.declared.Verdict.{Verdict}
use Rattle.guards.specs.Counted.{turn_length, length_from, tally_all, passed_if, check33}
use Rattle.guards.specs.declared.Tally.{Tally}
use Rattle.std.specs.Prelude.{Ok, Err}
use Rattle.model.specs.declared.refusal.Refusal.TheVariants.{NoPermit}

module _ (left : ℕ) (list : List ℕ) (at k : ℕ) (places : List ℕ) where
  pub places-none : left ≡ 0 → places ≡ placed_from left list at k places
  unfolding placed_from
  places-none h = rw h

  pub places-end : length list ≤ at → places ≡ placed_from left list at k places
  unfolding placed_from
  places-end h = go left
    where
      go : (n : ℕ) → places ≡ placed_from n list at k places
      go zero = refl
      go (suc n) = rw (le-ltb at (length list) h)

  pub places-next : (own : ℕ) → own ≡ 4 → (rest x y : List ℕ) (n : ℕ) (w : List ℕ) → (left ≡ 0 → ⊥) → at < length list → rest ≡ drop at list → x ≡ set places (2 * k) (at + own) → n ≡ size_of rest → y ≡ set x (2 * k + 1) (n - own)
      → w ≡ placed_from (left - 1) list (at + n) (k + 1) y → w ≡ placed_from left list at k places
  unfolding placed_from
  places-next own eo rest x y n w nz l er ex en ey ew = go left nz ew
    where
      go : (m : ℕ) → (m ≡ 0 → ⊥) → w ≡ placed_from (m - 1) list (at + n) (k + 1) y → w ≡ placed_from m list at k places
      go zero h e = absurd (h refl)
      go (suc m) h e = e ∙ rw (sub-one, lt-ltb at (length list) l, ey, en, ex, er, eo)

pub pow_step : (n : ℕ) → (n ≡ 0 → ⊥) → 2 ^ n ≡ 2 * 2 ^ (n - 1)
pow_step zero h = absurd (h refl)
pow_step (suc n) h = rw sub-one (pow-suc 2 n ∙ omega arith)

grow : (k n : ℕ) → 2 ^ n ≤ 2 ^ (k + n)
grow zero n = let e : n ≡ 0 + n = omega arith in subst (λ (x : ℕ). 2 ^ n ≤ 2 ^ x) e (omega arith)
grow (suc k) n = let e : suc k + n ≡ suc (k + n) = omega arith in subst (λ (x : ℕ). 2 ^ n ≤ 2 ^ x) (sym e) (omega (arith, grow k n, pow-suc 2 (k + n)))

pub pow-few : (n : ℕ) → n ≤ 8 → 2 ^ n ≤ 256
pow-few n h = let e : (8 - n) + n ≡ 8 = omega arith in subst (λ (x : ℕ). 2 ^ n ≤ 2 ^ x) e (grow (8 - n) n)

pub pow_pos : (n : ℕ) → 0 < 2 ^ n
pow_pos zero = omega arith
pow_pos (suc n) = omega (arith, pow_pos n, pow-suc 2 n)

-- the next permit starts within the list, or just past its end
pub next-near : (at n : ℕ) (list rest : List ℕ) → rest ≡ drop at list → at < length list → n ≤ length rest + 8 → length list ≤ 2048 → at + n ≤ 65536
next-near at n list rest e l h s = omega (arith, ap length e, length-drop at list)

-- the permits one by one
module _ (s : ℕ → Bool) (r left : ℕ) (list : List ℕ) where
  pub standing-none : left ≡ 0 → record { mask = 0; barred = false } ≡ verdict_of s r (take left (entries list))
  unfolding verdict_of bits_of any
  standing-none h = rw h

  pub standing-empty : length list ≡ 0 → record { mask = 0; barred = false } ≡ verdict_of s r (take left (entries list))
  unfolding verdict_of bits_of any
  standing-empty h = go list h left
    where
      go : (x : List ℕ) → length x ≡ 0 → (n : ℕ) → record { mask = 0; barred = false } ≡ verdict_of s r (take n (entries x))
      go [] e zero = refl
      go [] e (suc n) = ap (λ (es : List Entry). verdict_of s r (take (suc n) es)) (sym entries_none)
      go (b ∷ x) e n = absurd (omega arith)

  pub standing-next : (n : ℕ) (rest : List ℕ) (b d w : Bool) (f : ℕ) (x : Verdict) → (left ≡ 0 → ⊥) → (length list ≡ 0 → ⊥) → b ≡ applies_to s r (entry_at list) → f ≡ bit_of b → d ≡ bars_from s r (entry_at list) → n ≡ size_of list → rest ≡ drop n list
      → x ≡ verdict_of s r (take (left - 1) (entries rest)) → w ≡ (d || x.barred) → record { mask = f + 2 * x.mask; barred = w } ≡ verdict_of s r (take left (entries list))
  unfolding verdict_of bits_of any
  standing-next n rest b d w f x nz ne eb ef ed en er ex ew = go left nz ex
    where
      go : (k : ℕ) → (k ≡ 0 → ⊥) → x ≡ verdict_of s r (take (k - 1) (entries rest)) → record { mask = f + 2 * x.mask; barred = w } ≡ verdict_of s r (take k (entries list))
      go zero h e = absurd (h refl)
      go (suc k) h e =
          let c : entries list ≡ entry_at list ∷ entries (drop (size_of list) list) = entries-cons list (omega arith) in
          let g : x ≡ verdict_of s r (take k (entries (drop (size_of list) list))) = e ∙ rw (sub-one, er, en) in
          ap₂ (λ (m : ℕ) (y : Bool). record { mask = m; barred = y }) (ap₂ (λ (y z : ℕ). y + 2 * z) (ef ∙ ap bit_of eb) (ap (λ (y : Verdict). y.mask) g)) (ew ∙ ap₂ (λ (y z : Bool). y || z) ed (ap (λ (y : Verdict). y.barred) g))
          ∙ sym (ap (λ (es : List Entry). verdict_of s r (take (suc k) es)) c)

-- verdicts of sets that agree below 16 attributes
verdict-same : (s t : ℕ → Bool) → ((a : ℕ) → a < 16 → s a ≡ t a) → (r : ℕ) (es : List Entry) → verdict_of s r es ≡ verdict_of t r es
unfolding verdict_of bits_of any
verdict-same s t h r [] = refl
verdict-same s t h r (e ∷ es) =
    let i = verdict-same s t h r es in
    ap₂ (λ (m : ℕ) (y : Bool). record { mask = m; barred = y })
    (ap₂ (λ (b : Bool) (n : ℕ). cond b 1 0 + 2 * n) (applies-same s t h r e) (ap (λ (y : Verdict). y.mask) i))
    (ap₂ (λ (x y : Bool). x || y) (bars-same s t h r e) (ap (λ (y : Verdict). y.barred) i))

module _ (q list cb : List ℕ) (v r : ℕ) (s : Bool) (es : s ≡ stored_of cb r) where
  pub mask-free : not s ≡ true → 0 ≡ mask_for q list cb (record { variable = v; relation = r })
  unfolding mask_for
  mask-free h = rw (sym es, not-true s h)

  module _ (used : ℕ) (x : Verdict) (h : not s ≡ false) (hu : (a : ℕ) → a < 16 → bit used a ≡ used_in (flat_uses q) v a) (ex : x ≡ verdict_of (λ a. bit used a) r (take 8 (entries list))) where
    mask-of : mask_for q list cb (record { variable = v; relation = r }) ≡ mask_unless_barred x
    unfolding mask_for
    mask-of = rw (sym es, not-false s h) (ap mask_unless_barred (sym (verdict-same (λ a. bit used a) (used_bytes q v) hu r (take 8 (entries list))) ∙ sym ex))

    pub mask-barred : x.barred ≡ true → 0 ≡ mask_for q list cb (record { variable = v; relation = r })
    mask-barred e = sym (mask-of ∙ ap (λ (y : Bool). cond y 0 x.mask) e)

    pub mask_is : x.barred ≡ false → x.mask ≡ mask_for q list cb (record { variable = v; relation = r })
    mask_is e = sym (mask-of ∙ ap (λ (y : Bool). cond y 0 x.mask) e)

-- 33 of a variable with a mask
module _ (s : Bool) (m : ℕ) where
  pub served-some : (m ≡ 0 → ⊥) → true ≡ (not s || not (eqb m 0))
  served-some h = sym (or_right (not s) (not (eqb m 0)) (ap not (ne_eqb m 0 h)))

  pub served-none : m ≡ 0 → not s ≡ (not s || not (eqb m 0))
  served-none h = sym (ap (λ (b : Bool). not s || not b) (eq-eqb m 0 h) ∙ or-false (not s))

-- what one permit adds to a guard
module _ (places : List ℕ) (m k : ℕ) where
  pub turn-not : (m % 2 ≡ 1 → ⊥) → 0 ≡ turn_length places m k
  turn-not h = sym (ap (λ (b : Bool). cond b (suc (get_or places (2 * k + 1) 0)) 0) (ne_eqb (m % 2) 1 h))

  pub turn_is : (n : ℕ) → m % 2 ≡ 1 → n ≡ get_or places (2 * k + 1) 0 → 1 + n ≡ turn_length places m k
  turn_is n h en =
      let l : 1 + n ≡ suc (get_or places (2 * k + 1) 0) = omega (arith, en) in
      l ∙ sym (ap (λ (b : Bool). cond b (suc (get_or places (2 * k + 1) 0)) 0) (eq-eqb (m % 2) 1 h))

  -- one turn of the sum over the permits
  module _ (n w : ℕ) (e : n + length_from places (8 - k) m k ≡ w) where
    pub turn_on : (t : ℕ) → k < 8 → t ≡ turn_length places m k → n + t + length_from places (8 - (k + 1)) (m / 2) (k + 1) ≡ w
    unfolding length_from
    turn_on t h et =
        let l : 8 - k ≡ suc (8 - (k + 1)) = omega arith in
        let s : length_from places (8 - k) m k ≡ turn_length places m k + length_from places (8 - (k + 1)) (m / 2) (suc k) = ap (λ (x : ℕ). length_from places x m k) l in
        let o : length_from places (8 - (k + 1)) (m / 2) (k + 1) ≡ length_from places (8 - (k + 1)) (m / 2) (suc k) = ap (length_from places (8 - (k + 1)) (m / 2)) (add-one k) in
        omega (arith, e, et, s, o)

    pub turn_end : 8 ≤ k → n ≡ w
    unfolding length_from
    turn_end h =
        let l : 8 - k ≡ 0 = omega arith in
        let s : length_from places (8 - k) m k ≡ 0 = ap (λ (x : ℕ). length_from places x m k) l in
        omega (arith, e, s)

-- the outcome
module _ (q list cb places : List ℕ) where
  module _ (t : Tally) (et : t ≡ tally_all q list cb places) where
    outcome-of : check33 q list cb places ≡ passed_if t.served t.length
    outcome-of = sym (ap (λ (y : Tally). passed_if y.served y.length) et)

    pub outcome-refused : not t.served ≡ true → Err NoPermit ≡ check33 q list cb places
    outcome-refused h = sym (outcome-of ∙ ap (λ (y : Bool). passed_if y t.length) (not-true t.served h))

    pub outcome-passed : not t.served ≡ false → Ok t.length ≡ check33 q list cb places
    outcome-passed h = sym (outcome-of ∙ ap (λ (y : Bool). passed_if y t.length) (not-false t.served h))
