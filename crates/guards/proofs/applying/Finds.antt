-- What the code finds of one permit, by the outcomes of its tests.
use mathlib.Core.Path.{◌≡◌, refl, sym, ap, ap₂, ◌∙◌}
use mathlib.Core.Bool.{Bool, true, false, not, cond, ◌&&◌, ◌||◌}
use mathlib.Core.List.{List, [], ◌∷◌}
use Prim.Native.Nat.{ℕ, zero, suc, ◌-◌, ◌<◌}
use native.Mathlib.Omega.{arith}
use lib.Dec.{eqb}
use lib.ListN.{get_or, take, drop}
use lib.Seq.{get_or-drop}
use borrow.Author.Tests.{not-true, not-false, eqb-true, eq-eqb, ne_eqb}
use Rattle.model.specs.Lists.{all, below}
use Rattle.model.specs.Permits.{bit}
use Rattle.kinds.specs.Tables.{record_length}
use Rattle.kinds.specs.Places.{permit_at}
use Rattle.kinds.specs.declared.PermitRecord.{PermitRecord}
use Rattle.kinds.specs.declared.PermitRecord.TheVariants as P
use Rattle.scans.proofs.Lists.{all_join}
use Rattle.permits.specs.Entries.{Entry, span_after, span_of, condition_of, entry_at}
use Rattle.permits.specs.Applying.{agree, all_used, no_access_at, over_with, applies_to, bars_from}

-- NO ACCESS: the byte after the permit's head, unless it starts the next permit
pub no-access-is : (list : List ℕ) (k : ℕ) → k ≡ get_or list 4 0 → eqb k 17 ≡ no_access_at (entry_at list)
unfolding no_access_at condition_of span_of span_after
no-access-is list k ek = ap (λ (x : ℕ). eqb x 17) (ek ∙ sym (get_or-drop 4 list 0 0)) ∙ go (drop 4 list)
  where
    go : (x : List ℕ) → eqb (get_or x 0 0) 17 ≡ eqb (get_or (take (span_of x) x) 0 0) 17
    go [] = refl
    go (a ∷ x) = first (eqb a 64) refl
      where
        first : (d : Bool) → eqb a 64 ≡ d → eqb a 17 ≡ eqb (get_or (take (cond d 0 (suc (span_after (record_length a - 1) x))) (a ∷ x)) 0 0) 17
        first true e = ap (λ (y : ℕ). eqb y 17) (eqb-true a 64 e)
        first false e = refl

-- a used attribute that is in the mask as wanted
pub unused : (u x w : Bool) → not u ≡ true → true ≡ (not u || agree w x)
unused u x w h = rw h

pub used-in : (u x w : Bool) → not u ≡ false → w ≡ true → x ≡ (not u || agree w x)
used-in u x w h hw = rw (h, hw)

pub used-out : (u x w : Bool) → not u ≡ false → w ≡ false → not x ≡ (not u || agree w x)
used-out u x w h hw = rw (h, hw)

and-false : (b : Bool) → (b && false) ≡ false
and-false true = refl
and-false false = refl

-- whether a permit applies, or bars
module _ (s : ℕ → Bool) (r : ℕ) (list : List ℕ) (n : Bool) (en : n ≡ no_access_at (entry_at list)) where
  pub applies-never : n ≡ true → false ≡ applies_to s r (entry_at list)
  unfolding applies_to
  applies-never h = sym (rw (sym en, h))

  pub bars-never : not n ≡ true → false ≡ bars_from s r (entry_at list)
  unfolding bars_from
  bars-never h = sym (rw (sym en, not-true n h))

  module _ (h : PermitRecord) (eh : h ≡ permit_at list) where
    head-is : (f : ℕ → Bool) (x : PermitRecord) → h ≡ x → over_with r f (permit_at list) ≡ over_with r f x
    head-is f x e = ap (over_with r f) (sym eh ∙ e)

    pub applies-other : h ≡ P.Other → false ≡ applies_to s r (entry_at list)
    unfolding applies_to
    applies-other e = sym (ap (λ (b : Bool). not (no_access_at (entry_at list)) && b) (head-is (λ m. all_used s m true) P.Other e) ∙ and-false (not (no_access_at (entry_at list))))

    pub bars-other : h ≡ P.Other → false ≡ bars_from s r (entry_at list)
    unfolding bars_from
    bars-other e = sym (ap (λ (b : Bool). no_access_at (entry_at list) && b) (head-is (λ m. not (all_used s m false)) P.Other e) ∙ and-false (no_access_at (entry_at list)))

    module _ (k m : ℕ) (e : h ≡ P.Permit k m) where
      pub applies-not : n ≡ false → (k ≡ r → ⊥) → false ≡ applies_to s r (entry_at list)
      unfolding applies_to
      applies-not hn d = sym (rw (sym en, hn, head-is (λ m. all_used s m true) (P.Permit k m) e, ne_eqb k r d))

      pub bars-not : not n ≡ false → (k ≡ r → ⊥) → false ≡ bars_from s r (entry_at list)
      unfolding bars_from
      bars-not hn d = sym (rw (sym en, not-false n hn, head-is (λ m. not (all_used s m false)) (P.Permit k m) e, ne_eqb k r d))

      pub applies-is : (b : Bool) → k ≡ r → n ≡ false → b ≡ all_used s m true → b ≡ applies_to s r (entry_at list)
      unfolding applies_to
      applies-is b d hn eb = eb ∙ sym (rw (sym en, hn, head-is (λ m. all_used s m true) (P.Permit k m) e, eq-eqb k r d))

      pub bars-is : (b : Bool) → k ≡ r → not n ≡ false → b ≡ all_used s m false → not b ≡ bars_from s r (entry_at list)
      unfolding bars_from
      bars-is b d hn eb = ap not eb ∙ sym (rw (sym en, not-false n hn, head-is (λ m. not (all_used s m false)) (P.Permit k m) e, eq-eqb k r d))

-- tests that agree below 16 find the same permits
all-below : (n : ℕ) (f g : ℕ → Bool) → ((a : ℕ) → a < n → f a ≡ g a) → all f (below n) ≡ all g (below n)
unfolding all below
all-below zero f g h = refl
all-below (suc n) f g h =
    all_join f (below n) (n ∷ [])
    ∙ ap₂ (λ (x y : Bool). x && (y && true)) (all-below n f g (λ a l. h a (omega arith))) (h n (omega arith))
    ∙ sym (all_join g (below n) (n ∷ []))

over-same : (r : ℕ) (f g : ℕ → Bool) → ((m : ℕ) → f m ≡ g m) → (h : PermitRecord) → over_with r f h ≡ over_with r g h
over-same r f g e (P.Permit x m) = ap (λ (b : Bool). eqb x r && b) (e m)
over-same r f g e P.Other = refl

module _ (s t : ℕ → Bool) (h : (a : ℕ) → a < 16 → s a ≡ t a) where
  all-used-same : (m : ℕ) (w : Bool) → all_used s m w ≡ all_used t m w
  unfolding all_used
  all-used-same m w = all-below 16 (λ a. not (s a) || agree w (bit m a)) (λ a. not (t a) || agree w (bit m a)) (λ a l. ap (λ (x : Bool). not x || agree w (bit m a)) (h a l))

  pub applies-same : (r : ℕ) (e : Entry) → applies_to s r e ≡ applies_to t r e
  unfolding applies_to
  applies-same r e = ap (λ (b : Bool). not (no_access_at e) && b) (over-same r (λ m. all_used s m true) (λ m. all_used t m true) (λ m. all-used-same m true) e.head)

  pub bars-same : (r : ℕ) (e : Entry) → bars_from s r e ≡ bars_from t r e
  unfolding bars_from
  bars-same r e =
      ap (λ (b : Bool). no_access_at e && b) (over-same r (λ m. not (all_used s m false)) (λ m. not (all_used t m false)) (λ m. ap not (all-used-same m false)) e.head)
