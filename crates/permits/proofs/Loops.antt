-- One turn of a loop over the attributes, and the bit of an attribute in a mask.
use mathlib.Core.Path.{◌≡◌, refl, sym, ap, ◌∙◌}
use mathlib.Core.Bool.{Bool, true, false, not, ◌&&◌}
use mathlib.Core.List.{[], ◌∷◌}
use Prim.Native.Nat.{ℕ, zero, suc, ◌+◌, ◌/◌, ◌^◌, ◌<◌}
use native.Mathlib.Numerals.{add-one}
use native.Mathlib.Omega.{arith}
use borrow.Author.Tests.{not-true, not-false, eqb-true, eqb-false, eq-eqb, ne_eqb}
use lib.Bits.{bit_and, and_mask}
use lib.Dec.{eqb}
use Rattle.model.specs.Lists.{all, below}
use Rattle.model.specs.Permits.{bit}
use Rattle.model.proofs.Tests.{and-true}
use Rattle.scans.proofs.Lists.{all_join}

-- the bit of an attribute, as the code tests it
module _ (m a : ℕ) where
  pub bit_is : eqb (bit_and (m / 2 ^ a) 1) 1 ≡ bit m a
  unfolding bit
  bit_is = ap (λ (k : ℕ). eqb k 1) (and_mask (m / 2 ^ a) 1)

  pub bit-set : bit_and (m / 2 ^ a) 1 ≡ 1 → true ≡ bit m a
  bit-set h = sym (eq-eqb (bit_and (m / 2 ^ a) 1) 1 h) ∙ bit_is

  pub bit-clear : (bit_and (m / 2 ^ a) 1 ≡ 1 → ⊥) → false ≡ bit m a
  bit-clear h = sym (ne_eqb (bit_and (m / 2 ^ a) 1) 1 h) ∙ bit_is

and-false : (b : Bool) → (b && false) ≡ false
and-false true = refl
and-false false = refl

-- a loop over the attributes
module _ (t : ℕ → Bool) where
  pub below_on : (n : ℕ) (b : Bool) → all t (below n) ≡ true → b ≡ t n → not b ≡ false → all t (below (n + 1)) ≡ true
  unfolding all below
  below_on n b e eb hb =
      ap (λ (m : ℕ). all t (below m)) (add-one n)
      ∙ all_join t (below n) (n ∷ [])
      ∙ ap (λ (y : Bool). y && (t n && true)) e
      ∙ and-true (t n)
      ∙ sym eb
      ∙ not-false b hb

  pub below-stopped : (n m : ℕ) (b : Bool) → n < m → b ≡ t n → not b ≡ true → false ≡ all t (below m)
  unfolding all below
  below-stopped n zero b h eb hb = absurd (omega arith)
  below-stopped n (suc m) b h eb hb = sym (all_join t (below m) (m ∷ []) ∙ by_place (eqb n m) refl (λ k. below-stopped n m b k eb hb))
    where
      by_place : (d : Bool) → eqb n m ≡ d → (n < m → false ≡ all t (below m)) → (all t (below m) && (t m && true)) ≡ false
      by_place true d k = ap (λ (y : Bool). all t (below m) && (y && true)) (ap t (sym (eqb-true n m d)) ∙ sym eb ∙ not-true b hb) ∙ and-false (all t (below m))
      by_place false d k = ap (λ (y : Bool). y && (t m && true)) (sym (k (omega (arith, eqb-false n m d))))
