-- The parts of a signed number below and above 0, as the code computes them.
use mathlib.Core.Path.{◌≡◌, refl, sym, ap, subst, ◌∙◌}
use mathlib.Core.Bool.{Bool, true, false}
use Prim.Native.Nat.{ℕ, suc, ◌+◌, ◌<◌}
use native.Mathlib.Omega.{arith}
use native.Mathlib.Numerals.{add-one}
use mathlib.Core.List.{[], ◌∷◌, ◌++◌}
use lib.Dec.{T}
use lib.IntN.{ℤ, pos, negsuc, nat_abs, ◌-ℤ◌}
use lib.Signed.{lt_z, non_neg}
use borrow.Author.Tests.{le-ltb, ltb-true}
use mir.Syntax.{w64}
use mir.Val.{Fits, SFits, to_z, of_z}
use mir.Facts.{to_z-of_z}
use Rattle.program.specs.Text as T

turned : (k : ℕ) → negsuc 0 -ℤ negsuc k ≡ pos k
turned k = simp (le-ltb (suc k) 1 (omega arith)) (ap pos (omega arith))

-- a number below 0 is its bits read as signed, and -1 less it is how far below -1 it is
record Below (z : ℤ) : Type 0 where
  pub k : ℕ
  pub is : z ≡ negsuc k
  pub small : k < 9223372036854775808
  pub turn : negsuc 0 -ℤ to_z w64 (of_z w64 z) ≡ pos k

below : (z : ℤ) → SFits w64 z → lt_z z (pos 0) ≡ true → Below z
below (pos n) f h = absurd (omega (arith, ltb-true n 0 h))
below (negsuc n) f h = record { k = n; is = refl; small = f.sfits; turn = ap (λ (x : ℤ). negsuc 0 -ℤ x) (to_z-of_z f) ∙ turned n }

module _ (z : ℤ) (f : SFits w64 z) where
  less : {b : Bool} → lt_z (to_z w64 (of_z w64 z)) (pos 0) ≡ b → lt_z z (pos 0) ≡ b
  less h = sym (ap (λ (x : ℤ). lt_z x (pos 0)) (to_z-of_z f)) ∙ h

  module _ (h : lt_z (to_z w64 (of_z w64 z)) (pos 0) ≡ true) where
    known : Below z
    known = below z f (less h)

    pub sub-fits : SFits w64 (negsuc 0 -ℤ to_z w64 (of_z w64 z))
    sub-fits = subst (SFits w64) (sym known.turn) (record { sfits = known.small })

    back : to_z w64 (of_z w64 (negsuc 0 -ℤ to_z w64 (of_z w64 z))) ≡ pos known.k
    back = to_z-of_z sub-fits ∙ known.turn

    pub cast_fits : T (non_neg (to_z w64 (of_z w64 (negsuc 0 -ℤ to_z w64 (of_z w64 z))))) × Fits w64 (nat_abs (to_z w64 (of_z w64 (negsuc 0 -ℤ to_z w64 (of_z w64 z)))))
    cast_fits = rw back (tt, record { fits = omega (arith, known.small) })

    pub add-fits : Fits w64 (nat_abs (to_z w64 (of_z w64 (negsuc 0 -ℤ to_z w64 (of_z w64 z)))) + 1)
    add-fits = rw back (record { fits = omega (arith, known.small) })

    pub is_below : nat_abs (to_z w64 (of_z w64 (negsuc 0 -ℤ to_z w64 (of_z w64 z)))) + 1 ≡ T.below_zero z
    is_below = ap (λ (x : ℤ). nat_abs x + 1) back ∙ add-one known.k ∙ sym (ap T.below_zero known.is)

    pub none_above : 0 ≡ T.above_zero z
    none_above = rw known.is

  module _ (h : lt_z (to_z w64 (of_z w64 z)) (pos 0) ≡ false) where
    pub none_below : 0 ≡ T.below_zero z
    none_below = go z (less h)
      where
        go : (z : ℤ) → lt_z z (pos 0) ≡ false → 0 ≡ T.below_zero z
        go (pos n) e = refl
        go (negsuc n) e = let q : ◌≡◌ {A = ℕ} 0 1 = cc in absurd (omega arith)

    pub cast-above : T (non_neg (to_z w64 (of_z w64 z))) × Fits w64 (nat_abs (to_z w64 (of_z w64 z)))
    cast-above = rw (to_z-of_z f) (go z f (less h))
      where
        go : (z : ℤ) → SFits w64 z → lt_z z (pos 0) ≡ false → T (non_neg z) × Fits w64 (nat_abs z)
        go (pos n) g e = (tt, record { fits = omega (arith, g.sfits) })
        go (negsuc n) g e = let q : ◌≡◌ {A = ℕ} 0 1 = cc in absurd (omega arith)

    pub is-above : nat_abs (to_z w64 (of_z w64 z)) ≡ T.above_zero z
    is-above = ap nat_abs (to_z-of_z f) ∙ go z (less h)
      where
        go : (z : ℤ) → lt_z z (pos 0) ≡ false → nat_abs z ≡ T.above_zero z
        go (pos n) e = refl
        go (negsuc n) e = let q : ◌≡◌ {A = ℕ} 0 1 = cc in absurd (omega arith)

-- a number's text by its sign; b is its part below 0, r the part above
module _ (z : ℤ) (b : ℕ) (e : b ≡ T.below_zero z) where
  pub plain-sign : (r : ℕ) → b ≡ 0 → r ≡ T.above_zero z → T.decimal r ≡ T.signed z
  unfolding T.signed
  plain-sign r h k = go z (sym e ∙ h) k
    where
      go : (z : ℤ) → T.below_zero z ≡ 0 → r ≡ T.above_zero z → T.decimal r ≡ T.signed z
      go (pos n) h k = ap T.decimal k
      go (negsuc n) h k = absurd (omega arith)

  pub minus-sign : (b ≡ 0 → ⊥) → T.signed z ≡ (45 ∷ []) ++ T.decimal b
  unfolding T.signed
  minus-sign h = go z e
    where
      go : (z : ℤ) → b ≡ T.below_zero z → T.signed z ≡ (45 ∷ []) ++ T.decimal b
      go (pos n) k = absurd (h k)
      go (negsuc n) k = ap (λ (m : ℕ). 45 ∷ T.decimal m) (sym k)
