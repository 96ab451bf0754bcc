-- A half added in the numerator's direction, then signed division: the nearest whole number, halves away from zero.
use mathlib.Core.Path.{◌≡◌, refl, sym, ap, ap₂, ◌∙◌, subst}
use mathlib.Core.Bool.{false}
use Prim.Native.Nat.{ℕ, zero, suc, ◌+◌, ◌*◌, ◌/◌, ◌≤◌, ◌<◌}
use native.Mathlib.Omega.{arith}
use lib.IntN.{ℤ, pos, negsuc, neg_ℤ, nat_abs, ◌+ℤ◌, ◌-ℤ◌, ◌*ℤ◌, +ℤ_idl, neg_ℤ-+ℤ}
use lib.Signed.{lt_z, quot_z}
use lib.Dec.{ltb}
use borrow.Author.Tests.{le-ltb}
use mir.Syntax.{w64}
use mir.Val.{SFits, to_z, of_z}
use mir.Facts.{to_z-of_z}
use Rattle.model.specs.Meaning.{cell}
use Rattle.numbers.specs.Numbers.{ratio_of, Number, Small, toward}
use Rattle.numbers.specs.declared.Ratio.{Ratio}
use Rattle.numbers.proofs.Signed.{fits64, abs-add, abs-cond, abs-mul, quot_fits, test-is, bits_pos}

abs_neg : (z : ℤ) → nat_abs (pos 0 -ℤ z) ≡ nat_abs z
abs_neg (pos zero) = refl
abs_neg (pos (suc n)) = ap nat_abs (+ℤ_idl (negsuc n))
abs_neg (negsuc n) = ap nat_abs (+ℤ_idl (pos (suc n)))

pub abs-toward : (a b : ℤ) → nat_abs (toward a b) ≤ nat_abs b
abs-toward a b = abs-cond (lt_z a (pos 0)) (pos 0 -ℤ b) b (nat_abs b) (omega (arith, abs_neg b)) (omega arith)

pub negated_fits : (z : ℤ) → SFits w64 z → nat_abs z ≤ 65535 → SFits w64 (pos 0 -ℤ to_z w64 (of_z w64 z))
negated_fits z f h = subst (λ (y : ℤ). SFits w64 (pos 0 -ℤ y)) (sym (to_z-of_z f)) (fits64 (pos 0 -ℤ z) (omega (arith, abs_neg z)))

-- the sum below 0
below-zero : (m d : ℕ) → neg_ℤ (pos m) +ℤ (pos 0 -ℤ pos d) ≡ neg_ℤ (pos (m + d))
below-zero m d = ap (λ (z : ℤ). neg_ℤ (pos m) +ℤ z) (+ℤ_idl (neg_ℤ (pos d))) ∙ sym (neg_ℤ-+ℤ (pos m) (pos d))

quot_below : (m d : ℕ) → 1 ≤ m → quot_z (neg_ℤ (pos m)) (pos d) ≡ neg_ℤ (pos (m / d))
quot_below zero d h = absurd (omega arith)
quot_below (suc m) d h = refl

no_less : (n : ℕ) → ltb n 0 ≡ false
no_less n = le-ltb n 0 (omega arith)

cell-is : (n : ℤ) (d : ℕ) → quot_z (pos 2 *ℤ n +ℤ toward n (pos d)) (pos 2 *ℤ pos d) ≡ cell (record { numerator = n; denominator = d })
unfolding cell
cell-is (pos n) d = rw (no_less n)
cell-is (negsuc n) d =
    ap (λ (z : ℤ). quot_z z (pos (2 * d))) (below-zero (2 * suc n) d)
    ∙ quot_below (2 * suc n + d) (2 * d) (omega arith)

-- the steps of cell, whose results are read from bits
abbrev bits : ℤ → ℤ
bits z = to_z w64 (of_z w64 z)

pub fitting-denominator : (x : Ratio) → Small x → nat_abs (bits x.denominator) ≤ 65535
fitting-denominator x h = rw (to_z-of_z (fits64 x.denominator (omega (arith, h.denominator)))) h.denominator

module _ (z : ℤ) (h : nat_abs z ≤ 140735340871680) where
  own_bits : pos 2 *ℤ bits z ≡ pos 2 *ℤ z
  own_bits = ap (λ (y : ℤ). pos 2 *ℤ y) (to_z-of_z (fits64 z (omega arith)))

  twice-small : nat_abs (pos 2 *ℤ z) ≤ 281470681743360
  twice-small = omega (arith, abs-mul (pos 2) z)

  twice-fits : SFits w64 (pos 2 *ℤ bits z)
  twice-fits = subst (SFits w64) (sym own_bits) (fits64 (pos 2 *ℤ z) (omega (arith, twice-small)))

  twice-is : bits (pos 2 *ℤ bits z) ≡ pos 2 *ℤ z
  twice-is = to_z-of_z twice-fits ∙ own_bits

module _ (x : Ratio) (h : Small x) where
  pub double-fits : SFits w64 (pos 2 *ℤ bits x.numerator)
  double-fits = twice-fits x.numerator h.numerator

  pub divisor-fits : SFits w64 (pos 2 *ℤ bits x.denominator)
  divisor-fits = twice-fits x.denominator (omega (arith, h.denominator))

  -- a half, with the numerator's sign
  module _ (t : ℤ) (ft : SFits w64 t) (et : t ≡ toward (bits x.numerator) (bits x.denominator)) where
    half_is : bits t ≡ toward x.numerator x.denominator
    half_is =
        to_z-of_z ft ∙ et
        ∙ test-is toward x.numerator x.denominator (fits64 x.numerator (omega (arith, h.numerator))) (fits64 x.denominator (omega (arith, h.denominator)))

    abbrev sum : ℤ
    sum = pos 2 *ℤ x.numerator +ℤ toward x.numerator x.denominator

    sum-small : nat_abs sum ≤ 281474976710656
    sum-small = omega (arith, abs-add (pos 2 *ℤ x.numerator) (toward x.numerator x.denominator), twice-small x.numerator h.numerator, abs-toward x.numerator x.denominator, h.denominator)

    sum_same : bits (pos 2 *ℤ bits x.numerator) +ℤ bits t ≡ sum
    sum_same = ap₂ ◌+ℤ◌ (twice-is x.numerator h.numerator) half_is

    pub sum_fits : SFits w64 (bits (pos 2 *ℤ bits x.numerator) +ℤ bits t)
    sum_fits = subst (SFits w64) (sym sum_same) (fits64 sum (omega (arith, sum-small)))

    quotient-same : quot_z (bits (bits (pos 2 *ℤ bits x.numerator) +ℤ bits t)) (bits (pos 2 *ℤ bits x.denominator)) ≡ quot_z sum (pos 2 *ℤ x.denominator)
    quotient-same = ap₂ quot_z (to_z-of_z sum_fits ∙ sum_same) (twice-is x.denominator (omega (arith, h.denominator)))

    pub divides : Number x → (0 < of_z w64 (pos 2 *ℤ bits x.denominator)) × SFits w64 (quot_z (bits (bits (pos 2 *ℤ bits x.numerator) +ℤ bits t)) (bits (pos 2 *ℤ bits x.denominator)))
    divides k =
        (bits_pos (pos 2 *ℤ bits x.denominator) (omega (arith, ap nat_abs (own_bits x.denominator (omega (arith, h.denominator))), abs-mul (pos 2) x.denominator, k)) divisor-fits, subst (SFits w64) (sym quotient-same) (quot_fits sum (pos 2 *ℤ x.denominator) sum-small))

    pub rounded : Number x → bits (quot_z (bits (bits (pos 2 *ℤ bits x.numerator) +ℤ bits t)) (bits (pos 2 *ℤ bits x.denominator))) ≡ cell (ratio_of x)
    rounded k =
        to_z-of_z (divides k).1 ∙ quotient-same
        ∙ ap (λ (d : ℤ). quot_z (pos 2 *ℤ x.numerator +ℤ toward x.numerator d) (pos 2 *ℤ d)) h.sign
        ∙ cell-is x.numerator (nat_abs x.denominator)
