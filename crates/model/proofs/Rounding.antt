-- What rounding a target does: whole numbers stay, and no whole number is nearer than the cell (document 02, change 4).
use Prim.Native.Nat.{ℕ, zero, suc, ◌+◌, ◌*◌, ◌/◌, ◌≤◌, ◌<◌}
use mathlib.Core.Path.{◌≡◌, refl, ap, ◌∙◌}
use native.Mathlib.Nat.{mul-add-div, div-mul-le_self, lt-div-mul-add}
use native.Mathlib.Omega.{arith}
use mathlib.Core.Bool.{Bool, true, false, cond}
use lib.IntN.{ℤ, pos, negsuc, neg_ℤ, nat_abs}
use lib.Signed.{non_neg}
use Rattle.model.specs.Meaning.{Ratio, whole, cell}

half-more : (n : ℕ) → (2 * n + 1) / 2 ≡ n
half-more n = mul-add-div {m = 2} (omega arith) n 1 ∙ omega arith

-- COUNT, SUM, MAX, MIN and attributes are whole
pub cell-whole : (z : ℤ) → cell (whole z) ≡ z
unfolding cell
cell-whole (pos n) = ap pos (half-more n)
cell-whole (negsuc n) = ap (λ (m : ℕ). neg_ℤ (pos m)) (half-more (suc n))

-- the cell's distance from the value is at most a half, and a half only away from zero: |cell| − 1/2 ≤ |value| < |cell| + 1/2
pub record Nearest (x : Ratio) (n : ℕ) : Type 0 where
  pub least : n * (2 * x.denominator) ≤ 2 * nat_abs x.numerator + x.denominator
  pub most : 2 * nat_abs x.numerator + x.denominator < n * (2 * x.denominator) + 2 * x.denominator

either-sign : (b : Bool) (n : ℕ) → nat_abs (cond b (pos n) (neg_ℤ (pos n))) ≡ n
either-sign true n = refl
either-sign false zero = refl
either-sign false (suc n) = refl

pub cell-nearest : (x : Ratio) → 1 ≤ x.denominator → Nearest x (nat_abs (cell x))
unfolding cell
cell-nearest x h =
    let d = 2 * x.denominator in
    let n = 2 * nat_abs x.numerator + x.denominator in
    rw (either-sign (non_neg x.numerator) (n / d)) (record { least = div-mul-le_self n d; most = lt-div-mul-add {a = n} {b = d} (omega arith) })
