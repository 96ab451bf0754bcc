-- Signed numbers bounded by nat_abs, a natural number that omega reads; operations and tests on i64 read their operands from bits.
use mathlib.Core.Path.{◌≡◌, refl, sym, ap, ap₂, ◌∙◌, subst}
use mathlib.Core.Bool.{Bool, true, false, cond}
use Prim.Native.Nat.{ℕ, zero, suc, ◌+◌, ◌-◌, ◌*◌, ◌/◌, ◌≤◌, ◌<◌}
use native.Mathlib.Nat.{mul-le-mul, le_refl, div-le_self}
use native.Mathlib.Omega.{arith}
use lib.IntN.{ℤ, pos, negsuc, neg_ℤ, nat_abs, sub_ℕ, ◌+ℤ◌, ◌*ℤ◌}
use lib.Signed.{mag, quot_z}
use lib.Dec.{ltb}
use mir.Syntax.{w32, w64}
use mir.Val.{SFits, to_z, of_z}
use mir.Facts.{to_z-of_z, sfits_widen}

neg-abs : (n : ℕ) → nat_abs (neg_ℤ (pos n)) ≡ n
neg-abs zero = refl
neg-abs (suc n) = refl

mag-abs : (z : ℤ) → mag z ≤ nat_abs z
mag-abs (pos n) = le_refl n
mag-abs (negsuc n) = omega arith

-- a number whose absolute value is below 2 ^ 63 fits an i64
pub fits64 : (z : ℤ) → nat_abs z < 9223372036854775808 → SFits w64 z
fits64 z h = record { sfits = omega (arith, mag-abs z) }

pub abs32 : (z : ℤ) → mag z < 2147483648 → nat_abs z ≤ 2147483648
abs32 (pos n) h = omega arith
abs32 (negsuc n) h = omega arith

pub abs-mul : (a b : ℤ) → nat_abs (a *ℤ b) ≡ nat_abs a * nat_abs b
abs-mul (pos a) (pos b) = refl
abs-mul (pos a) (negsuc b) = neg-abs (a * suc b)
abs-mul (negsuc a) (pos b) = neg-abs (suc a * b)
abs-mul (negsuc a) (negsuc b) = refl

pub abs-cond : (b : Bool) (x y : ℤ) (n : ℕ) → nat_abs x ≤ n → nat_abs y ≤ n → nat_abs (cond b x y) ≤ n
abs-cond true x y n f g = f
abs-cond false x y n f g = g

abs-sub : (a b : ℕ) → nat_abs (sub_ℕ a (suc b)) ≤ a + suc b
abs-sub a b = abs-cond (ltb a (suc b)) (negsuc (suc b - suc a)) (pos (a - suc b)) (a + suc b) (omega arith) (omega arith)

pub abs-add : (a b : ℤ) → nat_abs (a +ℤ b) ≤ nat_abs a + nat_abs b
abs-add (pos a) (pos b) = le_refl (a + b)
abs-add (pos a) (negsuc b) = abs-sub a b
abs-add (negsuc a) (pos b) = omega (arith, abs-sub b a)
abs-add (negsuc a) (negsuc b) = omega arith

pub abs-quot : (a b : ℤ) → nat_abs (quot_z a b) ≤ nat_abs a
abs-quot (pos a) (pos b) = div-le_self a b
abs-quot (pos a) (negsuc b) = omega (arith, neg-abs (a / suc b), div-le_self a (suc b))
abs-quot (negsuc a) (pos b) = omega (arith, neg-abs (suc a / b), div-le_self (suc a) b)
abs-quot (negsuc a) (negsuc b) = div-le_self (suc a) (suc b)

-- cross products of a query's values stay below 2 ^ 63
pub cross : (a b : ℤ) → nat_abs a ≤ 140735340871680 → nat_abs b ≤ 65535 → SFits w64 (a *ℤ b)
cross a b h k = fits64 (a *ℤ b) (rw (abs-mul a b) (omega (arith, mul-le-mul h k)))

pub sum_fits : (a b : ℤ) → nat_abs a + nat_abs b ≤ 281474976710656 → SFits w64 (a +ℤ b)
sum_fits a b h = fits64 (a +ℤ b) (omega (arith, abs-add a b))

pub quot_fits : (a b : ℤ) → nat_abs a ≤ 281474976710656 → SFits w64 (quot_z a b)
quot_fits a b h = fits64 (quot_z a b) (omega (arith, abs-quot a b))

-- what is read of two numbers is read of their bits
pub test-is : {A : Type 0} (f : ℤ → ℤ → A) (a b : ℤ) → SFits w64 a → SFits w64 b → f (to_z w64 (of_z w64 a)) (to_z w64 (of_z w64 b)) ≡ f a b
test-is f a b ha hb = ap (λ (x : ℤ). f x (to_z w64 (of_z w64 b))) (to_z-of_z ha) ∙ ap (f a) (to_z-of_z hb)

pub op_fits : (f : ℤ → ℤ → ℤ) (a b : ℤ) → SFits w64 a → SFits w64 b → SFits w64 (f a b) → SFits w64 (f (to_z w64 (of_z w64 a)) (to_z w64 (of_z w64 b)))
op_fits f a b ha hb h = subst (SFits w64) (sym (test-is f a b ha hb)) h

pub op-is : (f : ℤ → ℤ → ℤ) (a b : ℤ) → SFits w64 a → SFits w64 b → SFits w64 (f a b) → to_z w64 (of_z w64 (f (to_z w64 (of_z w64 a)) (to_z w64 (of_z w64 b)))) ≡ f a b
op-is f a b ha hb h = ap (λ (x : ℤ). to_z w64 (of_z w64 x)) (test-is f a b ha hb) ∙ to_z-of_z h

-- a divisor that is not 0 has bits that are not 0
pub bits_pos : (z : ℤ) → 0 < nat_abs z → SFits w64 z → 0 < of_z w64 z
bits_pos (pos n) h f = h
bits_pos (negsuc n) h f = let g : n < 9223372036854775808 = f.sfits in omega arith

-- an i32 that is widened
pub widens : (z : ℤ) → SFits w32 z → SFits w64 (to_z w32 (of_z w32 z))
widens z f = subst (SFits w64) (sym (to_z-of_z f)) (sfits_widen {w = w32} {w' = w64} tt f)

pub widened : (z : ℤ) → SFits w32 z → to_z w64 (of_z w64 (to_z w32 (of_z w32 z))) ≡ z
widened z f = ap (λ (y : ℤ). to_z w64 (of_z w64 y)) (to_z-of_z f) ∙ to_z-of_z {w = w64} (sfits_widen {w = w32} {w' = w64} tt f)

-- an i64 that fits an i32
module _ (x : ℤ) (f : SFits w64 x) (h : nat_abs x ≤ 2147483647) where
  fits32 : SFits w32 x
  fits32 = record { sfits = omega (arith, mag-abs x) }

  pub narrows : SFits w32 (to_z w64 (of_z w64 x))
  narrows = subst (SFits w32) (sym (to_z-of_z f)) fits32

  pub narrowed : to_z w32 (of_z w32 (to_z w64 (of_z w64 x))) ≡ x
  narrowed = to_z-of_z narrows ∙ to_z-of_z f

-- the cross product of a value with a denominator, as code computes it
module _ (a d : ℤ) (fa : SFits w32 a) (fd : SFits w64 d) (h : nat_abs d ≤ 65535) where
  product : SFits w64 (a *ℤ d)
  product = cross a d (omega (arith, abs32 a fa.sfits)) h

  same-product : to_z w64 (of_z w64 (to_z w32 (of_z w32 a))) *ℤ to_z w64 (of_z w64 d) ≡ a *ℤ d
  same-product = ap₂ ◌*ℤ◌ (widened a fa) (to_z-of_z fd)

  pub scaled_fits : SFits w64 (to_z w64 (of_z w64 (to_z w32 (of_z w32 a))) *ℤ to_z w64 (of_z w64 d))
  scaled_fits = subst (SFits w64) (sym same-product) product

  pub scaled-is : to_z w64 (of_z w64 (to_z w64 (of_z w64 (to_z w32 (of_z w32 a))) *ℤ to_z w64 (of_z w64 d))) ≡ a *ℤ d
  scaled-is = ap (λ (z : ℤ). to_z w64 (of_z w64 z)) same-product ∙ to_z-of_z {w = w64} product
