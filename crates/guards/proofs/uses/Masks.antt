-- Bits of a mask.
use mathlib.Core.Path.{◌≡◌, refl, sym, ap, subst, ◌∙◌}
use mathlib.Core.Bool.{Bool, true, false, cond, ◌&&◌, ◌||◌}
use Prim.Native.Nat.{ℕ, zero, suc, ◌+◌, ◌*◌, ◌/◌, ◌%◌, ◌^◌, ◌<◌, max}
use native.Mathlib.Omega.{arith}
use lib.Dec.{T, eqb, eqb→eq}
use borrow.Author.Tests.{eqb-true, eqb-false}
use lib.Bits.{bit_or, or_step, or_shr}
use Rattle.model.specs.Permits.{bit}

-- a test over all numbers below n
below_all : ℕ → (ℕ → Bool) → Bool
below_all zero f = true
below_all (suc n) f = f n && below_all n f

below_one : (n : ℕ) (f : ℕ → Bool) → T (below_all n f) → (a : ℕ) → a < n → T (f a)
unfolding below_all
below_one zero f t a h = absurd (omega arith)
below_one (suc n) f t a h = go (eqb a n) refl (λ k. below_one n f (right (f n) (below_all n f) t) a (omega arith))
  where
    left : (x y : Bool) → T (x && y) → T x
    left true y u = tt
    left false y u = u

    right : (x y : Bool) → T (x && y) → T y
    right true y u = u
    right false y u = absurd u

    go : (b : Bool) → eqb a n ≡ b → ((a ≡ n → ⊥) → T (f a)) → T (f a)
    go true e ih = subst (λ (i : ℕ). T (f i)) (sym (eqb-true a n e)) (left (f n) (below_all n f) t)
    go false e ih = ih (eqb-false a n e)

-- the mask of one attribute
power-bits : T (below_all 16 (λ a. below_all 16 (λ b. eqb (2 ^ a / 2 ^ b % 2) (cond (eqb a b) 1 0))))
unfolding below_all
power-bits = tt

power-bit : (a b : ℕ) → a < 16 → b < 16 → 2 ^ a / 2 ^ b % 2 ≡ cond (eqb a b) 1 0
power-bit a b h k = eqb→eq (2 ^ a / 2 ^ b % 2) (cond (eqb a b) 1 0) (below_one 16 _ (below_one 16 (λ a. below_all 16 (λ b. eqb (2 ^ a / 2 ^ b % 2) (cond (eqb a b) 1 0))) power-bits a h) b k)

-- the last bit of an OR
or-odd : (x y : ℕ) → bit_or x y % 2 ≡ max (x % 2) (y % 2)
or-odd x y = let e : bit_or x y ≡ bit_or (x / 2) (y / 2) * 2 + max (x % 2) (y % 2) = or_step x y in omega arith

pub or-bit : (m a b : ℕ) → a < 16 → b < 16 → bit (bit_or m (2 ^ a)) b ≡ bit m b || eqb a b
unfolding bit
or-bit m a b h k =
    ap (λ (n : ℕ). eqb n 1) (ap (λ (n : ℕ). n % 2) (or_shr m (2 ^ a) b) ∙ or-odd (m / 2 ^ b) (2 ^ a / 2 ^ b) ∙ ap (λ (n : ℕ). max (m / 2 ^ b % 2) n) (power-bit a b h k))
    ∙ go (m / 2 ^ b % 2) (eqb a b) (omega arith)
  where
    go : (n : ℕ) (t : Bool) → n < 2 → eqb (max n (cond t 1 0)) 1 ≡ eqb n 1 || t
    go zero true l = refl
    go zero false l = refl
    go (suc zero) true l = refl
    go (suc zero) false l = refl
    go (suc (suc n)) t l = absurd (omega arith)

powers-fit : T (below_all 16 (λ a. eqb ((1 * 2 ^ a) % 65536) (2 ^ a)))
unfolding below_all
powers-fit = tt

pub power : (a : ℕ) → a < 16 → (1 * 2 ^ a) % 65536 ≡ 2 ^ a
power a h = eqb→eq ((1 * 2 ^ a) % 65536) (2 ^ a) (below_one 16 (λ a. eqb ((1 * 2 ^ a) % 65536) (2 ^ a)) powers-fit a h)
