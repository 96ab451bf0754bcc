-- The accumulator of a list of values, and how large an aggregate gets.
use mathlib.Core.Path.{◌≡◌, refl, sym, ap, ap₂, ◌∙◌}
use mathlib.Core.Bool.{Bool, true, false, cond}
use mathlib.Core.List.{List, [], ◌∷◌, ◌++◌}
use mathlib.Core.Option.{none, some}
use Prim.Native.Nat.{ℕ, zero, suc, ◌≤◌}
use native.Mathlib.Omega.{arith}
use lib.Dec.{eqb}
use borrow.Author.Tests.{ne_eqb, leb-true, leb-false}
use lib.IntN.{ℤ, pos, nat_abs, ◌+ℤ◌, +ℤ_assoc, +ℤ_idl, +ℤ_idr}
use lib.Signed.{lt_z, le_z}
use lib.ListN.{length, length-append}
use mir.Syntax.{w64}
use mir.Val.{to_z, of_z}
use mir.Facts.{to_z-of_z}
use Rattle.model.specs.Meaning as M
use Rattle.model.specs.Meaning.{sum, best_from, average, aggregate, compare}
use Rattle.numbers.specs.Numbers.{fraction, value_of, Number, ratio_of, Small, added, best, best_of, finished, Bounded, accumulator_of, Accumulates}
use Rattle.numbers.specs.declared.Ratio.{Ratio}
use Rattle.numbers.specs.declared.Accumulator.{Accumulator}
use Rattle.numbers.proofs.Signed.{fits64, abs-add, abs-cond}

-- a struct and the value that it stands for
fraction-none : (n : ℤ) (d : ℕ) → d ≡ 0 → fraction n d ≡ none
fraction-none n d e = ap (fraction n) e

fraction-some : (n : ℤ) (d : ℕ) → 1 ≤ d → fraction n d ≡ some (record { numerator = n; denominator = d })
fraction-some n zero h = absurd (omega arith)
fraction-some n (suc d) h = refl

-- what the test of a denominator tells
abs-most : (n : ℕ) → le_z (pos n) (pos 0) ≡ true → n ≡ 0
abs-most n h = let k = leb-true n 0 h in omega arith

abs-least : (n : ℕ) → le_z (pos n) (pos 0) ≡ false → 1 ≤ n
abs-least n h = let k = leb-false n 0 h in omega arith

-- the test as the code makes it, on bits
test-bits : (r : Ratio) → Small r → le_z (to_z w64 (of_z w64 r.denominator)) (pos 0) ≡ le_z (pos (nat_abs r.denominator)) (pos 0)
test-bits r s = ap (λ (z : ℤ). le_z z (pos 0)) (to_z-of_z (fits64 r.denominator (omega (arith, s.denominator))) ∙ s.sign)

pub value_none : (r : Ratio) → Small r → le_z (to_z w64 (of_z w64 r.denominator)) (pos 0) ≡ true → value_of r ≡ none
value_none r s h = fraction-none r.numerator (nat_abs r.denominator) (abs-most (nat_abs r.denominator) (sym (test-bits r s) ∙ h))

pub is_number : (r : Ratio) → Small r → le_z (to_z w64 (of_z w64 r.denominator)) (pos 0) ≡ false → Number r
is_number r s h = abs-least (nat_abs r.denominator) (sym (test-bits r s) ∙ h)

pub value-some : (r : Ratio) → Number r → value_of r ≡ some (ratio_of r)
value-some r h = fraction-some r.numerator (nat_abs r.denominator) h

some-not-none : (n : ℕ) → eqb (suc n) 0 ≡ false
some-not-none n = ne_eqb (suc n) 0 (λ e. omega arith)

-- one value more at the end
pub sum_more : (xs : List ℤ) (x : ℤ) → sum (xs ++ (x ∷ [])) ≡ sum xs +ℤ x
unfolding sum
sum_more [] x = +ℤ_idr x ∙ sym (+ℤ_idl x)
sum_more (y ∷ xs) x = ap (λ (z : ℤ). y +ℤ z) (sum_more xs x) ∙ sym (+ℤ_assoc y (sum xs) x)

best-from-more : (beaten : ℤ → ℤ → Bool) (m : ℤ) (xs : List ℤ) (x : ℤ) → best_from beaten m (xs ++ (x ∷ [])) ≡ cond (beaten (best_from beaten m xs) x) x (best_from beaten m xs)
unfolding best_from
best-from-more beaten m [] x = refl
best-from-more beaten m (y ∷ xs) x = best-from-more beaten (cond (beaten m y) y m) xs x

pub best-more : (beaten : ℤ → ℤ → Bool) (xs : List ℤ) (x : ℤ) → best beaten (xs ++ (x ∷ [])) ≡ cond (eqb (length xs) 0) x (cond (beaten (best beaten xs) x) x (best beaten xs))
unfolding best best_from
best-more beaten [] x = refl
best-more beaten (y ∷ xs) x = rw (some-not-none (length xs)) (best-from-more beaten y xs x)

pub added_is : (xs : List ℤ) (x : ℤ) → added (accumulator_of xs) x ≡ accumulator_of (xs ++ (x ∷ []))
unfolding accumulator_of
added_is xs x = rw (length-append, sum_more, best-more lt_z, best-more (λ a b. lt_z b a))

-- an accumulator with no value yet, as the code writes it
pub nothing-taken : record { count = 0; sum = pos 0; max = pos 0; min = pos 0 } ≡ accumulator_of []
unfolding accumulator_of sum best
nothing-taken = refl

-- the three laws of a loop
pub starts : (a : Accumulator) → a ≡ accumulator_of [] → Accumulates a []
unfolding accumulator_of sum best
starts a e = record { same = e; bounded = rw e (record { sum = omega arith; max = omega arith; min = omega arith }) }

pub continues : (a r : Accumulator) (xs : List ℤ) (x : ℤ) → Accumulates a xs → r ≡ added a x → Bounded r → Accumulates r (xs ++ (x ∷ []))
continues a r xs x h e b = record { same = e ∙ ap (λ (y : Accumulator). added y x) h.same ∙ added_is xs x; bounded = b }

pub counts : (a : Accumulator) (xs : List ℤ) → Accumulates a xs → a.count ≡ length xs
unfolding accumulator_of
counts a xs h = ap (λ (y : Accumulator). y.count) h.same

average-is : (xs : List ℤ) → fraction (sum xs) (length xs) ≡ average xs
unfolding average
average-is [] = refl
average-is (x ∷ xs) = refl

best-is : (beaten : ℤ → ℤ → Bool) (xs : List ℤ) → best_of (length xs) (best beaten xs) ≡ M.best beaten xs
unfolding best M.best
best-is beaten [] = refl
best-is beaten (x ∷ xs) = refl

finished-is : (f : ℕ) (xs : List ℤ) → finished f (accumulator_of xs) ≡ aggregate f xs
unfolding accumulator_of aggregate
finished-is f xs = rw (average-is xs, best-is lt_z xs, best-is (λ a b. lt_z b a) xs)

pub ends : (f : ℕ) (a : Accumulator) (r : Ratio) (xs : List ℤ) → Accumulates a xs → value_of r ≡ finished f a → value_of r ≡ aggregate f xs
ends f a r xs h e = e ∙ ap (finished f) h.same ∙ finished-is f xs

-- how large values get
pub small-over : (n : ℤ) (d : ℕ) → nat_abs n ≤ 140735340871680 → d ≤ 65535 → Small (record { numerator = n; denominator = pos d })
small-over n d h k = record { numerator = h; denominator = k; sign = refl }

pub bounded-added : (a : Accumulator) (x : ℤ) → Bounded a → nat_abs x ≤ 2147483648 → Bounded (added a x)
bounded-added a x b h =
    record {
      sum = omega (arith, abs-add a.sum x, b.sum);
      max = abs-cond (eqb a.count 0) x (cond (lt_z a.max x) x a.max) 2147483648 h (abs-cond (lt_z a.max x) x a.max 2147483648 h b.max);
      min = abs-cond (eqb a.count 0) x (cond (lt_z x a.min) x a.min) 2147483648 h (abs-cond (lt_z x a.min) x a.min 2147483648 h b.min);
    }

-- the functions that are nothing of no values
pub best_none : (n : ℕ) (x : ℤ) → n ≡ 0 → none ≡ best_of n x
best_none n x e = sym (ap (λ (k : ℕ). best_of k x) e)

pub best-some : (n : ℕ) (x : ℤ) → (n ≡ 0 → ⊥) → some (M.whole x) ≡ best_of n x
best-some zero x h = absurd (h refl)
best-some (suc n) x h = refl

-- comparisons, by the denominators
module _ (o : ℕ) (x y : Ratio) where
  pub compare-none : value_of x ≡ none → false ≡ compare o (value_of x) (value_of y)
  compare-none e = sym (ap (λ (v : M.Value). compare o v (value_of y)) e)

  right-none : (v : M.Value) → compare o v none ≡ false
  right-none none = refl
  right-none (some z) = refl

  pub compare-right-none : value_of y ≡ none → false ≡ compare o (value_of x) (value_of y)
  compare-right-none e = sym (ap (λ (v : M.Value). compare o (value_of x) v) e ∙ right-none (value_of x))

  pub compare-some : Number x → Number y → M.ordered o (ratio_of x) (ratio_of y) ≡ compare o (value_of x) (value_of y)
  compare-some h k = sym (ap₂ (compare o) (value-some x h) (value-some y k))
