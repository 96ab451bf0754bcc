-- Values of terms and the values that an aggregate takes, as the code holds them (document 01, "Meaning").
use Rattle.std.specs.Prelude.{ℕ, zero, suc, ◌+◌, ◌*◌, ◌≤◌, ◌≡◌, Bool, not, cond, ◌&&◌, List, [], ◌∷◌, eqb, ℤ, pos, nat_abs, ◌+ℤ◌, ◌-ℤ◌, length}
use Rattle.std.proofs.Math.Option.{none, some}
use Rattle.std.specs.Int.Signed.{lt_z, le_z}
use Rattle.model.specs.Meaning as M
use Rattle.numbers.specs.declared.Ratio.{Ratio}
use Rattle.numbers.specs.declared.Accumulator.{Accumulator}

-- n over d; over 0 there is nothing
abbrev pub fraction : ℤ → ℕ → M.Value
fraction n zero = none
fraction n (suc d) = some (record { numerator = n; denominator = suc d })

-- the value that a struct stands for
abbrev pub value_of : Ratio → M.Value
value_of r = fraction r.numerator (nat_abs r.denominator)

-- a number, and which one
abbrev pub Number : Ratio → Type 0
Number r = 1 ≤ nat_abs r.denominator

abbrev pub ratio_of : Ratio → M.Ratio
ratio_of r = record { numerator = r.numerator; denominator = nat_abs r.denominator }

-- what a query's values keep to: a sum of at most 65,535 values (a row count has two bytes) over a count of them
pub record Small (r : Ratio) : Type 0 where
  pub numerator : nat_abs r.numerator ≤ 140735340871680
  pub denominator : nat_abs r.denominator ≤ 65535
  pub sign : r.denominator ≡ pos (nat_abs r.denominator)

-- the operators on two numbers; on fractions they are these on the cross products
abbrev pub ordered : ℕ → ℤ → ℤ → Bool
ordered o a b =
    cond (eqb o 1) (le_z a b && le_z b a)
    (cond (eqb o 2) (not (le_z a b && le_z b a))
    (cond (eqb o 3) (lt_z a b)
    (cond (eqb o 4) (le_z a b)
    (cond (eqb o 5) (lt_z b a) (le_z b a)))))

-- b, with the sign of a
abbrev pub toward : ℤ → ℤ → ℤ
toward a b = cond (lt_z a (pos 0)) (pos 0 -ℤ b) b

-- the best so far of n values and the next value; the first value is the best of one
abbrev pub larger : ℕ → ℤ → ℤ → ℤ
larger n m x = cond (eqb n 0) x (cond (lt_z m x) x m)

abbrev pub smaller : ℕ → ℤ → ℤ → ℤ
smaller n m x = cond (eqb n 0) x (cond (lt_z x m) x m)

-- one value more
abbrev pub added : Accumulator → ℤ → Accumulator
added a x =
    record {
      count = a.count + 1;
      sum = a.sum +ℤ x;
      max = larger a.count a.max x;
      min = smaller a.count a.min x;
    }

-- MAX and MIN of n values, of which x is the best
abbrev pub best_of : ℕ → ℤ → M.Value
best_of zero x = none
best_of (suc n) x = some (M.whole x)

-- the functions: 1 COUNT, 2 SUM, 3 AVE, 4 MAX, 5 MIN; of no values the last three are nothing
abbrev pub finished : ℕ → Accumulator → M.Value
finished f a =
    cond (eqb f 1) (some (M.whole (pos a.count)))
    (cond (eqb f 2) (some (M.whole a.sum))
    (cond (eqb f 3) (fraction a.sum a.count)
    (cond (eqb f 4) (best_of a.count a.max) (best_of a.count a.min))))

-- an accumulator of 32-bit values
pub record Bounded (a : Accumulator) : Type 0 where
  pub sum : nat_abs a.sum ≤ 2147483648 * a.count
  pub max : nat_abs a.max ≤ 2147483648
  pub min : nat_abs a.min ≤ 2147483648

-- the best value; of none, 0, which is never read
unfoldable pub best : (ℤ → ℤ → Bool) → List ℤ → ℤ
best beaten [] = pos 0
best beaten (x ∷ xs) = M.best_from beaten x xs

-- the accumulator of a list of values
unfoldable pub accumulator_of : List ℤ → Accumulator
accumulator_of xs =
    record {
      count = length xs;
      sum = M.sum xs;
      max = best lt_z xs;
      min = best (λ a b. lt_z b a) xs;
    }

-- what a loop over rows keeps: the values taken so far are xs
pub record Accumulates (a : Accumulator) (xs : List ℤ) : Type 0 where
  pub same : a ≡ accumulator_of xs
  pub bounded : Bounded a
