-- What a query means (document 01, "Meaning").
use Rattle.std.specs.Prelude.{ℕ, ◌+◌, ◌*◌, ◌/◌, Bool, true, false, not, cond, ◌&&◌, ◌||◌, List, [], ◌∷◌, ◌++◌, map, ℤ, pos, neg_ℤ, nat_abs, ◌+ℤ◌, ◌*ℤ◌, ◌-ℤ◌, length, ltb, eqb}
use Rattle.std.proofs.Math.Option.{Option, none, some}
use Rattle.std.specs.Int.Signed.{lt_z, le_z, non_neg}
use Rattle.model.specs.Lists.{update, filter, any, concat_map, present}
use Rattle.model.specs.Syntax.{Condition, Term, TRUE, FALSE, NOT, AND, OR, COMPARE, SOME, CONSTANT, ATTRIBUTE, AGGREGATE, Binding, Query}

-- a tuple: the value of each attribute
abbrev pub Tuple : Type 0
Tuple = ℕ → ℤ

-- an assignment: the tuple of each variable
abbrev pub Assignment : Type 0
Assignment = ℕ → Tuple

-- the rows that a variable over a relation runs through, in order
abbrev pub Rows : Type 0
Rows = ℕ → ℕ → List Tuple

-- a number, exact: numerator over denominator
pub record Ratio : Type 0 where
  pub numerator : ℤ
  pub denominator : ℕ

abbrev pub whole : ℤ → Ratio
whole z = record { numerator = z; denominator = 1 }

-- the value of a term: a number, or nothing (document 02, change 2)
abbrev pub Value : Type 0
Value = Option Ratio

-- a target's cell, as tills round: the nearest whole number, halves away from zero (document 02, change 4)
unfoldable pub cell : Ratio → ℤ
cell x =
    let n = (2 * nat_abs x.numerator + x.denominator) / (2 * x.denominator) in
    cond (non_neg x.numerator) (pos n) (neg_ℤ (pos n))

-- a constant: 4 bytes, two's complement, low first
unfoldable pub signed : ℕ → ℕ → ℕ → ℕ → ℤ
signed a b c d =
    let n = a + 256 * b + 65536 * c + 16777216 * d in
    cond (ltb n 2147483648) (pos n) (pos n -ℤ pos 4294967296)

unfoldable pub sum : List ℤ → ℤ
sum [] = pos 0
sum (x ∷ xs) = x +ℤ sum xs

-- the value that no other beats; the first argument says when the second value beats the first
unfoldable pub best_from : (ℤ → ℤ → Bool) → ℤ → List ℤ → ℤ
best_from beaten m [] = m
best_from beaten m (x ∷ xs) = best_from beaten (cond (beaten m x) x m) xs

-- MAX and MIN; over no rows nothing
unfoldable pub best : (ℤ → ℤ → Bool) → List ℤ → Value
best beaten [] = none
best beaten (x ∷ xs) = some (whole (best_from beaten x xs))

-- AVE, exact: sum over count; over no rows nothing
unfoldable pub average : List ℤ → Value
average [] = none
average (x ∷ xs) = some (record { numerator = sum (x ∷ xs); denominator = length (x ∷ xs) })

-- the aggregates: 1 COUNT, 2 SUM, 3 AVE, 4 MAX, 5 MIN; over no rows COUNT and SUM are 0; other functions are 20 or 30 (`is_function`), so the last
-- case is 5 alone
unfoldable pub aggregate : ℕ → List ℤ → Value
aggregate f xs =
    cond (eqb f 1) (some (whole (pos (length xs))))
    (cond (eqb f 2) (some (whole (sum xs)))
    (cond (eqb f 3) (average xs)
    (cond (eqb f 4) (best lt_z xs) (best (λ a b. lt_z b a) xs))))

-- the operators: 1 =, 2 ≠, 3 <, 4 ≤, 5 >, 6 ≥; fractions are compared exactly; other operators are 20 or 30 (`is_operator`), so the last case is 6 alone
unfoldable pub ordered : ℕ → Ratio → Ratio → Bool
ordered o x y =
    let a = x.numerator *ℤ pos y.denominator in
    let b = y.numerator *ℤ pos x.denominator in
    cond (eqb o 1) (le_z a b && le_z b a)
    (cond (eqb o 2) (not (le_z a b && le_z b a))
    (cond (eqb o 3) (lt_z a b)
    (cond (eqb o 4) (le_z a b)
    (cond (eqb o 5) (lt_z b a) (le_z b a)))))

-- a comparison with nothing is false, whichever operator, so its NOT is true
abbrev pub compare : ℕ → Value → Value → Bool
compare o none y = false
compare o (some x) none = false
compare o (some x) (some y) = ordered o x y

-- what is known of aggregates before the rows are looked at, by their variables: nothing, but for code that keeps a value
abbrev pub Known : Type 0
Known = ℕ → Option Value

abbrev pub unknown : Known
unknown v = none

abbrev pub known_or : Option Value → Value → Value
known_or none x = x
known_or (some y) x = y

-- whether a condition holds, and the value of a term
module _ (known : Known) where
  unfoldable mutual
    pub holds_with : Condition → Rows → Assignment → Bool
    holds_with TRUE R e = true
    holds_with FALSE R e = false
    holds_with (NOT c) R e = not (holds_with c R e)
    holds_with (AND c d) R e = holds_with c R e && holds_with d R e
    holds_with (OR c d) R e = holds_with c R e || holds_with d R e
    holds_with (COMPARE o s t) R e = compare o (value_with s R e) (value_with t R e)
    holds_with (SOME v r c) R e = any (λ x. holds_with c R (update e v x)) (R v r)

    pub value_with : Term → Rows → Assignment → Value
    value_with (CONSTANT a b c d) R e = some (whole (signed a b c d))
    value_with (ATTRIBUTE v a) R e = some (whole (e v a))
    value_with (AGGREGATE f v r a c) R e = known_or (known v) (aggregate f (map (λ (x : Tuple). x a) (filter (λ x. holds_with c R (update e v x)) (R v r))))

abbrev pub holds : Condition → Rows → Assignment → Bool
holds c R e = holds_with unknown c R e

abbrev pub value : Term → Rows → Assignment → Value
value t R e = value_with unknown t R e

-- the odometer: first row first, the last RANGE fastest; with no RANGE, one assignment
unfoldable pub assignments : List Binding → Rows → Assignment → List Assignment
assignments [] R e = e ∷ []
assignments (b ∷ bs) R e = concat_map (λ x. assignments bs R (update e b.variable x)) (R b.variable b.relation)

-- no variable is bound yet; a variable out of reach is 22 or 32, so the 0 is never read
abbrev pub unbound : Assignment
unbound v a = pos 0

abbrev pub with_cell : Value → Option (List ℤ) → Option (List ℤ)
with_cell none row = none
with_cell (some x) none = none
with_cell (some x) (some row) = some (cell x ∷ row)

-- the cells of an assignment's targets; with a target that has no value it gives no row (document 02, change 2)
module _ (known : Known) where
  unfoldable pub target_row_with : List Term → Rows → Assignment → Option (List ℤ)
  target_row_with [] R e = some []
  target_row_with (t ∷ ts) R e = with_cell (value_with known t R e) (target_row_with ts R e)

abbrev pub target_row : List Term → Rows → Assignment → Option (List ℤ)
target_row ts R e = target_row_with unknown ts R e

unfoldable pub same_row : List ℤ → List ℤ → Bool
same_row [] [] = true
same_row [] (y ∷ ys) = false
same_row (x ∷ xs) [] = false
same_row (x ∷ xs) (y ∷ ys) = le_z x y && le_z y x && same_row xs ys

-- a row equal to an earlier one is dropped; `rows` are those so far, in order of first meeting
unfoldable pub add_row : List (List ℤ) → List ℤ → List (List ℤ)
add_row rows x = elim (any (same_row x) rows) [ true ↦ rows | false ↦ rows ++ (x ∷ []) ]

unfoldable pub add_rows : List (List ℤ) → List (List ℤ) → List (List ℤ)
add_rows rows [] = rows
add_rows rows (x ∷ xs) = add_rows (add_row rows x) xs

-- the assignments that meet the condition
unfoldable pub qualifying : Query → Rows → List Assignment
qualifying q R = filter (holds q.condition R) (assignments q.ranges R unbound)

-- the rows that they give, in their order
unfoldable pub rows_met : Query → Rows → List (List ℤ)
rows_met q R = present (map (target_row q.targets R) (qualifying q R))

-- the answer: distinct rows of target values, in order of first meeting
unfoldable pub answers : Query → Rows → List (List ℤ)
answers q R = add_rows [] (rows_met q R)
