-- How long texts are at most.
use mathlib.Core.Bool.{Bool, true, false, cond}
use mathlib.Core.List.{List, [], ◌∷◌, ◌++◌}
use Prim.Native.Nat.{ℕ, zero, suc, ◌+◌, ◌*◌, ◌/◌, ◌≤◌}
use native.Mathlib.Omega.{arith}
use lib.Dec.{ltb}
use lib.IntN.{ℤ, pos, negsuc}
use lib.ListN.{length, take, drop, length-append, length-take, length-drop}
use Rattle.program.specs.Text as T

pub digits-length : (k n : ℕ) → length (T.digits k n) ≤ suc k
unfolding T.digits
digits-length zero n = omega arith
digits-length (suc k) n = go (ltb n 10) (digits-length k (n / 10))
  where
    go : (b : Bool) → length (T.digits k (n / 10)) ≤ suc k → length (cond b (T.digit n ∷ []) (T.digits k (n / 10) ++ (T.digit n ∷ []))) ≤ suc (suc k)
    go true h = omega arith
    go false h = omega (arith, length-append (T.digits k (n / 10)) (T.digit n ∷ []))

pub signed-length : (z : ℤ) → length (T.signed z) ≤ 21
unfolding T.signed
signed-length (pos n) = omega (arith, digits-length 19 n)
signed-length (negsuc n) = omega (arith, digits-length 19 (suc n))

pub decimal-length : (n : ℕ) → length (T.decimal n) ≤ 21
decimal-length n = omega (arith, digits-length 19 n)

pub line-length : {A : Type 0} (f : A → List ℕ) → ((x : A) → length (f x) ≤ 21) → (xs : List A) → length (T.line f xs) ≤ 22 * length xs
unfolding T.line
line-length f h [] = omega arith
line-length f h (x ∷ xs) = omega (arith, length-append (f x) (T.gap (length xs) ∷ T.line f xs), h x, line-length f h xs)

pub table-length : (n w : ℕ) (cs : List ℤ) → length (T.table n w cs) ≤ 22 * length cs
unfolding T.table
table-length zero w cs = omega arith
table-length (suc n) w cs =
    omega (
      arith,
      length-append (T.line T.signed (take w cs)) (T.table n w (drop w cs)),
      line-length T.signed signed-length (take w cs),
      table-length n w (drop w cs),
      length-take w cs,
      length-drop w cs,
    )

pub labelled-length : (s : List ℕ) (n : ℕ) → length (T.labelled s n) ≤ length s + 21
labelled-length s n = omega (arith, length-append s (T.decimal n ++ (10 ∷ [])), length-append (T.decimal n) (10 ∷ []), digits-length 19 n)
