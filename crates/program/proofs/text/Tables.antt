-- The rows of a table: a turn of the loop over them.
use mathlib.Core.Path.{◌≡◌, refl, sym, ap, ◌∙◌}
use mathlib.Core.List.{List, [], ◌++◌}
use Prim.Native.Nat.{ℕ, zero, suc, ◌+◌, ◌-◌, ◌*◌, ◌≤◌, ◌<◌}
use native.Mathlib.Nat.{suc-mul}
use native.Mathlib.Omega.{arith}
use lib.IntN.{ℤ}
use lib.ListN.{take, drop}
use lib.Seq.{drop-drop}
use Rattle.program.specs.Text as T

less_one : (left w : ℕ) → 0 < left → left * w ≡ (left - 1) * w + w
less_one zero w h = absurd (omega arith)
less_one (suc n) w h = let e : suc n - 1 ≡ n = omega arith in suc-mul n w ∙ sym (ap (λ (k : ℕ). k * w + w) e)

-- a row is within the cells, and those after it too
module _ (from left w n : ℕ) (h : 0 < left) (l : from + left * w ≤ n) where
  pub row_room : from + w ≤ n
  row_room = omega (arith, less_one left w h)

  pub rows-room : from + w + (left - 1) * w ≤ n
  rows-room = omega (arith, less_one left w h)

table-cons : (left w : ℕ) (cs : List ℤ) → 0 < left → T.table left w cs ≡ T.line T.signed (take w cs) ++ T.table (left - 1) w (drop w cs)
unfolding T.table
table-cons zero w cs h = absurd (omega arith)
table-cons (suc n) w cs h = let e : suc n - 1 ≡ n = omega arith in sym (ap (λ (k : ℕ). T.line T.signed (take w cs) ++ T.table k w (drop w cs)) e)

pub table_step : (left w from : ℕ) (cs : List ℤ) → 0 < left → T.table left w (drop from cs) ≡ T.line T.signed (take (from + w - from) (drop from cs)) ++ T.table (left - 1) w (drop (from + w) cs)
table_step left w from cs h =
    let e : w ≡ from + w - from = omega arith in
    table-cons left w (drop from cs) h
    ∙ ap (λ (k : ℕ). T.line T.signed (take k (drop from cs)) ++ T.table (left - 1) w (drop w (drop from cs))) e
    ∙ ap (λ (q : List ℤ). T.line T.signed (take (from + w - from) (drop from cs)) ++ T.table (left - 1) w q) (drop-drop w from cs)

pub table-end : (left w : ℕ) (cs : List ℤ) → left ≤ 0 → T.table left w cs ≡ []
unfolding T.table
table-end zero w cs h = refl
table-end (suc n) w cs h = absurd (omega arith)
