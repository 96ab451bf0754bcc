-- The answer buffer while a query runs: row after row, a row equal to an earlier one dropped, and 41
-- (document 01, "Meaning" and "Who can cause a refusal").
use Rattle.std.specs.Prelude.{ℕ, zero, suc, ◌+◌, ◌*◌, ◌/◌, Bool, true, false, cond, List, [], ◌∷◌, ◌++◌, ltb, ℤ, length, take, drop}
use Rattle.model.specs.Lists.{any}
use Rattle.model.specs.Meaning.{same_row}
use Rattle.model.specs.Search.{Search, search}
use Rattle.model.specs.Calls.{Answer}

-- how many rows are stored, and whether a distinct row did not fit
pub record Buffer : Type 0 where
  pub rows : ℕ
  pub full : Bool
  pub cells : List ℤ

-- the first n rows
unfoldable pub stored_rows : ℕ → ℕ → List ℤ → List (List ℤ)
stored_rows columns zero cells = []
stored_rows columns (suc n) cells = take columns cells ∷ stored_rows columns n (drop columns cells)

-- the row is among the first n
abbrev pub stored : ℕ → List ℤ → List ℤ → Bool
stored n cells x = any (same_row x) (stored_rows (length x) n cells)

-- the search for a row equal to it among the first n (document 02, change 5); `stored` is whether it finds one
abbrev pub sought : ℕ → List ℤ → List ℤ → Search
sought n cells x = search (same_row x) (stored_rows (length x) n cells)

-- the cells from `at` on are those of the row
abbrev pub over : List ℤ → ℕ → List ℤ → List ℤ
over cells at x = take at cells ++ x ++ drop (at + length x) cells

-- one row more: dropped where it is stored, laid after the others where it fits, and else 41 is certain; then nothing changes
unfoldable pub added : Buffer → List ℤ → Buffer
added b x =
    cond b.full b
    (cond (stored b.rows b.cells x) b
    (cond (ltb b.rows (length b.cells / length x))
    (record { rows = b.rows + 1; full = false; cells = over b.cells (b.rows * length x) x })
    (record { rows = b.rows; full = true; cells = b.cells })))

-- row after row
unfoldable pub added_all : Buffer → List (List ℤ) → Buffer
added_all b [] = b
added_all b (x ∷ xs) = added_all (added b x) xs

-- no row yet
abbrev pub start : List ℤ → Buffer
start cells = record { rows = 0; full = false; cells = cells }

-- what the call returns of the buffer: 41 where a distinct row did not fit
abbrev pub answer_of : ℕ → Buffer → Answer
answer_of columns b = record { number = cond b.full 41 0; rows = b.rows; columns = columns; cells = b.cells }
