-- The two calls, whole: number, counts and the lent buffers afterwards (document 01, "Who can cause a refusal").
use Rattle.std.specs.Prelude.{ℕ, zero, suc, ◌*◌, ◌/◌, min, cond, List, ◌++◌, leb, ℤ, length, take, drop}
use Rattle.model.specs.Lists.{concat_map}
use Rattle.model.specs.Syntax.{Query}
use Rattle.model.specs.Encoding.{query_of, permits_of, encode_query}
use Rattle.model.specs.Meaning.{Tuple, answers}
use Rattle.model.specs.Catalogue.{catalogue_of, shape_of, tuples_at, all_rows}
use Rattle.model.specs.Permits.{guards_of}
use Rattle.model.specs.Rewriting.{rewrite_query}
use Rattle.model.specs.Checks.{refusal, ask_checks, evaluate_checks}

-- what the plain evaluator returns, with the answer buffer's cells afterwards; number 0 is accepted
pub record Answer : Type 0 where
  pub number : ℕ
  pub rows : ℕ
  pub columns : ℕ
  pub cells : List ℤ

-- what the guarded call returns, with the count of rewritten bytes and the other buffer afterwards
pub record Outcome : Type 0 where
  pub answer : Answer
  pub count : ℕ
  pub rewritten : List ℕ

-- a refusal is its number with zero counts; the buffers keep their contents
abbrev pub refuse : ℕ → List ℤ → Answer
refuse n cells = record { number = n; rows = 0; columns = 0; cells = cells }

-- how many whole rows fit the buffer
abbrev pub fitting : ℕ → List (List ℤ) → List ℤ → ℕ
fitting columns rows cells = min (length rows) (length cells / columns)

-- the rows that fit, row after row; 41 where that is not all; other cells unchanged
unfoldable pub give : ℕ → List (List ℤ) → List ℤ → Answer
give columns rows cells =
    let m = fitting columns rows cells in
    record {
      number = cond (leb (length rows) (length cells / columns)) 0 41;
      rows = m;
      columns = columns;
      cells = concat_map (λ r. r) (take m rows) ++ drop (m * columns) cells;
    }

-- the plain evaluator
unfoldable pub evaluate_unless : ℕ → Query → (ℕ → List Tuple) → List ℤ → Answer
evaluate_unless zero q D cells = give (length q.targets) (answers q (all_rows D)) cells
evaluate_unless (suc n) q D cells = refuse (suc n) cells

unfoldable pub evaluate : List ℕ → List ℤ → List ℕ → List ℤ → Answer
evaluate cb vs qb cells = evaluate_unless (refusal (evaluate_checks cb vs qb)) (query_of qb) (tuples_at (catalogue_of cb) vs) cells

-- the guarded call: q is the rewritten query
unfoldable pub ask_unless : ℕ → Query → (ℕ → List Tuple) → List ℕ → List ℤ → Outcome
ask_unless zero q D rewritten cells =
    let bs = encode_query q in
    record { answer = evaluate_unless 0 q D cells; count = length bs; rewritten = bs ++ drop (length bs) rewritten }
ask_unless (suc n) q D rewritten cells = record { answer = refuse (suc n) cells; count = 0; rewritten = rewritten }

unfoldable pub ask : List ℕ → List ℤ → List ℕ → List ℕ → List ℕ → List ℤ → Outcome
ask cb vs pb qb rewritten cells =
    let cat = catalogue_of cb in
    let q = query_of qb in
    ask_unless
    (refusal (ask_checks cb vs pb qb (length rewritten)))
    (rewrite_query (guards_of (shape_of cat) (permits_of pb) q) q)
    (tuples_at cat vs)
    rewritten
    cells
