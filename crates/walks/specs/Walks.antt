-- The rows of each variable, as a table of numbers. Eight numbers a variable: where its list starts in the table, how many rows it has, where the
-- values of its relation begin (low and high part), how many values a row has, and three that are not used. A list is the numbers of the rows in
-- the relation, in the order in which they are walked. 0 for its start is no list: all rows in order; 1 the same from the last row on. One list can
-- serve several variables.
use Rattle.std.specs.Prelude.{ℕ, zero, suc, ◌+◌, ◌-◌, ◌*◌, ◌≤◌, List, [], ◌∷◌, map, ℤ, get_or, Bool, cond, eqb}
use Rattle.model.specs.Meaning.{Tuple, Rows}
use Rattle.model.specs.Lists.{filter}
use Rattle.catalogue.specs.Layout.{tuple_at}
use Rattle.walks.specs.declared.Walk.{Walk}

-- what the table says of variable v
abbrev pub walk_of : List ℕ → ℕ → Walk
walk_of ws v = record { start = get_or ws (8 * v) 0; count = get_or ws (8 * v + 1) 0; base = get_or ws (8 * v + 2) 0 + 65536 * get_or ws (8 * v + 3) 0; width = get_or ws (8 * v + 4) 0 }

-- the number of row i of a walk in its relation
abbrev pub row_at : List ℕ → Walk → ℕ → ℕ
row_at ws x i = cond (eqb x.start 0) i (cond (eqb x.start 1) (x.count - suc i) (get_or ws (x.start + i) 0))

-- its place
unfoldable pub place_at : List ℕ → Walk → ℕ → ℕ
place_at ws x i = x.base + row_at ws x i * x.width

-- n places from place i on
unfoldable pub places : (ℕ → ℕ) → ℕ → ℕ → List ℕ
places P i zero = []
places P i (suc n) = P i ∷ places P (suc i) n

-- the rows of a variable, whatever its relation
unfoldable pub walked : List ℕ → List ℤ → ℕ → List Tuple
walked ws vs v = map (tuple_at vs) (places (place_at ws (walk_of ws v)) 0 (walk_of ws v).count)

abbrev pub rows_by : List ℕ → List ℤ → Rows
rows_by ws vs v r = walked ws vs v

-- the values of attribute a in the first n rows that meet a condition
unfoldable pub kept : List ℤ → (Tuple → Bool) → ℕ → (ℕ → ℕ) → ℕ → List ℤ
kept vs f a P n = map (λ (x : Tuple). x a) (filter f (map (tuple_at vs) (places P 0 n)))

-- what any table gives: places fit
pub record Fits (x : Walk) : Type 0 where
  pub start : x.start ≤ 65535
  pub count : x.count ≤ 65535
  pub base : x.base ≤ 4294967295
  pub width : x.width ≤ 65535
