-- The rows that a query's bytes give, read with the table of sizes.
use Rattle.std.specs.Prelude.{ℕ, zero, suc, ◌+◌, ◌-◌, ◌*◌, ◌≤◌, ◌<◌, ◌≡◌, Bool, true, false, List, [], map, ℤ, pos, get_or, set, take, drop}
use Rattle.std.proofs.Math.Option.{Option, none, some}
use Rattle.std.proofs.lemmas.List.Edits.{sets}
use Rattle.model.specs.Lists.{update, concat_map, present}
use Rattle.model.specs.Syntax.{Term}
use Rattle.model.specs.Meaning.{Assignment, Rows, Value, cell, with_cell, target_row_with}
use Rattle.numbers.specs.Recalled.{recall}
use Rattle.branches.specs.Branches.{operand}
use Rattle.rows.specs.Buffer.{Buffer, added}
use Rattle.walks.specs.Walks.{walked, rows_by}
use Rattle.sizes.specs.Parts.{ranges_at, targets_at}
use Rattle.odometer.specs.Staged.{staged_from, depth_holds}
use Rattle.odometer.specs.declared.Plan.{Plan}

-- what a plan keeps to, for a table of n entries
pub record Bounds (p : Plan) (n : ℕ) : Type 0 where
  pub columns : p.columns ≤ 8
  pub ranges : p.depth + p.left < 65536
  pub branches : 768 ≤ p.front
  pub room : p.front + 16 ≤ n

-- the parts of that table: the branches, the chains, the list of targets, the table of the answer's rows
abbrev pub code_in : List ℕ → List ℕ
code_in w = take 768 w

abbrev pub chains_in : Plan → List ℕ → List ℕ
chains_in p w = take (p.front - 768) (drop 768 w)

abbrev pub list_in : Plan → List ℕ → List ℕ
list_in p w = take 16 (drop p.front w)

abbrev pub table_in : Plan → List ℕ → List ℕ
table_in p w = drop (p.front + 16) w

-- all but the last
abbrev pub front_of : Plan → List ℕ → List ℕ
front_of p w = take (p.front + 16) w

-- the cells of an assignment's targets, with the memo m
abbrev pub cells_by : List ℤ → List Term → Rows → Assignment → Option (List ℤ)
cells_by m ts R e = target_row_with (recall m) ts R e

-- the cells of n targets of a list, from target i on: two numbers for each, as for a side of a comparison
unfoldable pub cells_in : List ℤ → List ℕ → ℕ → ℕ → Assignment → Option (List ℤ)
cells_in m l zero i e = some []
cells_in m l (suc n) i e = with_cell (operand m (get_or l (2 * i) 0) (get_or l (2 * i + 1) 0) (pos 0) e) (cells_in m l n (suc i) e)

-- whether there is a value, and that its cell stands at i in what was `row`
abbrev pub Put : Bool → List ℤ → ℕ → List ℤ → Value → Type 0
Put b row i after none = b ≡ false
Put b row i after (some x) = (b ≡ true) × (after ≡ set row i (cell x))

-- whether there are cells, and that they stand from place `at` on in what was `row`
abbrev pub Written : Bool → List ℤ → ℕ → List ℤ → Option (List ℤ) → Type 0
Written b row at after none = b ≡ false
Written b row at after (some cells) = (b ≡ true) × (after ≡ sets row at cells)

-- whether there are cells, and that they are the first n
abbrev pub Cells : Bool → ℕ → List ℤ → Option (List ℤ) → Type 0
Cells b n row none = b ≡ false
Cells b n row (some x) = (b ≡ true) × (take n row ≡ x)

-- an assignment's row, if it gives one, added to the answer
abbrev pub added_row : Buffer → Option (List ℤ) → Buffer
added_row s none = s
added_row s (some x) = added s x

-- the row of an assignment, and the rows of several
abbrev pub row_by : Plan → List ℕ → List ℕ → List ℕ → List ℤ → List ℤ → Assignment → Option (List ℤ)
row_by p q z ws vs m e = cells_by m (targets_at p.columns p.level (drop p.targets q) (drop p.targets z)) (rows_by ws vs) e

abbrev pub rows_of : Plan → List ℕ → List ℕ → List ℕ → List ℤ → List ℤ → List Assignment → List (List ℤ)
rows_of p q z ws vs m es = present (map (row_by p q z ws vs m) es)

-- where the targets are listed, the list has their values
abbrev pub Listed : List ℕ → Plan → List ℕ → List ℕ → List ℤ → Type 0
Listed l p q z m = p.listed ≡ true → (R : Rows) (e : Assignment) → cells_by m (targets_at p.columns p.level (drop p.targets q) (drop p.targets z)) R e ≡ cells_in m l p.columns 0 e

-- a RANGE record has three bytes; the second is its variable
abbrev pub range_variable : List ℕ → ℕ → ℕ
range_variable q d = get_or q (3 * d + 1) 0

module _ (p : Plan) (t q z ws : List ℕ) (vs m : List ℤ) where
  -- the rows of the ranges that are left
  unfoldable pub rows_from : Assignment → List (List ℤ)
  rows_from e = rows_of p q z ws vs m (staged_from (depth_holds t q z ws vs m) p.depth (ranges_at p.left (drop (3 * p.depth) q)) (rows_by ws vs) e)

  -- the same with no test at this depth, for at least one range
  unfoldable pub rows_below : Assignment → List (List ℤ)
  rows_below e = rows_of p q z ws vs m
      (concat_map (λ x. staged_from (depth_holds t q z ws vs m) (suc p.depth) (ranges_at (p.left - 1) (drop (3 * suc p.depth) q)) (rows_by ws vs) (update e (range_variable q p.depth) x)) (walked ws vs (range_variable q p.depth)))
