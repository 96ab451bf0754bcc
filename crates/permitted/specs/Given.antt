-- The rows that each variable is given: those that meet the condition of a permit in its mask, by the permits' bytes. With no permit in it all rows.
-- Lists stand in the table of walks one after the other. A variable with a list has a key in the table, from its relation and mask, so that another
-- one with the same key can be given the same list.
use Rattle.std.specs.Prelude.{ℕ, suc, ◌+◌, ◌-◌, ◌*◌, ◌/◌, ◌≤◌, ◌<◌, ◌≡◌, Bool, cond, List, map, eqb, leb, ℤ, length, get_or, set}
use Rattle.model.specs.Lists.{any, filter, below}
use Rattle.model.specs.Syntax.{Binding}
use Rattle.model.specs.Meaning.{Tuple}
use Rattle.catalogue.specs.Layout.{tuples_in, rows_of, latest_of}
use Rattle.copier.specs.Guard.{picked}
use Rattle.walks.specs.declared.Walk.{Walk}
use Rattle.walks.specs.Walks.{walk_of, walked}
use Rattle.allrows.specs.Filled.{written}
use Rattle.permitted.specs.Meets.{meets_bytes, row_of}

-- whether a row meets the condition of a part in mask m
unfoldable pub meets_any : List ℕ → List ℤ → (ℕ → List ℕ) → ℕ → Tuple → Bool
meets_any cb vs f m x = any (λ q. meets_bytes cb vs q x) (picked 8 m 0 f)

unfoldable pub rows_for : List ℕ → List ℤ → (ℕ → List ℕ) → ℕ → ℕ → List Tuple
rows_for cb vs f m r = cond (eqb m 0) (tuples_in cb vs r) (filter (meets_any cb vs f m) (tuples_in cb vs r))

-- the number of the row that is met as the i-th of n; those of a relation's rows that are given, as they are met
abbrev pub number_at : Bool → ℕ → ℕ → ℕ
number_at latest n i = cond latest (n - suc i) i

abbrev pub numbers_for : List ℕ → List ℤ → (ℕ → List ℕ) → ℕ → ℕ → List ℕ
numbers_for cb vs f m r = filter (λ i. meets_any cb vs f m (row_of cb vs r i)) (map (number_at (latest_of cb r) (rows_of cb r)) (below (rows_of cb r)))

-- numbers at a place of the table, up to `end`; what stood before them stays
pub record Listed (xs : List ℕ) (start end : ℕ) (ws ws' : List ℕ) : Type 0 where
  pub size : length ws' ≡ length ws
  pub ends : end ≡ start + length xs
  pub before : (i : ℕ) → i < start → get_or ws' i 0 ≡ get_or ws i 0
  pub list : (j : ℕ) → j < length xs → get_or ws' (start + j) 0 ≡ get_or xs j 0

-- the table with a walk and a key for variable v
abbrev pub key_of : ℕ → ℕ → ℕ
key_of r m = 256 * r + m

abbrev pub entered : List ℕ → ℕ → Walk → ℕ → List ℕ
entered ws v x key = set (written ws v x) (8 * v + 5) key

-- a list of so many rows fits the table from a place on
pub record Room (rows next : ℕ) (ws : List ℕ) : Type 0 where
  pub list : next + rows ≤ length ws
  pub table : length ws ≤ 65535

-- variable v has these rows; its list, if it has one, stands below `next`
pub record Has (ws : List ℕ) (vs : List ℤ) (next v : ℕ) (xs : List Tuple) : Type 0 where
  pub rows : walked ws vs v ≡ xs
  pub low : 2 ≤ (walk_of ws v).start → (64 ≤ (walk_of ws v).start) × ((walk_of ws v).start + (walk_of ws v).count ≤ next)

-- a key tells the rows
pub record Keyed (cb : List ℕ) (vs : List ℤ) (f : ℕ → List ℕ) (ws : List ℕ) (next : ℕ) : Type 0 where
  pub keys : (v r m : ℕ) → v < 8 → (m ≡ 0 → ⊥) → m < 256 → get_or ws (8 * v + 5) 0 ≡ key_of r m → Has ws vs next v (rows_for cb vs f m r)
  pub least : 64 ≤ next

-- a binding has what it is given
abbrev pub Given : List ℕ → List ℤ → (ℕ → List ℕ) → List ℕ → List ℕ → ℕ → Binding → Type 0
Given cb vs f masks ws next b = Has ws vs next b.variable (rows_for cb vs f (get_or masks b.variable 0) b.relation)

-- a low variable over a relation of at most so many rows
pub record Low (cb : List ℕ) (most : ℕ) (b : Binding) : Type 0 where
  pub variable : b.variable < 8
  pub rows : rows_of cb b.relation ≤ most

-- one step: the table after it, and what the other variables have stays theirs
pub record Stepped (cb : List ℕ) (vs : List ℤ) (f : ℕ → List ℕ) (v : ℕ) (xs : List Tuple) (most next next' : ℕ) (ws ws' : List ℕ) : Type 0 where
  pub keyed : Keyed cb vs f ws' next'
  pub given : Has ws' vs next' v xs
  pub kept : (u : ℕ) (ys : List Tuple) → u < 8 → (u ≡ v → ⊥) → Has ws vs next u ys → Has ws' vs next' u ys
  pub size : length ws' ≡ length ws
  pub high : next' ≤ next + most

-- each mask is a byte
abbrev pub Bytes : List ℕ → Type 0
Bytes masks = (v : ℕ) → get_or masks v 0 < 256

-- room for eight lists
abbrev pub most_in : List ℕ → ℕ
most_in ws = (length ws - 64) / 8

abbrev pub tiny : List ℕ → Binding → Bool
tiny cb b = leb (rows_of cb b.relation) 16
