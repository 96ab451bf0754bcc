-- The table of walks with all rows of each relation.
use Rattle.std.specs.Prelude.{ℕ, ◌+◌, ◌*◌, ◌/◌, ◌%◌, List, [], ◌∷◌, set, cond}
use Rattle.model.specs.Syntax.{Binding}
use Rattle.catalogue.specs.Layout.{attributes_of, rows_of, latest_of, base_of}
use Rattle.walks.specs.declared.Walk.{Walk}

-- the table with a walk for variable v
unfoldable pub written : List ℕ → ℕ → Walk → List ℕ
written ws v x = set (set (set (set (set ws (8 * v) x.start) (8 * v + 1) x.count) (8 * v + 2) (x.base % 65536)) (8 * v + 3) (x.base / 65536)) (8 * v + 4) x.width

-- all rows of a relation, in its walk
abbrev pub whole_of : List ℕ → ℕ → Walk
whole_of cb r = record { start = cond (latest_of cb r) 1 0; count = rows_of cb r; base = base_of cb r; width = attributes_of cb r }

-- the walks of bound variables, one after the other
unfoldable pub filled_by : List ℕ → List Binding → List ℕ → List ℕ
filled_by cb [] ws = ws
filled_by cb (b ∷ bs) ws = filled_by cb bs (written ws b.variable (whole_of cb b.relation))
