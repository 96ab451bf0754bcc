-- Whether a row meets the condition of a permit, by its bytes: total, whatever they are.
use Rattle.std.specs.Prelude.{ℕ, ◌+◌, ◌*◌, Bool, List, ℤ, pos, length, replicate}
use Rattle.model.specs.Meaning.{Tuple}
use Rattle.catalogue.specs.Layout.{tuple_at, attributes_of, base_of}
use Rattle.scans.specs.Flat.{flat_bindings}
use Rattle.sizes.specs.Measured.{condition_table}
use Rattle.walks.specs.Walks.{rows_by}
use Rattle.allrows.specs.Filled.{filled_by}
use Rattle.sizes.specs.Decode.{decode}
use Rattle.evaluator.specs.Evaluation.{holds_on}
use Rattle.walks.specs.Assigned.{assigned}
use Rattle.aggregates.specs.Filled.{filled_c}

-- the table of sizes of a condition's bytes, and the walks of its variables: all rows
abbrev pub sizes_of : List ℕ → List ℕ
sizes_of q = condition_table 16 q 0 (replicate 256 0)

abbrev pub own_walks : List ℕ → List ℕ → List ℕ
own_walks cb q = filled_by cb (flat_bindings q) (replicate 32 0)

-- no variable is bound yet; the aggregates of the condition, each evaluated once
abbrev pub no_places : List ℤ → List ℕ
no_places vs = replicate 256 (length vs)

abbrev pub own_memo : List ℕ → List ℤ → List ℕ → List ℤ
own_memo cb vs q = filled_c (decode 16 q (sizes_of q)) (rows_by (own_walks cb q) vs) (assigned vs (no_places vs)) (replicate 8 (pos 0))

-- whether a row meets the condition that bytes stand for
unfoldable pub meets_bytes : List ℕ → List ℤ → List ℕ → Tuple → Bool
meets_bytes cb vs q x = holds_on 16 q (sizes_of q) (own_walks cb q) vs (own_memo cb vs q) (no_places vs) 0 x

-- row i of a relation
abbrev pub row_of : List ℕ → List ℤ → ℕ → ℕ → Tuple
row_of cb vs r i = tuple_at vs (base_of cb r + i * attributes_of cb r)
