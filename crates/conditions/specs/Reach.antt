-- A table of the variables in reach, and the shape that catalogue bytes describe: total, for any table and any bytes.
use Rattle.std.specs.Prelude.{ℕ, zero, suc, Bool, not, ◌&&◌, List, [], ◌∷◌, eqb, ltb, get_or}
use Rattle.std.proofs.Math.Option.{Option, none, some}
use Rattle.model.specs.Lists.{update}
use Rattle.model.specs.Syntax.{Condition, Binding}
use Rattle.model.specs.Catalogue.{Shape, attributes_at}
use Rattle.model.specs.Scope.{Scope, nobody, known_binding, in_scope}

-- an entry is 0 where the variable is out of reach, else its relation and 1
abbrev pub reached : ℕ → Option ℕ
reached zero = none
reached (suc r) = some r

abbrev pub scope_of : List ℕ → Scope
scope_of s v = reached (get_or s v 0)

-- four bytes a relation; for a catalogue that passes check 10 this is the model's shape (proofs/Shapes)
unfoldable pub shape_in : List ℕ → Shape
shape_in (k ∷ w ∷ a ∷ b ∷ r) = record { stored = not (eqb k 49); latest = eqb k 50; attributes = w } ∷ shape_in r
shape_in (k ∷ w ∷ a ∷ []) = []
shape_in (k ∷ w ∷ []) = []
shape_in (k ∷ []) = []
shape_in [] = []

-- SOME, and an aggregate: the binding is known, and the condition in the scope that it makes
abbrev pub some_in_scope : Shape → ℕ → Binding → Condition → Scope → Bool
some_in_scope sh limit b c σ = known_binding sh limit b && in_scope sh limit c (update σ b.variable (some b.relation))

abbrev pub aggregate_in_scope : Shape → ℕ → Binding → ℕ → Condition → Bool
aggregate_in_scope sh limit b a c =
    known_binding sh limit b && (ltb a (attributes_at sh b.relation) && in_scope sh limit c (update nobody b.variable (some b.relation)))

-- a permit's condition is judged with variable 0 as the row
abbrev pub permit_scope : ℕ → Scope
permit_scope r = update nobody 0 (some r)
