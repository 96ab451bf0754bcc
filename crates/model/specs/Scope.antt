-- Variables in reach, known relations and attributes (document 01, "Questions": what a record reaches).
use Rattle.std.specs.Prelude.{ℕ, Bool, true, false, ◌&&◌, List, [], ◌∷◌, ltb, length}
use Rattle.std.proofs.Math.Option.{Option, none, some}
use Rattle.model.specs.Lists.{update, all, unique}
use Rattle.model.specs.Syntax.{Condition, Term, TRUE, FALSE, NOT, AND, OR, COMPARE, SOME, CONSTANT, ATTRIBUTE, AGGREGATE, Binding, Query, bindings_q, variables}
use Rattle.model.specs.Catalogue.{Shape, attributes_at}

-- the variables in reach, each with its relation
abbrev pub Scope : Type 0
Scope = ℕ → Option ℕ

abbrev pub nobody : Scope
nobody v = none

module _ (sh : Shape) where
  unfoldable pub known_attribute : Option ℕ → ℕ → Bool
  known_attribute none a = false
  known_attribute (some r) a = ltb a (attributes_at sh r)

  -- `limit`: bound variables have numbers below it
  module _ (limit : ℕ) where
    unfoldable pub known_binding : Binding → Bool
    known_binding b = ltb b.variable limit && ltb b.relation (length sh)

    -- SOME reaches its own condition; inside an aggregate only variables bound by it or within it are in reach
    unfoldable mutual
      pub in_scope : Condition → Scope → Bool
      in_scope TRUE σ = true
      in_scope FALSE σ = true
      in_scope (NOT c) σ = in_scope c σ
      in_scope (AND c d) σ = in_scope c σ && in_scope d σ
      in_scope (OR c d) σ = in_scope c σ && in_scope d σ
      in_scope (COMPARE o s t) σ = in_scope_t s σ && in_scope_t t σ
      in_scope (SOME v r c) σ = known_binding (record { variable = v; relation = r }) && in_scope c (update σ v (some r))

      pub in_scope_t : Term → Scope → Bool
      in_scope_t (CONSTANT a b c d) σ = true
      in_scope_t (ATTRIBUTE v a) σ = known_attribute (σ v) a
      in_scope_t (AGGREGATE f v r a c) σ = known_binding (record { variable = v; relation = r }) && (ltb a (attributes_at sh r) && in_scope c (update nobody v (some r)))

-- RANGE reaches everything after the RANGE records
unfoldable pub range_scope : List Binding → Scope
range_scope [] = nobody
range_scope (b ∷ bs) = update (range_scope bs) b.variable (some b.relation)

unfoldable pub query_in_scope : Shape → ℕ → Query → Bool
query_in_scope sh limit q =
    let σ = range_scope q.ranges in
    all (known_binding sh limit) q.ranges && (all (λ t. in_scope_t sh limit t σ) q.targets && in_scope sh limit q.condition σ)

-- each number is bound once in a query
unfoldable pub bound_once : Query → Bool
bound_once q = unique (variables (bindings_q q))
