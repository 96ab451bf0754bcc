-- Queries and permits as trees (document 01, "Questions" and "Permits and the rewriting").
use Rattle.std.specs.Prelude.{ℕ, suc, ◌≤◌, max, Bool, true, ◌&&◌, List, [], ◌∷◌, ◌++◌, map, ◌≡◌, leb, length}
use Rattle.model.specs.Lists.{concat_map}

mutual
  pub data Condition : Type 0 where
    TRUE : Condition
    FALSE : Condition
    NOT : Condition → Condition
    AND : Condition → Condition → Condition
    OR : Condition → Condition → Condition
    -- operator: 1 =, 2 ≠, 3 <, 4 ≤, 5 >, 6 ≥
    COMPARE : ℕ → Term → Term → Condition
    -- variable, relation
    SOME : ℕ → ℕ → Condition → Condition

  pub data Term : Type 0 where
    -- four bytes, low first
    CONSTANT : ℕ → ℕ → ℕ → ℕ → Term
    -- variable, attribute
    ATTRIBUTE : ℕ → ℕ → Term
    -- function: 1 COUNT, 2 SUM, 3 AVE, 4 MAX, 5 MIN; variable, relation, attribute
    AGGREGATE : ℕ → ℕ → ℕ → ℕ → Condition → Term

-- a variable bound to a relation, by RANGE, SOME or an aggregate
pub record Binding : Type 0 where
  pub variable : ℕ
  pub relation : ℕ

-- an attribute used of a variable
pub record Use : Type 0 where
  pub variable : ℕ
  pub attribute : ℕ

-- RANGE records, targets, the final condition
pub record Query : Type 0 where
  pub ranges : List Binding
  pub targets : List Term
  pub condition : Condition

-- relation, attribute mask (low byte, high byte), condition
pub record Permit : Type 0 where
  pub relation : ℕ
  pub low : ℕ
  pub high : ℕ
  pub condition : Condition

-- known operators and functions
abbrev pub is_operator : ℕ → Bool
is_operator o = leb 1 o && leb o 6

abbrev pub is_function : ℕ → Bool
is_function f = leb 1 f && leb f 5

-- well formed: operators and functions are known, targets are attributes or aggregates, and there is a target
unfoldable mutual
  pub WellFormed : Condition → Type 0
  WellFormed TRUE = Unit
  WellFormed FALSE = Unit
  WellFormed (NOT c) = WellFormed c
  WellFormed (AND c d) = WellFormed c × WellFormed d
  WellFormed (OR c d) = WellFormed c × WellFormed d
  WellFormed (COMPARE o s t) = (is_operator o ≡ true) × WellFormedT s × WellFormedT t
  WellFormed (SOME v r c) = WellFormed c

  pub WellFormedT : Term → Type 0
  WellFormedT (CONSTANT a b c d) = Unit
  WellFormedT (ATTRIBUTE v a) = Unit
  WellFormedT (AGGREGATE f v r a c) = (is_function f ≡ true) × WellFormed c

unfoldable pub Targets : List Term → Type 0
Targets [] = Unit
Targets (CONSTANT a b c d ∷ ts) = ⊥
Targets (ATTRIBUTE v a ∷ ts) = Targets ts
Targets (AGGREGATE f v r a c ∷ ts) = WellFormedT (AGGREGATE f v r a c) × Targets ts

pub record WellFormedQ (q : Query) : Type 0 where
  pub some-target : 1 ≤ length q.targets
  pub targets : Targets q.targets
  pub condition : WellFormed q.condition

unfoldable pub WellFormedPs : List Permit → Type 0
WellFormedPs [] = Unit
WellFormedPs (p ∷ ps) = WellFormed p.condition × WellFormedPs ps

-- the bindings, in byte order
unfoldable mutual
  pub bindings : Condition → List Binding
  bindings TRUE = []
  bindings FALSE = []
  bindings (NOT c) = bindings c
  bindings (AND c d) = bindings c ++ bindings d
  bindings (OR c d) = bindings c ++ bindings d
  bindings (COMPARE o s t) = bindings_t s ++ bindings_t t
  bindings (SOME v r c) = record { variable = v; relation = r } ∷ bindings c

  pub bindings_t : Term → List Binding
  bindings_t (CONSTANT a b c d) = []
  bindings_t (ATTRIBUTE v a) = []
  bindings_t (AGGREGATE f v r a c) = record { variable = v; relation = r } ∷ bindings c

unfoldable pub bindings_q : Query → List Binding
bindings_q q = q.ranges ++ (concat_map bindings_t q.targets ++ bindings q.condition)

abbrev pub variables : List Binding → List ℕ
variables bs = map (λ (b : Binding). b.variable) bs

-- the attributes used of variables, an aggregate's own included
unfoldable mutual
  pub uses : Condition → List Use
  uses TRUE = []
  uses FALSE = []
  uses (NOT c) = uses c
  uses (AND c d) = uses c ++ uses d
  uses (OR c d) = uses c ++ uses d
  uses (COMPARE o s t) = uses_t s ++ uses_t t
  uses (SOME v r c) = uses c

  pub uses_t : Term → List Use
  uses_t (CONSTANT a b c d) = []
  uses_t (ATTRIBUTE v a) = record { variable = v; attribute = a } ∷ []
  uses_t (AGGREGATE f v r a c) = record { variable = v; attribute = a } ∷ uses c

unfoldable pub uses_q : Query → List Use
uses_q q = concat_map uses_t q.targets ++ uses q.condition

-- levels: a target, the final condition or a permit's condition is at level 1, a child one deeper
unfoldable mutual
  pub levels : Condition → ℕ
  levels TRUE = 1
  levels FALSE = 1
  levels (NOT c) = suc (levels c)
  levels (AND c d) = suc (max (levels c) (levels d))
  levels (OR c d) = suc (max (levels c) (levels d))
  levels (COMPARE o s t) = suc (max (levels_t s) (levels_t t))
  levels (SOME v r c) = suc (levels c)

  pub levels_t : Term → ℕ
  levels_t (CONSTANT a b c d) = 1
  levels_t (ATTRIBUTE v a) = 1
  levels_t (AGGREGATE f v r a c) = suc (levels c)

unfoldable pub levels_ts : List Term → ℕ
levels_ts [] = 0
levels_ts (t ∷ ts) = max (levels_t t) (levels_ts ts)

unfoldable pub levels_q : Query → ℕ
levels_q q = max (levels_ts q.targets) (levels q.condition)
