-- The rewriting (document 01, "Permits and the rewriting", step 4 and the numbering).
use Rattle.std.specs.Prelude.{ℕ, ◌+◌, cond, List, [], ◌∷◌, eqb, length}
use Rattle.model.specs.Lists.{total, index_of, concat_map}
use Rattle.model.specs.Syntax.{Condition, Term, TRUE, FALSE, NOT, AND, OR, COMPARE, SOME, CONSTANT, ATTRIBUTE, AGGREGATE, Binding, Query, bindings, bindings_t, variables}
use Rattle.model.specs.Permits.{Guard, free, only, Guards}

-- every variable w written as ρ w
unfoldable mutual
  pub rename : (ℕ → ℕ) → Condition → Condition
  rename ρ TRUE = TRUE
  rename ρ FALSE = FALSE
  rename ρ (NOT c) = NOT (rename ρ c)
  rename ρ (AND c d) = AND (rename ρ c) (rename ρ d)
  rename ρ (OR c d) = OR (rename ρ c) (rename ρ d)
  rename ρ (COMPARE o s t) = COMPARE o (rename_t ρ s) (rename_t ρ t)
  rename ρ (SOME v r c) = SOME (ρ v) r (rename ρ c)

  pub rename_t : (ℕ → ℕ) → Term → Term
  rename_t ρ (CONSTANT a b c d) = CONSTANT a b c d
  rename_t ρ (ATTRIBUTE v a) = ATTRIBUTE (ρ v) a
  rename_t ρ (AGGREGATE f v r a c) = AGGREGATE f (ρ v) r a (rename ρ c)

-- variable 0 of a permit takes the guarded variable's number v, its others the numbers from n up, in byte order
unfoldable pub new_number : Condition → ℕ → ℕ → ℕ → ℕ
new_number c v n w = cond (eqb w 0) v (n + index_of w (variables (bindings c)))

unfoldable pub copy_for : Condition → ℕ → ℕ → Condition
copy_for c v n = rename (new_number c v n) c

-- the OR of the conditions in list order, nested to the right, with no OR record for a single one; of none, FALSE: 33 refuses that case
unfoldable pub disjunction : List Condition → ℕ → ℕ → Condition
disjunction [] v n = FALSE
disjunction (c ∷ []) v n = copy_for c v n
disjunction (c ∷ d ∷ ds) v n = OR (copy_for c v n) (disjunction (d ∷ ds) v (n + length (bindings c)))

-- how many new numbers a guard takes
unfoldable pub new_in : Guard → ℕ
new_in free = 0
new_in (only cs) = total (λ c. length (bindings c)) cs

-- a condition c becomes AND, c, guard
unfoldable pub guarded : Guard → ℕ → ℕ → Condition → Condition
guarded free v n c = c
guarded (only cs) v n c = AND c (disjunction cs v n)

-- how many new numbers the guards of bound variables take
unfoldable pub new_for : Guards → List Binding → ℕ
new_for G bs = total (λ (b : Binding). new_in (G b.variable b.relation)) bs

-- the conditions of SOME and aggregates guarded; the next unused number is n
unfoldable mutual
  pub rewrite : Guards → Condition → ℕ → Condition
  rewrite G TRUE n = TRUE
  rewrite G FALSE n = FALSE
  rewrite G (NOT c) n = NOT (rewrite G c n)
  rewrite G (AND c d) n = AND (rewrite G c n) (rewrite G d (n + new_for G (bindings c)))
  rewrite G (OR c d) n = OR (rewrite G c n) (rewrite G d (n + new_for G (bindings c)))
  rewrite G (COMPARE o s t) n = COMPARE o (rewrite_t G s n) (rewrite_t G t (n + new_for G (bindings_t s)))
  rewrite G (SOME v r c) n = SOME v r (guarded (G v r) v (n + new_for G (bindings c)) (rewrite G c n))

  pub rewrite_t : Guards → Term → ℕ → Term
  rewrite_t G (CONSTANT a b c d) n = CONSTANT a b c d
  rewrite_t G (ATTRIBUTE v a) n = ATTRIBUTE v a
  rewrite_t G (AGGREGATE f v r a c) n = AGGREGATE f v r a (guarded (G v r) v (n + new_for G (bindings c)) (rewrite G c n))

unfoldable pub rewrite_targets : Guards → List Term → ℕ → List Term
rewrite_targets G [] n = []
rewrite_targets G (t ∷ ts) n = rewrite_t G t n ∷ rewrite_targets G ts (n + new_for G (bindings_t t))

-- range guards, in RANGE order, follow the final condition; the AND nests to the left
unfoldable pub guard_ranges : Guards → List Binding → ℕ → Condition → Condition
guard_ranges G [] n c = c
guard_ranges G (b ∷ bs) n c =
    let g = G b.variable b.relation in
    guard_ranges G bs (n + new_in g) (guarded g b.variable n c)

-- new numbers go from 8 up, in byte order of the rewritten query
unfoldable pub rewrite_query : Guards → Query → Query
rewrite_query G q =
    let n = 8 + new_for G (concat_map bindings_t q.targets) in
    let m = n + new_for G (bindings q.condition) in
    record {
      ranges = q.ranges;
      targets = rewrite_targets G q.targets 8;
      condition = guard_ranges G q.ranges m (rewrite G q.condition n);
    }
