-- The rewritten query over all rows means what the query means over the permitted rows.
use Prim.Native.Nat.{ℕ, ◌+◌, ◌<◌, ◌≤◌}
use mathlib.Core.Bool.{Bool, not, cond, ◌&&◌, ◌||◌}
use mathlib.Core.Option.{Option}
use mathlib.Core.List.{List, [], ◌∷◌, map}
use mathlib.Core.Path.{◌≡◌, refl, sym, ◌∙◌, ap, ap₂, fun_ext}
use native.Mathlib.Omega.{arith}
use lib.IntN.{ℤ}
use lib.ListN.{length}
use Rattle.model.specs.Lists.{update, filter, any, concat_map, Every, present}
use Rattle.model.specs.Syntax.{Condition, Term, TRUE, FALSE, NOT, AND, OR, COMPARE, SOME, CONSTANT, ATTRIBUTE, AGGREGATE, Binding, Query, bindings, bindings_t}
use Rattle.model.specs.Meaning.{Tuple, Assignment, Rows, compare, aggregate, holds, value, assignments, unbound, with_cell, target_row, add_rows, qualifying, rows_met, answers, holds_with, target_row_with}
use Rattle.model.specs.Catalogue.{Shape, all_rows}
use Rattle.model.specs.Permits.{Guard, free, only, Guards, meets, allowed, permitted}
use Rattle.model.specs.Rewriting.{disjunction, new_in, guarded, new_for, rewrite, rewrite_t, rewrite_targets, guard_ranges, rewrite_query}
use Rattle.model.proofs.Tests.{or-false, and-true}
use Rattle.model.proofs.Lists.{any-filter, filter-filter, filter-concat_map, filter-const, concat_map-filter, every_append}
use Rattle.model.proofs.Renaming.{update_same, update_other, Sane, copy_holds}

-- a bound variable's number is the query's own
abbrev pub Low : Binding → Type 0
Low b = b.variable < 8

-- range variables: low, and no two alike
unfoldable pub Differ : List Binding → Type 0
Differ [] = Unit
Differ (b ∷ bs) = Every (λ (c : Binding). b.variable ≡ c.variable → ⊥) bs × Differ bs

-- what checks 31 and 32 give of a query
pub record Sound (q : Query) : Type 0 where
  pub differ : Differ q.ranges
  pub low-ranges : Every Low q.ranges
  pub low-targets : Every Low (concat_map bindings_t q.targets)
  pub low-condition : Every Low (bindings q.condition)

unfoldable pub SaneGuard : Shape → ℕ → Guard → Type 0
SaneGuard sh r free = Unit
SaneGuard sh r (only cs) = Every (Sane sh r) cs

module _ (sh : Shape) (D : ℕ → List Tuple) where
  pub disjunction-holds : (cs : List Condition) (r v n : ℕ) (e : Assignment) → Every (Sane sh r) cs → v < n → holds (disjunction cs v n) (all_rows D) e ≡ any (λ c. meets D c (e v)) cs
  unfolding disjunction holds_with any Every
  disjunction-holds [] r v n e s l = refl
  disjunction-holds (c ∷ []) r v n e s l = copy_holds sh D c r v n e s.0 l ∙ sym (or-false (meets D c (e v)))
  disjunction-holds (c ∷ d ∷ ds) r v n e s l = ap₂ ◌||◌ (copy_holds sh D c r v n e s.0 l) (disjunction-holds (d ∷ ds) r v (n + length (bindings c)) e s.1 (omega arith))

  pub guarded-holds : (g : Guard) (r v n : ℕ) (c : Condition) (e : Assignment) → SaneGuard sh r g → v < n → holds (guarded g v n c) (all_rows D) e ≡ holds c (all_rows D) e && allowed D g (e v)
  unfolding guarded allowed holds_with SaneGuard
  guarded-holds free r v n c e s l = sym (and-true (holds c (all_rows D) e))
  guarded-holds (only cs) r v n c e s l = ap (λ b. holds c (all_rows D) e && b) (disjunction-holds cs r v n e s l)

  -- at a row of the bound variable
  pub guarded-row : (g : Guard) (r v n : ℕ) (c : Condition) (e : Assignment) (f : Tuple → Bool) → SaneGuard sh r g → v < n
      → ((x : Tuple) → holds c (all_rows D) (update e v x) ≡ f x)
      → ◌≡◌ {A = Tuple → Bool} (λ x. holds (guarded g v n c) (all_rows D) (update e v x)) (λ x. f x && allowed D g x)
  guarded-row g r v n c e f s l k = fun_ext λ x. guarded-holds g r v n c (update e v x) s l ∙ ap₂ ◌&&◌ (k x) (ap (allowed D g) (update_same e v x))

  module _ (G : Guards) (sane : (v r : ℕ) → SaneGuard sh r (G v r)) where
    mutual
      unfolding holds_with rewrite bindings permitted Every

      pub rewrite-holds : (c : Condition) (n : ℕ) (e : Assignment) → Every Low (bindings c) → 8 ≤ n → holds (rewrite G c n) (all_rows D) e ≡ holds c (permitted D G) e
      rewrite-holds TRUE n e s h = refl
      rewrite-holds FALSE n e s h = refl
      rewrite-holds (NOT c) n e s h = ap not (rewrite-holds c n e s h)
      rewrite-holds (AND c d) n e s h = let i = every_append Low (bindings c) (bindings d) s in ap₂ ◌&&◌ (rewrite-holds c n e i.0 h) (rewrite-holds d (n + new_for G (bindings c)) e i.1 (omega arith))
      rewrite-holds (OR c d) n e s h = let i = every_append Low (bindings c) (bindings d) s in ap₂ ◌||◌ (rewrite-holds c n e i.0 h) (rewrite-holds d (n + new_for G (bindings c)) e i.1 (omega arith))
      rewrite-holds (COMPARE o a b) n e s h = let i = every_append Low (bindings_t a) (bindings_t b) s in ap₂ (compare o) (rewrite-value a n e i.0 h) (rewrite-value b (n + new_for G (bindings_t a)) e i.1 (omega arith))
      rewrite-holds (SOME v r c) n e s h =
          ap (λ (f : Tuple → Bool). any f (D r)) (guarded-row (G v r) r v (n + new_for G (bindings c)) (rewrite G c n) e (λ x. holds c (permitted D G) (update e v x)) (sane v r) (omega (arith, s.0)) (λ x. rewrite-holds c n (update e v x) s.1 h))
          ∙ any-filter (λ x. holds c (permitted D G) (update e v x)) (allowed D (G v r)) (D r)

      pub rewrite-value : (t : Term) (n : ℕ) (e : Assignment) → Every Low (bindings_t t) → 8 ≤ n → value (rewrite_t G t n) (all_rows D) e ≡ value t (permitted D G) e
      rewrite-value (CONSTANT a b c d) n e s h = refl
      rewrite-value (ATTRIBUTE v a) n e s h = refl
      rewrite-value (AGGREGATE f v r a c) n e s h =
          ap (λ (l : List Tuple). aggregate f (map (λ (x : Tuple). x a) l))
          (ap (λ (p : Tuple → Bool). filter p (D r)) (guarded-row (G v r) r v (n + new_for G (bindings c)) (rewrite G c n) e (λ x. holds c (permitted D G) (update e v x)) (sane v r) (omega (arith, s.0)) (λ x. rewrite-holds c n (update e v x) s.1 h))
          ∙ filter-filter (λ x. holds c (permitted D G) (update e v x)) (allowed D (G v r)) (D r))

    pub rewrite-row : (ts : List Term) (n : ℕ) (e : Assignment) → Every Low (concat_map bindings_t ts) → 8 ≤ n → target_row (rewrite_targets G ts n) (all_rows D) e ≡ target_row ts (permitted D G) e
    unfolding target_row_with rewrite_targets concat_map
    rewrite-row [] n e s h = refl
    rewrite-row (t ∷ ts) n e s h =
        let i = every_append Low (bindings_t t) (concat_map bindings_t ts) s in
        ap₂ with_cell (rewrite-value t n e i.0 h) (rewrite-row ts (n + new_for G (bindings_t t)) e i.1 (omega arith))

    -- the odometer leaves the other variables alone
    assignments-keep : (v : ℕ) (F : Tuple → Assignment → Bool) (R : Rows) (bs : List Binding) (e : Assignment) → Every (λ (b : Binding). v ≡ b.variable → ⊥) bs
        → filter (λ e'. F (e' v) e') (assignments bs R e) ≡ filter (λ e'. F (e v) e') (assignments bs R e)
    unfolding assignments Every filter
    assignments-keep v F R [] e a = refl
    assignments-keep v F R (b ∷ bs) e a =
        filter-concat_map (λ e'. F (e' v) e') (λ x. assignments bs R (update e b.variable x)) (R b.variable b.relation)
        ∙ ap (λ (h : Tuple → List Assignment). concat_map h (R b.variable b.relation))
        (fun_ext λ x. assignments-keep v F R bs (update e b.variable x) a.1 ∙ ap (λ (y : Tuple). filter (λ e'. F y e') (assignments bs R (update e b.variable x))) (update_other e b.variable v x a.0))
        ∙ sym (filter-concat_map (λ e'. F (e v) e') (λ x. assignments bs R (update e b.variable x)) (R b.variable b.relation))

    pub ranges-hold : (bs : List Binding) (n : ℕ) (c : Condition) (f : Assignment → Bool) (e : Assignment) → Differ bs → Every Low bs → 8 ≤ n
        → ((e' : Assignment) → holds c (all_rows D) e' ≡ f e')
        → filter (holds (guard_ranges G bs n c) (all_rows D)) (assignments bs (all_rows D) e) ≡ filter f (assignments bs (permitted D G) e)
    unfolding assignments guard_ranges Differ Every permitted
    ranges-hold [] n c f e d s h k = ap (λ (p : Assignment → Bool). filter p (e ∷ [])) (fun_ext k)
    ranges-hold (b ∷ bs) n c f e d s h k =
        let v = b.variable in
        let g = G b.variable b.relation in
        let c' = guarded g v n c in
        let p = holds (guard_ranges G bs (n + new_in g) c') (all_rows D) in
        let one : (x : Tuple) → filter p (assignments bs (all_rows D) (update e v x)) ≡ cond (allowed D g x) (filter f (assignments bs (permitted D G) (update e v x))) [] =
        λ x. ranges-hold bs (n + new_in g) c' (λ e'. f e' && allowed D g (e' v)) (update e v x) d.1 s.1 (omega arith)
        (λ e'. guarded-holds g b.relation v n c e' (sane b.variable b.relation) (omega (arith, s.0)) ∙ ap (λ t. t && allowed D g (e' v)) (k e'))
        ∙ assignments-keep v (λ y e'. f e' && allowed D g y) (permitted D G) bs (update e v x) d.0
        ∙ ap (λ (y : Tuple). filter (λ e'. f e' && allowed D g y) (assignments bs (permitted D G) (update e v x))) (update_same e v x)
        ∙ filter-const f (allowed D g x) (assignments bs (permitted D G) (update e v x)) in
        filter-concat_map p (λ x. assignments bs (all_rows D) (update e v x)) (D b.relation)
        ∙ ap (λ (h : Tuple → List Assignment). concat_map h (D b.relation)) (fun_ext one)
        ∙ concat_map-filter (allowed D g) (λ x. filter f (assignments bs (permitted D G) (update e v x))) (D b.relation)
        ∙ sym (filter-concat_map f (λ x. assignments bs (permitted D G) (update e v x)) (filter (allowed D g) (D b.relation)))

    pub rewritten-answers : (q : Query) → Sound q → answers (rewrite_query G q) (all_rows D) ≡ answers q (permitted D G)
    unfolding answers rows_met qualifying rewrite_query
    rewritten-answers q s =
        let n = 8 + new_for G (concat_map bindings_t q.targets) in
        ap₂ (λ (h : Assignment → Option (List ℤ)) (l : List Assignment). add_rows [] (present (map h l)))
        (fun_ext λ e. rewrite-row q.targets 8 e s.low-targets (omega arith))
        (ranges-hold q.ranges (n + new_for G (bindings q.condition)) (rewrite G q.condition n) (holds q.condition (permitted D G)) unbound s.differ s.low-ranges (omega arith)
        (λ e. rewrite-holds q.condition n e s.low-condition (omega arith)))
