-- A query sees of each variable's rows only the attributes that it uses.
use Prim.Native.Nat.{ℕ}
use mathlib.Core.Bool.{Bool, true, false, not, cond, ◌&&◌, ◌||◌}
use mathlib.Core.Option.{Option, some}
use mathlib.Core.List.{List, [], ◌∷◌, map, map-map}
use mathlib.Core.Path.{◌≡◌, refl, sym, ◌∙◌, ap, ap₂, fun_ext}
use lib.Dec.{eqb}
use lib.IntN.{ℤ, pos}
use borrow.Author.Tests.{eqb-true}
use Rattle.model.specs.Lists.{update, filter, any, concat_map, Every, present}
use Rattle.model.specs.Syntax.{Condition, Term, TRUE, FALSE, NOT, AND, OR, COMPARE, SOME, CONSTANT, ATTRIBUTE, AGGREGATE, Binding, Use, Query, uses, uses_t, uses_q}
use Rattle.model.specs.Meaning.{Tuple, Assignment, Rows, whole, compare, aggregate, holds, value, assignments, unbound, with_cell, target_row, qualifying, rows_met, holds_with, target_row_with}
use Rattle.model.proofs.Lists.{any-map, filter_map, concat_map-map, map-concat_map, every_append}

-- a use is in S
abbrev pub In : (ℕ → ℕ → Bool) → Use → Type 0
In S u = S u.variable u.attribute ≡ true

-- what is not in S reads as 0
unfoldable pub masked : (ℕ → Bool) → Tuple → Tuple
masked s x a = cond (s a) (x a) (pos 0)

module _ (S : ℕ → ℕ → Bool) where
  unfoldable pub cut_assignment : Assignment → Assignment
  cut_assignment e v = masked (S v) (e v)

  unfoldable pub cut_rows : Rows → Rows
  cut_rows R v r = map (masked (S v)) (R v r)

  pub cut-update : (e : Assignment) (v : ℕ) (x : Tuple) → cut_assignment (update e v x) ≡ update (cut_assignment e) v (masked (S v) x)
  unfolding cut_assignment
  cut-update e v x = fun_ext λ w. go w (eqb w v) refl
    where
      go : (w : ℕ) (b : Bool) → eqb w v ≡ b → masked (S w) (update e v x w) ≡ update (cut_assignment e) v (masked (S v) x) w
      go w true p = rw (p, eqb-true w v p)
      go w false p = rw p

  pub masked-in : (v a : ℕ) (x : Tuple) → S v a ≡ true → masked (S v) x a ≡ x a
  unfolding masked
  masked-in v a x p = rw p

  module _ (R : Rows) where
    mutual
      unfolding holds_with uses Every cut_rows cut_assignment

      pub cut_holds : (c : Condition) (e : Assignment) → Every (In S) (uses c) → holds c R e ≡ holds c (cut_rows R) (cut_assignment e)
      cut_holds TRUE e u = refl
      cut_holds FALSE e u = refl
      cut_holds (NOT c) e u = ap not (cut_holds c e u)
      cut_holds (AND c d) e u = let i = every_append (In S) (uses c) (uses d) u in ap₂ ◌&&◌ (cut_holds c e i.0) (cut_holds d e i.1)
      cut_holds (OR c d) e u = let i = every_append (In S) (uses c) (uses d) u in ap₂ ◌||◌ (cut_holds c e i.0) (cut_holds d e i.1)
      cut_holds (COMPARE o s t) e u = let i = every_append (In S) (uses_t s) (uses_t t) u in ap₂ (compare o) (cut-value s e i.0) (cut-value t e i.1)
      cut_holds (SOME v r c) e u =
          ap (λ (f : Tuple → Bool). any f (R v r)) (fun_ext λ x. cut_holds c (update e v x) u ∙ ap (holds c (cut_rows R)) (cut-update e v x))
          ∙ sym (any-map (masked (S v)) (λ x. holds c (cut_rows R) (update (cut_assignment e) v x)) (R v r))

      pub cut-value : (t : Term) (e : Assignment) → Every (In S) (uses_t t) → value t R e ≡ value t (cut_rows R) (cut_assignment e)
      cut-value (CONSTANT a b c d) e u = refl
      cut-value (ATTRIBUTE v a) e u = ap (λ (z : ℤ). some (whole z)) (sym (masked-in v a (e v) u.0))
      cut-value (AGGREGATE f v r a c) e u =
          ap (aggregate f)
          (ap (λ (p : Tuple → Bool). map (λ (x : Tuple). x a) (filter p (R v r))) (fun_ext λ x. cut_holds c (update e v x) u.1 ∙ ap (holds c (cut_rows R)) (cut-update e v x))
          ∙ ap (λ (h : Tuple → ℤ). map h (filter (λ x. holds c (cut_rows R) (update (cut_assignment e) v (masked (S v) x))) (R v r))) (fun_ext λ x. sym (masked-in v a x u.0))
          ∙ sym (map-map (λ (x : Tuple). x a) (masked (S v)) (filter (λ x. holds c (cut_rows R) (update (cut_assignment e) v (masked (S v) x))) (R v r)))
          ∙ ap (map (λ (x : Tuple). x a)) (sym (filter_map (masked (S v)) (λ x. holds c (cut_rows R) (update (cut_assignment e) v x)) (R v r))))

    pub cut-row : (ts : List Term) (e : Assignment) → Every (In S) (concat_map uses_t ts) → target_row ts R e ≡ target_row ts (cut_rows R) (cut_assignment e)
    unfolding target_row_with concat_map
    cut-row [] e u = refl
    cut-row (t ∷ ts) e u =
        let i = every_append (In S) (uses_t t) (concat_map uses_t ts) u in
        ap₂ with_cell (cut-value t e i.0) (cut-row ts e i.1)

    pub cut-assign : (bs : List Binding) (e : Assignment) → map cut_assignment (assignments bs R e) ≡ assignments bs (cut_rows R) (cut_assignment e)
    unfolding assignments cut_rows
    cut-assign [] e = refl
    cut-assign (b ∷ bs) e =
        map-concat_map cut_assignment (λ x. assignments bs R (update e b.variable x)) (R b.variable b.relation)
        ∙ ap (λ (h : Tuple → List Assignment). concat_map h (R b.variable b.relation)) (fun_ext λ x. cut-assign bs (update e b.variable x) ∙ ap (assignments bs (cut_rows R)) (cut-update e b.variable x))
        ∙ sym (concat_map-map (masked (S b.variable)) (λ _. true) (λ x. assignments bs (cut_rows R) (update (cut_assignment e) b.variable x)) (R b.variable b.relation))

    pub cut-met : (q : Query) → Every (In S) (uses_q q) → rows_met q R ≡ present (map (target_row q.targets (cut_rows R)) (filter (holds q.condition (cut_rows R)) (assignments q.ranges (cut_rows R) (cut_assignment unbound))))
    unfolding rows_met qualifying uses_q
    cut-met q u = let i = every_append (In S) (concat_map uses_t q.targets) (uses q.condition) u in ap (λ (rows : List (Option (List ℤ))). present rows)
        (ap₂ (λ (h : Assignment → Option (List ℤ)) (p : Assignment → Bool). map h (filter p (assignments q.ranges R unbound)))
        (fun_ext λ e. cut-row q.targets e i.0)
        (fun_ext λ e. cut_holds q.condition e i.1)
        ∙ sym (map-map (target_row q.targets (cut_rows R)) cut_assignment (filter (λ e. holds q.condition (cut_rows R) (cut_assignment e)) (assignments q.ranges R unbound)))
        ∙ ap (map (target_row q.targets (cut_rows R))) (sym (filter_map cut_assignment (holds q.condition (cut_rows R)) (assignments q.ranges R unbound)) ∙ ap (filter (holds q.condition (cut_rows R))) (cut-assign q.ranges unbound)))
