-- A query without NOT and aggregates is monotone: over more rows it has no fewer answers.
use Prim.Native.Nat.{ℕ}
use mathlib.Core.Bool.{Bool, true, false, ◌&&◌, ◌||◌}
use mathlib.Core.Option.{Option, none, some}
use mathlib.Core.List.{List, [], ◌∷◌, ◌++◌, map}
use mathlib.Core.Path.{◌≡◌, refl, sym, ◌∙◌, ap, ap₂, subst}
use native.Mathlib.Omega.{arith}
use native.Mathlib.Nat.{le_antisymm}
use lib.IntN.{ℤ, pos, negsuc}
use lib.Signed.{le_z}
use borrow.Author.Tests.{leb-true, le-leb}
use Rattle.model.specs.Lists.{update, filter, any, all, present}
use Rattle.model.specs.Syntax.{Condition, Term, TRUE, FALSE, NOT, AND, OR, COMPARE, SOME, CONSTANT, ATTRIBUTE, AGGREGATE, Binding, Query}
use Rattle.model.specs.Meaning.{Tuple, Assignment, Rows, compare, holds, value, assignments, unbound, with_cell, target_row, same_row, add_row, add_rows, qualifying, rows_met, answers, value_with, holds_with, target_row_with}
use Rattle.model.specs.Demands.{no_aggregate, positive, positive_q, included}
use Rattle.model.proofs.Tests.{clash, and-inv, and_intro, or-inv, or_left, or_right, or-false, or_assoc, any_append}
use Rattle.model.proofs.Lists.{any-filter, any-map, any-weaken, any-concat_map, Within}

-- the same row is an equal one
same-cell : (x y : ℤ) → le_z x y ≡ true → le_z y x ≡ true → x ≡ y
same-cell (pos a) (pos b) h k = ap pos (le_antisymm (leb-true a b h) (leb-true b a k))
same-cell (pos a) (negsuc b) h k = clash h
same-cell (negsuc a) (pos b) h k = clash k
same-cell (negsuc a) (negsuc b) h k = ap negsuc (le_antisymm (leb-true a b k) (leb-true b a h))

cell_same : (x : ℤ) → le_z x x ≡ true
cell_same (pos a) = le-leb a a (omega arith)
cell_same (negsuc a) = le-leb a a (omega arith)

pub same-equal : (x y : List ℤ) → same_row x y ≡ true → x ≡ y
unfolding same_row
same-equal [] [] h = refl
same-equal [] (b ∷ y) h = clash h
same-equal (a ∷ x) [] h = clash h
same-equal (a ∷ x) (b ∷ y) h =
    let i = and-inv (le_z a b && le_z b a) (same_row x y) h in
    let j = and-inv (le_z a b) (le_z b a) i.0 in
    ap₂ (λ (z : ℤ) (zs : List ℤ). z ∷ zs) (same-cell a b j.0 j.1) (same-equal x y i.1)

pub same_refl : (x : List ℤ) → same_row x x ≡ true
unfolding same_row
same_refl [] = refl
same_refl (a ∷ x) = rw (cell_same a) (same_refl x)

-- of a row that is there
abbrev there : (List ℤ → Bool) → Option (List ℤ) → Bool
there f none = false
there f (some x) = f x

any-present : (f : List ℤ → Bool) (xs : List (Option (List ℤ))) → any f (present xs) ≡ any (there f) xs
unfolding any present
any-present f [] = refl
any-present f (none ∷ xs) = any-present f xs
any-present f (some x ∷ xs) = ap (λ b. f x || b) (any-present f xs)

-- dropping equal rows drops no row of the set
module _ (f : List ℤ → Bool) where
  any_same : (x : List ℤ) (rows : List (List ℤ)) → any (same_row x) rows ≡ true → f x ≡ true → any f rows ≡ true
  any_same x rows h e = any-weaken (same_row x) f (λ y s. subst (λ (z : List ℤ). f z ≡ true) (same-equal x y s) e) rows h

  any-add_row : (x : List ℤ) (rows : List (List ℤ)) → any f (add_row rows x) ≡ any f rows || f x
  unfolding add_row any
  any-add_row x rows = go (any (same_row x) rows) refl
    where
      absorb : (a b : Bool) → (b ≡ true → a ≡ true) → a ≡ a || b
      absorb true b k = refl
      absorb false true k = k refl
      absorb false false k = refl

      go : (b : Bool) → any (same_row x) rows ≡ b → any f (elim b [ true ↦ rows | false ↦ rows ++ (x ∷ []) ]) ≡ any f rows || f x
      go true e = absorb (any f rows) (f x) (any_same x rows e)
      go false e = any_append f rows (x ∷ []) ∙ ap (λ b. any f rows || b) (or-false (f x))

  any-add_rows : (rows xs : List (List ℤ)) → any f (add_rows rows xs) ≡ any f rows || any f xs
  unfolding add_rows any
  any-add_rows rows [] = sym (or-false (any f rows))
  any-add_rows rows (x ∷ xs) = any-add_rows (add_row rows x) xs ∙ ap (λ b. b || any f xs) (any-add_row x rows) ∙ or_assoc (any f rows) (f x) (any f xs)

  -- a row of the answer is that of a qualifying assignment, and the other way round
  any-answers : (q : Query) (R : Rows) → any f (answers q R) ≡ any (λ e. there f (target_row q.targets R e) && holds q.condition R e) (assignments q.ranges R unbound)
  unfolding answers rows_met qualifying any
  any-answers q R =
      let h = target_row q.targets R in
      any-add_rows [] (present (map h (filter (holds q.condition R) (assignments q.ranges R unbound))))
      ∙ any-present f (map h (filter (holds q.condition R) (assignments q.ranges R unbound)))
      ∙ any-map h (there f) (filter (holds q.condition R) (assignments q.ranges R unbound))
      ∙ sym (any-filter (λ e. there f (h e)) (holds q.condition R) (assignments q.ranges R unbound))

-- two families of rows, the second with more
module _ (R R' : Rows) (more : (v r : ℕ) → Within (R v r) (R' v r)) where
  plain_value : (t : Term) (e : Assignment) → no_aggregate t ≡ true → value t R e ≡ value t R' e
  unfolding value_with no_aggregate
  plain_value (CONSTANT a b c d) e n = refl
  plain_value (ATTRIBUTE v a) e n = refl
  plain_value (AGGREGATE f v r a c) e n = clash n

  plain_row : (ts : List Term) (e : Assignment) → all no_aggregate ts ≡ true → target_row ts R e ≡ target_row ts R' e
  unfolding target_row_with all
  plain_row [] e n = refl
  plain_row (t ∷ ts) e n =
      let i = and-inv (no_aggregate t) (all no_aggregate ts) n in
      ap₂ with_cell (plain_value t e i.0) (plain_row ts e i.1)

  -- a condition that holds goes on holding
  more-holds : (c : Condition) (e : Assignment) → positive c ≡ true → holds c R e ≡ true → holds c R' e ≡ true
  unfolding holds_with positive
  more-holds TRUE e n h = refl
  more-holds FALSE e n h = h
  more-holds (NOT c) e n h = clash n
  more-holds (AND c d) e n h =
      let i = and-inv (positive c) (positive d) n in
      let j = and-inv (holds c R e) (holds d R e) h in
      and_intro (holds c R' e) (holds d R' e) (more-holds c e i.0 j.0) (more-holds d e i.1 j.1)
  more-holds (OR c d) e n h =
      let i = and-inv (positive c) (positive d) n in
      or-inv (holds c R e) (holds d R e) h (λ k. or_left (holds c R' e) (holds d R' e) (more-holds c e i.0 k)) (λ k. or_right (holds c R' e) (holds d R' e) (more-holds d e i.1 k))
  more-holds (COMPARE o s t) e n h =
      let i = and-inv (no_aggregate s) (no_aggregate t) n in
      ap₂ (compare o) (sym (plain_value s e i.0)) (sym (plain_value t e i.1)) ∙ h
  more-holds (SOME v r c) e n h =
      more v r (λ x. holds c R' (update e v x)) (any-weaken (λ x. holds c R (update e v x)) (λ x. holds c R' (update e v x)) (λ x k. more-holds c (update e v x) n k) (R v r) h)

  more-assignments : (bs : List Binding) (e : Assignment) → Within (assignments bs R e) (assignments bs R' e)
  unfolding assignments
  more-assignments [] e f h = h
  more-assignments (b ∷ bs) e f h =
      let v = b.variable in
      let r = b.relation in
      let g : Rows → Tuple → List Assignment = λ S x. assignments bs S (update e v x) in
      any-concat_map f (g R') (R' v r)
      ∙ more v r (λ x. any f (g R' x)) (any-weaken (λ x. any f (g R x)) (λ x. any f (g R' x)) (λ x k. more-assignments bs (update e v x) f k) (R v r) (sym (any-concat_map f (g R) (R v r)) ∙ h))

  pub more-answers : (q : Query) → positive_q q ≡ true → Within (answers q R) (answers q R')
  unfolding positive_q
  more-answers q n f h =
      let i = and-inv (all no_aggregate q.targets) (positive q.condition) n in
      let t : Rows → Assignment → Bool = λ S e. there f (target_row q.targets S e) && holds q.condition S e in
      let step : (e : Assignment) → t R e ≡ true → t R' e ≡ true =
      λ e k.
      let j = and-inv (there f (target_row q.targets R e)) (holds q.condition R e) k in
      and_intro (there f (target_row q.targets R' e)) (holds q.condition R' e) (ap (there f) (sym (plain_row q.targets e i.0)) ∙ j.0) (more-holds q.condition e i.1 j.1) in
      any-answers f q R'
      ∙ more-assignments q.ranges unbound (t R') (any-weaken (t R) (t R') step (assignments q.ranges R unbound) (sym (any-answers f q R) ∙ h))

-- rows as sets
pub within-included : (xs ys : List (List ℤ)) → Within xs ys → included xs ys ≡ true
unfolding included all any
within-included [] ys w = refl
within-included (x ∷ xs) ys w =
    and_intro (any (same_row x) ys) (all (λ z. any (same_row z) ys) xs) (w (same_row x) (or_left (same_row x x) (any (same_row x) xs) (same_refl x))) (within-included xs ys (λ f h. w f (or_right (f x) (any f xs) h)))
