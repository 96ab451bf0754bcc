-- Non-interference: the answer over the permitted rows depends on their used attributes alone.
use Prim.Native.Nat.{ℕ, zero, suc, ◌<◌}
use mathlib.Core.Bool.{Bool, true, false, not, cond, ◌&&◌, ◌||◌}
use mathlib.Core.Option.{Option}
use mathlib.Core.List.{List, [], ◌∷◌, ◌++◌, map, map-map}
use mathlib.Core.Path.{◌≡◌, refl, sym, ◌∙◌, ap, ap₂, fun_ext}
use native.Mathlib.Omega.{arith}
use lib.Dec.{eqb}
use lib.IntN.{ℤ, pos}
use borrow.Author.Tests.{eq-eqb, eqb-true, eqb-false}
use Rattle.model.specs.Lists.{update, cons_if, filter, any, concat_map, contains, below, Every, present}
use Rattle.model.specs.Syntax.{Condition, Term, TRUE, FALSE, NOT, AND, OR, COMPARE, SOME, CONSTANT, ATTRIBUTE, AGGREGATE, Binding, Use, Query, bindings, bindings_t, bindings_q, uses_q}
use Rattle.model.specs.Meaning.{Tuple, Assignment, Rows, compare, aggregate, holds, value, assignments, unbound, with_cell, target_row, add_rows, rows_met, answers, holds_with, target_row_with}
use Rattle.model.specs.Catalogue.{Shape, all_rows}
use Rattle.model.specs.Permits.{used_of, Guards, permitted, cut}
use Rattle.model.specs.Rewriting.{rewrite_query}
use Rattle.model.proofs.Lists.{every_append, every_map}
use Rattle.model.proofs.Permitted.{Sound, SaneGuard, rewritten-answers}
use Rattle.model.proofs.Cut.{In, masked, cut_assignment, cut_rows, cut-met}

-- two families of rows that agree at each bound variable give the same
module _ (R R' : Rows) where
  abbrev pub Agree : Binding → Type 0
  Agree b = R b.variable b.relation ≡ R' b.variable b.relation

  mutual
    unfolding holds_with bindings Every

    pub same-holds : (c : Condition) (e : Assignment) → Every Agree (bindings c) → holds c R e ≡ holds c R' e
    same-holds TRUE e h = refl
    same-holds FALSE e h = refl
    same-holds (NOT c) e h = ap not (same-holds c e h)
    same-holds (AND c d) e h = let i = every_append Agree (bindings c) (bindings d) h in ap₂ ◌&&◌ (same-holds c e i.0) (same-holds d e i.1)
    same-holds (OR c d) e h = let i = every_append Agree (bindings c) (bindings d) h in ap₂ ◌||◌ (same-holds c e i.0) (same-holds d e i.1)
    same-holds (COMPARE o s t) e h = let i = every_append Agree (bindings_t s) (bindings_t t) h in ap₂ (compare o) (same-value s e i.0) (same-value t e i.1)
    same-holds (SOME v r c) e h = ap₂ (λ (f : Tuple → Bool) (l : List Tuple). any f l) (fun_ext λ x. same-holds c (update e v x) h.1) h.0

    pub same-value : (t : Term) (e : Assignment) → Every Agree (bindings_t t) → value t R e ≡ value t R' e
    same-value (CONSTANT a b c d) e h = refl
    same-value (ATTRIBUTE v a) e h = refl
    same-value (AGGREGATE f v r a c) e h = ap₂ (λ (p : Tuple → Bool) (l : List Tuple). aggregate f (map (λ (x : Tuple). x a) (filter p l))) (fun_ext λ x. same-holds c (update e v x) h.1) h.0

  pub same_row : (ts : List Term) (e : Assignment) → Every Agree (concat_map bindings_t ts) → target_row ts R e ≡ target_row ts R' e
  unfolding target_row_with concat_map
  same_row [] e h = refl
  same_row (t ∷ ts) e h =
      let i = every_append Agree (bindings_t t) (concat_map bindings_t ts) h in
      ap₂ with_cell (same-value t e i.0) (same_row ts e i.1)

  pub same-assign : (bs : List Binding) (e : Assignment) → Every Agree bs → assignments bs R e ≡ assignments bs R' e
  unfolding assignments Every
  same-assign [] e h = refl
  same-assign (b ∷ bs) e h = ap₂ (λ (f : Tuple → List Assignment) (l : List Tuple). concat_map f l) (fun_ext λ x. same-assign bs (update e b.variable x) h.1) h.0

-- a cut row gives the masked row back
unfoldable back : List ℕ → List ℤ → Tuple
back [] vs a = pos 0
back (c ∷ cs) [] a = pos 0
back (c ∷ cs) (v ∷ vs) a = cond (eqb a c) v (back cs vs a)

back-map : (cs : List ℕ) (x : Tuple) (a : ℕ) → back cs (map x cs) a ≡ cond (contains a cs) (x a) (pos 0)
unfolding back contains any
back-map [] x a = refl
back-map (c ∷ cs) x a = go (eqb a c) refl (back-map cs x a)
  where
    go : (b : Bool) → eqb a c ≡ b → back cs (map x cs) a ≡ cond (any (λ c. eqb a c) cs) (x a) (pos 0)
        → cond (eqb a c) (x c) (back cs (map x cs) a) ≡ cond (eqb a c || any (λ c. eqb a c) cs) (x a) (pos 0)
    go true p h = rw (p, eqb-true a c p)
    go false p h = rw (p, h)

contains-append : (a : ℕ) (xs ys : List ℕ) → contains a (xs ++ ys) ≡ contains a xs || contains a ys
unfolding contains any
contains-append a [] ys = refl
contains-append a (x ∷ xs) ys = go (eqb a x) (contains-append a xs ys)
  where
    go : (b : Bool) → any (λ c. eqb a c) (xs ++ ys) ≡ any (λ c. eqb a c) xs || any (λ c. eqb a c) ys
        → b || any (λ c. eqb a c) (xs ++ ys) ≡ (b || any (λ c. eqb a c) xs) || any (λ c. eqb a c) ys
    go true h = refl
    go false h = h

-- what a kept list contains
contains-filter : (s : ℕ → Bool) (a : ℕ) (xs : List ℕ) → contains a (filter s xs) ≡ s a && contains a xs
unfolding contains any filter
contains-filter s a [] = and-false (s a)
  where
    and-false : (b : Bool) → false ≡ b && false
    and-false true = refl
    and-false false = refl
contains-filter s a (x ∷ xs) = go (s a) (s x) (eqb a x) refl refl refl (contains-filter s a xs)
  where
    go : (b d t : Bool) → s a ≡ b → s x ≡ d → eqb a x ≡ t → any (λ c. eqb a c) (filter s xs) ≡ s a && any (λ c. eqb a c) xs
        → any (λ c. eqb a c) (cons_if (s x) x (filter s xs)) ≡ s a && (eqb a x || any (λ c. eqb a c) xs)
    go true true true p q r h = rw (p, q, r)
    go true true false p q r h = rw (p, q, r) (rw p at h)
    go true false true p q r h = let z : true ≡ false = sym p ∙ ap s (eqb-true a x r) ∙ q in cc
    go true false false p q r h = rw (p, q, r) (rw p at h)
    go false true true p q r h = let z : false ≡ true = sym p ∙ ap s (eqb-true a x r) ∙ q in cc
    go false true false p q r h = rw (p, q, r) (rw p at h)
    go false false true p q r h = rw (p, q) (rw p at h)
    go false false false p q r h = rw (p, q) (rw p at h)

contains-below : (n a : ℕ) → a < n → contains a (below n) ≡ true
unfolding below contains any
contains-below zero a h = absurd (omega arith)
contains-below (suc n) a h = contains-append a (below n) (n ∷ []) ∙ go (eqb a n) refl (λ k. contains-below n a k)
  where
    go : (b : Bool) → eqb a n ≡ b → (a < n → contains a (below n) ≡ true) → contains a (below n) || contains a (n ∷ []) ≡ true
    go true p k = rw p (or-true (contains a (below n)))
      where
        or-true : (b : Bool) → b || true ≡ true
        or-true true = refl
        or-true false = refl
    go false p k = rw (k (omega (arith, eqb-false a n p)))

masked-back : (s : ℕ → Bool) (x : Tuple) → ((a : ℕ) → s a ≡ true → a < 16) → masked s x ≡ back (filter s (below 16)) (cut s x)
unfolding masked cut
masked-back s x k = fun_ext λ a. sym (back-map (filter s (below 16)) x a ∙ ap (λ b. cond b (x a) (pos 0)) (contains-filter s a (below 16) ∙ go a (s a) refl))
  where
    go : (a : ℕ) (b : Bool) → s a ≡ b → s a && contains a (below 16) ≡ s a
    go a true p = rw (p, contains-below 16 a (k a p))
    go a false p = rw p

masked-of-cut : (s : ℕ → Bool) (l l' : List Tuple) → ((a : ℕ) → s a ≡ true → a < 16) → map (cut s) l ≡ map (cut s) l' → map (masked s) l ≡ map (masked s) l'
masked-of-cut s l l' k h =
    let f : List ℤ → Tuple = back (filter s (below 16)) in
    let e : (l : List Tuple) → map (masked s) l ≡ map f (map (cut s) l) = λ l. ap (λ (g : Tuple → Tuple). map g l) (fun_ext λ x. masked-back s x k) ∙ sym (map-map f (cut s) l) in
    e l ∙ ap (map f) h ∙ sym (e l')

-- each use of a query is in its S
uses-in : (us : List Use) → Every (In (λ v a. any (λ (u : Use). eqb u.variable v && eqb u.attribute a) us)) us
unfolding Every any
uses-in [] = tt
uses-in (u ∷ us) = (rw (eq-eqb u.variable u.variable refl, eq-eqb u.attribute u.attribute refl), every_map _ _ (λ x h. go x h (eqb u.variable x.variable && eqb u.attribute x.attribute)) us (uses-in us))
  where
    go : (x : Use) → any (λ (u : Use). eqb u.variable x.variable && eqb u.attribute x.attribute) us ≡ true → (b : Bool) → b || any (λ (u : Use). eqb u.variable x.variable && eqb u.attribute x.attribute) us ≡ true
    go x h true = refl
    go x h false = h

pub query-uses : (q : Query) → Every (In (used_of q)) (uses_q q)
unfolding used_of
query-uses q = uses-in (uses_q q)

-- S lies within the 16 attributes that a relation may have
abbrev pub Narrow : Query → Type 0
Narrow q = (v a : ℕ) → used_of q v a ≡ true → a < 16

-- the permitted rows of a variable, cut to S, are the same
abbrev pub SameCut : (ℕ → List Tuple) → (ℕ → List Tuple) → Guards → Query → Binding → Type 0
SameCut D D' G q b = map (cut (used_of q b.variable)) (permitted D G b.variable b.relation) ≡ map (cut (used_of q b.variable)) (permitted D' G b.variable b.relation)

-- the cut rows of two such collections agree
pub cut-agree : (D D' : ℕ → List Tuple) (G : Guards) (q : Query) → Narrow q → Every (SameCut D D' G q) (bindings_q q)
    → Every (Agree (cut_rows (used_of q) (permitted D G)) (cut_rows (used_of q) (permitted D' G))) (bindings_q q)
unfolding cut_rows
cut-agree D D' G q k h =
    let R = cut_rows (used_of q) (permitted D G) in
    let R' = cut_rows (used_of q) (permitted D' G) in
    every_map (SameCut D D' G q) (Agree R R') (λ b e. masked-of-cut (used_of q b.variable) (permitted D G b.variable b.relation) (permitted D' G b.variable b.relation) (k b.variable) e) (bindings_q q) h

-- so the rows met are the same
pub same_met : (D D' : ℕ → List Tuple) (G : Guards) (q : Query) → Narrow q → Every (SameCut D D' G q) (bindings_q q) → rows_met q (permitted D G) ≡ rows_met q (permitted D' G)
unfolding bindings_q
same_met D D' G q k h =
    let S = used_of q in
    let R = cut_rows S (permitted D G) in
    let R' = cut_rows S (permitted D' G) in
    let i = every_append (Agree R R') q.ranges (concat_map bindings_t q.targets ++ bindings q.condition) (cut-agree D D' G q k h) in
    let j = every_append (Agree R R') (concat_map bindings_t q.targets) (bindings q.condition) i.1 in
    cut-met S (permitted D G) q (query-uses q)
    ∙ ap (λ (rows : List (Option (List ℤ))). present rows) (
    ap₂ (λ (f : Assignment → Option (List ℤ)) (p : Assignment → Bool). map f (filter p (assignments q.ranges R (cut_assignment S unbound)))) (fun_ext λ e. same_row R R' q.targets e j.0) (fun_ext λ e. same-holds R R' q.condition e j.1)
    ∙ ap (λ (l : List Assignment). map (target_row q.targets R') (filter (holds q.condition R') l)) (same-assign R R' q.ranges (cut_assignment S unbound) i.0))
    ∙ sym (cut-met S (permitted D' G) q (query-uses q))

pub non-interference : (sh : Shape) (D D' : ℕ → List Tuple) (G : Guards) (sane : (v r : ℕ) → SaneGuard sh r (G v r)) (q : Query) → Sound q → Narrow q
    → Every (SameCut D D' G q) (bindings_q q) → answers (rewrite_query G q) (all_rows D) ≡ answers (rewrite_query G q) (all_rows D')
unfolding answers
non-interference sh D D' G sane q s k h = rewritten-answers sh D G sane q s ∙ ap (add_rows []) (same_met D D' G q k h) ∙ sym (rewritten-answers sh D' G sane q s)
