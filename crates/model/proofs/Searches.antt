-- The searches of the asker's query are the same over two collections alike in demand 3's premises (specs/Demands: `SearchesAlike`).
use Prim.Native.Nat.{ℕ, zero, suc}
use mathlib.Core.Bool.{Bool, true}
use mathlib.Core.List.{List, [], ◌∷◌, ◌++◌, map}
use mathlib.Core.Path.{◌≡◌, refl, sym, ◌∙◌, ap, ap₂, subst, fun_ext}
use lib.ListN.{length, take}
use Rattle.model.specs.Lists.{update, concat_map, Every}
use Rattle.model.specs.Syntax.{Condition, Term, TRUE, FALSE, NOT, AND, OR, COMPARE, SOME, CONSTANT, ATTRIBUTE, AGGREGATE, Binding, Query, bindings, bindings_t, bindings_q, uses, uses_t, uses_q}
use Rattle.model.specs.Meaning.{Tuple, Assignment, Rows, holds, assignments, unbound, rows_met}
use Rattle.model.specs.Encoding.{query_of, permits_of}
use Rattle.model.specs.Catalogue.{Shape, catalogue_of, shape_of, tuples_at}
use Rattle.model.specs.Permits.{used_of, Guards, guards_of, permitted, cut}
use Rattle.model.specs.Checks.{ask_checks}
use Rattle.model.specs.Demands.{permitted_cut, SearchesAlike}
use Rattle.model.specs.Search.{Search, search, searches_in, searches_in_t, some_searches, row_searches}
use Rattle.model.proofs.Lists.{concat_map-map, every_append}
use Rattle.model.proofs.Search.{search-map}
use Rattle.model.proofs.Cut.{In, masked, cut_assignment, cut_rows, cut-update, cut_holds, cut-assign}
use Rattle.model.proofs.NonInterference.{Agree, same-holds, same-assign, query-uses, Narrow, SameCut, cut-agree, same_met}
use Rattle.model.proofs.Grounds.{passes-refusal}
use Rattle.model.proofs.Passed.{narrow, slim}
use Rattle.model.proofs.Accepted.{scope}
use Rattle.model.proofs.Demands.{shape-passes}

-- a query's searches at one assignment
abbrev in_query : Query → Rows → Assignment → List Search
in_query q R e = concat_map (λ t. searches_in_t t R e) q.targets ++ searches_in q.condition R e

-- a search sees of each row only the attributes that the query uses
module _ (S : ℕ → ℕ → Bool) (R : Rows) where
  -- on each row of a variable
  cut-rows : (c : Condition) (e : Assignment) (v r : ℕ) → ((x : Tuple) → searches_in c R (update e v x) ≡ searches_in c (cut_rows S R) (cut_assignment S (update e v x)))
      → concat_map (λ x. searches_in c R (update e v x)) (R v r) ≡ concat_map (λ x. searches_in c (cut_rows S R) (update (cut_assignment S e) v x)) (cut_rows S R v r)
  unfolding cut_rows
  cut-rows c e v r h =
      ap (λ (g : Tuple → List Search). concat_map g (R v r)) (fun_ext λ x. h x ∙ ap (searches_in c (cut_rows S R)) (cut-update S e v x))
      ∙ sym (concat_map-map (masked (S v)) (λ _. true) (λ x. searches_in c (cut_rows S R) (update (cut_assignment S e) v x)) (R v r))

  mutual
    unfolding searches_in uses cut_rows Every

    cut-searches : (c : Condition) (e : Assignment) → Every (In S) (uses c) → searches_in c R e ≡ searches_in c (cut_rows S R) (cut_assignment S e)
    cut-searches TRUE e u = refl
    cut-searches FALSE e u = refl
    cut-searches (NOT c) e u = cut-searches c e u
    cut-searches (AND c d) e u = let i = every_append (In S) (uses c) (uses d) u in ap₂ ◌++◌ (cut-searches c e i.0) (cut-searches d e i.1)
    cut-searches (OR c d) e u = let i = every_append (In S) (uses c) (uses d) u in ap₂ ◌++◌ (cut-searches c e i.0) (cut-searches d e i.1)
    cut-searches (COMPARE o s t) e u = let i = every_append (In S) (uses_t s) (uses_t t) u in ap₂ ◌++◌ (cut-searches_t s e i.0) (cut-searches_t t e i.1)
    cut-searches (SOME v r c) e u =
        ap₂ ◌∷◌
        (ap (λ (f : Tuple → Bool). search f (R v r)) (fun_ext λ x. cut_holds S R c (update e v x) u ∙ ap (holds c (cut_rows S R)) (cut-update S e v x))
        ∙ sym (search-map (masked (S v)) (λ x. holds c (cut_rows S R) (update (cut_assignment S e) v x)) (R v r)))
        (cut-rows c e v r (λ x. cut-searches c (update e v x) u))

    cut-searches_t : (t : Term) (e : Assignment) → Every (In S) (uses_t t) → searches_in_t t R e ≡ searches_in_t t (cut_rows S R) (cut_assignment S e)
    cut-searches_t (CONSTANT a b c d) e u = refl
    cut-searches_t (ATTRIBUTE v a) e u = refl
    cut-searches_t (AGGREGATE f v r a c) e u = cut-rows c e v r (λ x. cut-searches c (update e v x) u.1)

  cut-targets : (ts : List Term) (e : Assignment) → Every (In S) (concat_map uses_t ts) → concat_map (λ t. searches_in_t t R e) ts ≡ concat_map (λ t. searches_in_t t (cut_rows S R) (cut_assignment S e)) ts
  unfolding concat_map
  cut-targets [] e u = refl
  cut-targets (t ∷ ts) e u = let i = every_append (In S) (uses_t t) (concat_map uses_t ts) u in ap₂ ◌++◌ (cut-searches_t t e i.0) (cut-targets ts e i.1)

  cut_all : (k : ℕ) (q : Query) → Every (In S) (uses_q q) → some_searches k q R ≡ concat_map (in_query q (cut_rows S R)) (assignments (take k q.ranges) (cut_rows S R) (cut_assignment S unbound))
  unfolding some_searches uses_q
  cut_all k q u =
      let i = every_append (In S) (concat_map uses_t q.targets) (uses q.condition) u in
      let bs = take k q.ranges in
      ap (λ (h : Assignment → List Search). concat_map h (assignments bs R unbound)) (fun_ext λ e. ap₂ ◌++◌ (cut-targets q.targets e i.0) (cut-searches q.condition e i.1))
      ∙ sym (concat_map-map (cut_assignment S) (λ _. true) (in_query q (cut_rows S R)) (assignments bs R unbound))
      ∙ ap (concat_map (in_query q (cut_rows S R))) (cut-assign S R bs unbound)

-- two families of rows that agree at each bound variable have the same searches
module _ (R R' : Rows) where
  mutual
    unfolding searches_in bindings Every

    same-searches : (c : Condition) (e : Assignment) → Every (Agree R R') (bindings c) → searches_in c R e ≡ searches_in c R' e
    same-searches TRUE e h = refl
    same-searches FALSE e h = refl
    same-searches (NOT c) e h = same-searches c e h
    same-searches (AND c d) e h = let i = every_append (Agree R R') (bindings c) (bindings d) h in ap₂ ◌++◌ (same-searches c e i.0) (same-searches d e i.1)
    same-searches (OR c d) e h = let i = every_append (Agree R R') (bindings c) (bindings d) h in ap₂ ◌++◌ (same-searches c e i.0) (same-searches d e i.1)
    same-searches (COMPARE o s t) e h = let i = every_append (Agree R R') (bindings_t s) (bindings_t t) h in ap₂ ◌++◌ (same-searches_t s e i.0) (same-searches_t t e i.1)
    same-searches (SOME v r c) e h =
        ap₂ ◌∷◌
        (ap₂ (λ (f : Tuple → Bool) (l : List Tuple). search f l) (fun_ext λ x. same-holds R R' c (update e v x) h.1) h.0)
        (ap₂ (λ (f : Tuple → List Search) (l : List Tuple). concat_map f l) (fun_ext λ x. same-searches c (update e v x) h.1) h.0)

    same-searches_t : (t : Term) (e : Assignment) → Every (Agree R R') (bindings_t t) → searches_in_t t R e ≡ searches_in_t t R' e
    same-searches_t (CONSTANT a b c d) e h = refl
    same-searches_t (ATTRIBUTE v a) e h = refl
    same-searches_t (AGGREGATE f v r a c) e h = ap₂ (λ (f : Tuple → List Search) (l : List Tuple). concat_map f l) (fun_ext λ x. same-searches c (update e v x) h.1) h.0

  same-targets : (ts : List Term) (e : Assignment) → Every (Agree R R') (concat_map bindings_t ts) → concat_map (λ t. searches_in_t t R e) ts ≡ concat_map (λ t. searches_in_t t R' e) ts
  unfolding concat_map
  same-targets [] e h = refl
  same-targets (t ∷ ts) e h = let i = every_append (Agree R R') (bindings_t t) (concat_map bindings_t ts) h in ap₂ ◌++◌ (same-searches_t t e i.0) (same-targets ts e i.1)

  first-bound : (k : ℕ) (bs : List Binding) → Every (Agree R R') bs → Every (Agree R R') (take k bs)
  unfolding Every
  first-bound zero bs h = tt
  first-bound (suc k) [] h = tt
  first-bound (suc k) (b ∷ bs) h = (h.0, first-bound k bs h.1)

  same-all : (k : ℕ) (q : Query) (e : Assignment) → Every (Agree R R') (bindings_q q)
      → concat_map (in_query q R) (assignments (take k q.ranges) R e) ≡ concat_map (in_query q R') (assignments (take k q.ranges) R' e)
  unfolding bindings_q
  same-all k q e h =
      let i = every_append (Agree R R') q.ranges (concat_map bindings_t q.targets ++ bindings q.condition) h in
      let j = every_append (Agree R R') (concat_map bindings_t q.targets) (bindings q.condition) i.1 in
      ap₂ (λ (f : Assignment → List Search) (l : List Assignment). concat_map f l)
      (fun_ext λ e. ap₂ ◌++◌ (same-targets q.targets e j.0) (same-searches q.condition e j.1))
      (same-assign R R' (take k q.ranges) e (first-bound k q.ranges i.0))

-- over permitted rows that are the same, cut to S
module _ (D D' : ℕ → List Tuple) (G : Guards) (q : Query) (k : Narrow q) (h : Every (SameCut D D' G q) (bindings_q q)) where
  pub some_alike : (n : ℕ) → some_searches n q (permitted D G) ≡ some_searches n q (permitted D' G)
  some_alike n =
      cut_all (used_of q) (permitted D G) n q (query-uses q)
      ∙ same-all (cut_rows (used_of q) (permitted D G)) (cut_rows (used_of q) (permitted D' G)) n q (cut_assignment (used_of q) unbound) (cut-agree D D' G q k h)
      ∙ sym (cut_all (used_of q) (permitted D' G) n q (query-uses q))

  pub rows_alike : row_searches [] (rows_met q (permitted D G)) ≡ row_searches [] (rows_met q (permitted D' G))
  rows_alike = ap (row_searches []) (same_met D D' G q k h)

pub searches-alike : SearchesAlike
searches-alike cb cb' vs vs' pb qb rewritten _ _ same cuts passes = go
  where
    sh : Shape
    sh = shape_of (catalogue_of cb)

    q : Query
    q = query_of qb

    D : ℕ → List Tuple
    D = tuples_at (catalogue_of cb) vs

    D' : ℕ → List Tuple
    D' = tuples_at (catalogue_of cb') vs'

    over : Shape → Rows
    over s = permitted D' (guards_of s (permits_of pb) q)

    narrow-q : Narrow q
    narrow-q = narrow sh (slim cb) q (scope sh pb qb (length rewritten) (shape-passes cb vs pb qb rewritten (passes-refusal (ask_checks cb vs pb qb (length rewritten)) passes)))

    alike : Every (SameCut D D' (guards_of sh (permits_of pb) q) q) (bindings_q q)
    alike = subst (λ (s : Shape). Every (λ b. permitted_cut cb vs pb q b ≡ map (cut (used_of q b.variable)) (over s b.variable b.relation)) (bindings_q q)) (sym same) cuts

    go : ((k : ℕ) → some_searches k q (permitted D (guards_of sh (permits_of pb) q)) ≡ some_searches k q (over (shape_of (catalogue_of cb'))))
        × (row_searches [] (rows_met q (permitted D (guards_of sh (permits_of pb) q))) ≡ row_searches [] (rows_met q (over (shape_of (catalogue_of cb')))))
    go =
        let G = guards_of sh (permits_of pb) q in
        (λ k. some_alike D D' G q narrow-q alike k ∙ ap (λ (s : Shape). some_searches k q (over s)) same, rows_alike D D' G q narrow-q alike ∙ ap (λ (s : Shape). row_searches [] (rows_met q (over s))) same)
