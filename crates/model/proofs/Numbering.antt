-- The numbers bound in the rewritten query: below 8 the query's own, from 8 up the new ones in a row; so each is bound once.
use Prim.Native.Nat.{ℕ, zero, suc, ◌+◌, ◌<◌, ◌≤◌}
use native.Mathlib.Nat.{add-zero, zero-add}
use mathlib.Core.Bool.{Bool, true, false, not, ◌&&◌, ◌||◌}
use mathlib.Core.List.{List, [], ◌∷◌, ◌++◌, map, map-append}
use mathlib.Core.Path.{◌≡◌, refl, sym, ◌∙◌, ap, ap₂, subst}
use native.Mathlib.Omega.{arith}
use lib.Dec.{eqb, ltb}
use lib.ListN.{length}
use borrow.Author.Tests.{eq-eqb, ne_eqb, eqb-true, eqb-false, lt-ltb, le-ltb}
use Rattle.model.specs.Lists.{cons_if, filter, any, concat_map, total, contains, unique, index_of, Every}
use Rattle.model.specs.Syntax.{Condition, Term, TRUE, FALSE, NOT, AND, OR, COMPARE, SOME, CONSTANT, ATTRIBUTE, AGGREGATE, Binding, Query, bindings, bindings_t, bindings_q, variables}
use Rattle.model.specs.Permits.{Guard, free, only, Guards}
use Rattle.model.specs.Catalogue.{Shape}
use Rattle.model.specs.Rewriting.{rename, rename_t, new_number, copy_for, disjunction, new_in, guarded, new_for, rewrite, rewrite_t, rewrite_targets, guard_ranges, rewrite_query}
use Rattle.model.specs.Scope.{bound_once}
use Rattle.model.proofs.Tests.{and-inv, or_no, not_yes}
use Rattle.model.proofs.Lists.{filter-append, every_append, every_map}
use Rattle.model.proofs.Renaming.{Sane, length-variables}
use Rattle.model.proofs.Permitted.{Low, Sound, SaneGuard}
use Rattle.model.proofs.Limits.{new_for-append, new_for-cons}

-- n, n + 1, .. : k numbers
unfoldable pub run : ℕ → ℕ → List ℕ
run n zero = []
run n (suc k) = n ∷ run (suc n) k

run-add : (n j k : ℕ) → run n j ++ run (n + j) k ≡ run n (j + k)
unfolding run
run-add n zero k = rw (add-zero, zero-add)
run-add n (suc j) k = let e : n + suc j ≡ suc n + j = omega arith in let f : suc j + k ≡ suc (j + k) = omega arith in rw (e, f) (ap (λ r. n ∷ r) (run-add (suc n) j k))

abbrev low : ℕ → Bool
low x = ltb x 8

abbrev high : ℕ → Bool
high x = not (ltb x 8)

low_run : (n k : ℕ) → 8 ≤ n → filter low (run n k) ≡ []
unfolding run filter
low_run n zero h = refl
low_run n (suc k) h = rw (le-ltb n 8 h) (low_run (suc n) k (omega arith))

high-run : (n k : ℕ) → 8 ≤ n → filter high (run n k) ≡ run n k
unfolding run filter
high-run n zero h = refl
high-run n (suc k) h = rw (le-ltb n 8 h) (ap (λ r. n ∷ r) (high-run (suc n) k (omega arith)))

-- ys has the numbers xs below 8, and from 8 up those from n on, k of them
record Split (xs ys : List ℕ) (n k : ℕ) : Type 0 where
  lows : filter low ys ≡ xs
  highs : filter high ys ≡ run n k

split-nil : (n : ℕ) → Split [] [] n 0
unfolding filter run
split-nil n = record { lows = refl; highs = refl }

split-cons : (v : ℕ) (xs ys : List ℕ) (n k : ℕ) → v < 8 → Split xs ys n k → Split (v ∷ xs) (v ∷ ys) n k
unfolding filter
split-cons v xs ys n k l s = record { lows = rw (lt-ltb v 8 l) (ap (λ r. v ∷ r) s.lows); highs = rw (lt-ltb v 8 l) s.highs }

split-run : (n k : ℕ) → 8 ≤ n → Split [] (run n k) n k
split-run n k h = record { lows = low_run n k h; highs = high-run n k h }

split-append : (xs ys us vs : List ℕ) (n j k : ℕ) → Split xs ys n j → Split us vs (n + j) k → Split (xs ++ us) (ys ++ vs) n (j + k)
split-append xs ys us vs n j k s t = record {
  lows = filter-append low ys vs ∙ ap₂ ◌++◌ s.lows t.lows;
  highs = filter-append high ys vs ∙ ap₂ ◌++◌ s.highs t.highs ∙ run-add n j k;
}

split-count : (xs ys : List ℕ) (n j k : ℕ) → j ≡ k → Split xs ys n j → Split xs ys n k
split-count xs ys n j k e s = subst (λ (i : ℕ). Split xs ys n i) e s

split-right : (xs ys us : List ℕ) (n k : ℕ) → ys ≡ us → Split xs ys n k → Split xs us n k
split-right xs ys us n k e s = subst (λ (l : List ℕ). Split xs l n k) e s

-- the new numbers of a permit's copy are a run
map-every : (f g : ℕ → ℕ) (xs : List ℕ) → Every (λ x. f x ≡ g x) xs → map f xs ≡ map g xs
unfolding Every
map-every f g [] h = refl
map-every f g (x ∷ xs) h = ap₂ (λ (a : ℕ) (l : List ℕ). a ∷ l) h.0 (map-every f g xs h.1)

others : (v : ℕ) (xs : List ℕ) → contains v xs ≡ false → Every (λ w. w ≡ v → ⊥) xs
unfolding Every contains any
others v [] h = tt
others v (x ∷ xs) h = let i = or_no (eqb v x) (contains v xs) h in ((λ e. eqb-false v x i.0 (sym e)), others v xs i.1)

index-run : (n : ℕ) (xs : List ℕ) → unique xs ≡ true → map (λ w. n + index_of w xs) xs ≡ run n (length xs)
unfolding unique run index_of
index-run n [] u = refl
index-run n (x ∷ xs) u =
    let i = and-inv (not (contains x xs)) (unique xs) u in
    let first : n + index_of x (x ∷ xs) ≡ n = rw (eq-eqb x x refl) (omega arith) in
    ap₂ (λ (a : ℕ) (l : List ℕ). a ∷ l) first
    (map-every (λ w. n + index_of w (x ∷ xs)) (λ w. suc n + index_of w xs) xs (every_map (λ w. w ≡ x → ⊥) (λ w. n + index_of w (x ∷ xs) ≡ suc n + index_of w xs) (λ w k. rw (ne_eqb w x k) (omega arith)) xs (others x xs (not_yes (contains x xs) i.0)))
    ∙ index-run (suc n) xs i.1)

two : (ρ : ℕ → ℕ) (xs ys us vs : List Binding) → variables xs ≡ map ρ (variables us) → variables ys ≡ map ρ (variables vs) → variables (xs ++ ys) ≡ map ρ (variables (us ++ vs))
two ρ xs ys us vs a b = map-append (λ (b : Binding). b.variable) xs ys ∙ ap₂ ◌++◌ a b ∙ sym (map-append ρ (variables us) (variables vs)) ∙ ap (map ρ) (sym (map-append (λ (b : Binding). b.variable) us vs))

mutual
  unfolding rename bindings

  rename-variables : (ρ : ℕ → ℕ) (c : Condition) → variables (bindings (rename ρ c)) ≡ map ρ (variables (bindings c))
  rename-variables ρ TRUE = refl
  rename-variables ρ FALSE = refl
  rename-variables ρ (NOT c) = rename-variables ρ c
  rename-variables ρ (AND c d) = two ρ (bindings (rename ρ c)) (bindings (rename ρ d)) (bindings c) (bindings d) (rename-variables ρ c) (rename-variables ρ d)
  rename-variables ρ (OR c d) = two ρ (bindings (rename ρ c)) (bindings (rename ρ d)) (bindings c) (bindings d) (rename-variables ρ c) (rename-variables ρ d)
  rename-variables ρ (COMPARE o s t) = two ρ (bindings_t (rename_t ρ s)) (bindings_t (rename_t ρ t)) (bindings_t s) (bindings_t t) (rename-variables_t ρ s) (rename-variables_t ρ t)
  rename-variables ρ (SOME v r c) = ap (λ l. ρ v ∷ l) (rename-variables ρ c)

  rename-variables_t : (ρ : ℕ → ℕ) (t : Term) → variables (bindings_t (rename_t ρ t)) ≡ map ρ (variables (bindings_t t))
  rename-variables_t ρ (CONSTANT a b c d) = refl
  rename-variables_t ρ (ATTRIBUTE v a) = refl
  rename-variables_t ρ (AGGREGATE f v r a c) = ap (λ l. ρ v ∷ l) (rename-variables ρ c)

copy_run : (c : Condition) (v n : ℕ) → unique (0 ∷ variables (bindings c)) ≡ true → variables (bindings (copy_for c v n)) ≡ run n (length (bindings c))
unfolding copy_for new_number unique
copy_run c v n u =
    let vs = variables (bindings c) in
    let i = and-inv (not (contains 0 vs)) (unique vs) u in
    rename-variables (new_number c v n) c
    ∙ map-every (new_number c v n) (λ w. n + index_of w vs) vs (every_map (λ w. w ≡ 0 → ⊥) (λ w. new_number c v n w ≡ n + index_of w vs) (λ w k. rw (ne_eqb w 0 k)) vs (others 0 vs (not_yes (contains 0 vs) i.0)))
    ∙ index-run n vs i.1
    ∙ ap (run n) (length-variables (bindings c))

disjunction-run : (sh : Shape) (cs : List Condition) (r v n : ℕ) → Every (Sane sh r) cs → variables (bindings (disjunction cs v n)) ≡ run n (total (λ c. length (bindings c)) cs)
unfolding disjunction bindings total Every run
disjunction-run sh [] r v n s = refl
disjunction-run sh (c ∷ []) r v n s = copy_run c v n s.0.alone ∙ ap (run n) (sym (add-zero (length (bindings c))))
disjunction-run sh (c ∷ d ∷ ds) r v n s =
    map-append (λ (b : Binding). b.variable) (bindings (copy_for c v n)) (bindings (disjunction (d ∷ ds) v (n + length (bindings c))))
    ∙ ap₂ ◌++◌ (copy_run c v n s.0.alone) (disjunction-run sh (d ∷ ds) r v (n + length (bindings c)) s.1)
    ∙ run-add n (length (bindings c)) (total (λ c. length (bindings c)) (d ∷ ds))

module _ (sh : Shape) where
  guarded-split : (g : Guard) (r v n k : ℕ) (xs : List ℕ) (c : Condition) → SaneGuard sh r g → 8 ≤ n → Split xs (variables (bindings c)) n k → Split xs (variables (bindings (guarded g v (n + k) c))) n (k + new_in g)
  unfolding guarded new_in SaneGuard bindings
  guarded-split free r v n k xs c s h p = split-count xs (variables (bindings c)) n k (k + 0) (omega arith) p
  guarded-split (only cs) r v n k xs c s h p =
      let t = total (λ c. length (bindings c)) cs in
      let e : variables (bindings c) ++ run (n + k) t ≡ variables (bindings c ++ bindings (disjunction cs v (n + k))) =
      ap (λ l. variables (bindings c) ++ l) (sym (disjunction-run sh cs r v (n + k) s)) ∙ sym (map-append (λ (b : Binding). b.variable) (bindings c) (bindings (disjunction cs v (n + k)))) in
      let f : xs ++ [] ≡ xs = append-nil xs in
      split-right xs _ _ n (k + t) e (subst (λ (l : List ℕ). Split l (variables (bindings c) ++ run (n + k) t) n (k + t)) f (split-append xs (variables (bindings c)) [] (run (n + k) t) n k t p (split-run (n + k) t (omega arith))))
    where
      append-nil : (l : List ℕ) → l ++ [] ≡ l
      append-nil [] = refl
      append-nil (x ∷ xs) = ap (λ l. x ∷ l) (append-nil xs)

  module _ (G : Guards) (sane : (v r : ℕ) → SaneGuard sh r (G v r)) where
    -- the variables of two lists of bindings, one after the other
    both : (xs ys us vs : List Binding) (n : ℕ) → Split (variables xs) (variables ys) n (new_for G xs) → Split (variables us) (variables vs) (n + new_for G xs) (new_for G us)
        → Split (variables (xs ++ us)) (variables (ys ++ vs)) n (new_for G (xs ++ us))
    both xs ys us vs n s t =
        let e = map-append (λ (b : Binding). b.variable) xs us in
        let f = map-append (λ (b : Binding). b.variable) ys vs in
        split-count _ _ n (new_for G xs + new_for G us) (new_for G (xs ++ us)) (sym (new_for-append G xs us))
        (split-right _ _ _ n _ (sym f) (subst (λ (l : List ℕ). Split l (variables ys ++ variables vs) n (new_for G xs + new_for G us)) (sym e) (split-append _ _ _ _ n (new_for G xs) (new_for G us) s t)))

    nothing : (n : ℕ) → Split [] [] n (new_for G [])
    unfolding new_for total
    nothing n = split-nil n

    bound : (v r n : ℕ) (xs : List Binding) (c : Condition) → v < 8 → 8 ≤ n → Split (variables xs) (variables (bindings c)) n (new_for G xs)
        → Split (v ∷ variables xs) (v ∷ variables (bindings (guarded (G v r) v (n + new_for G xs) c))) n (new_for G (record { variable = v; relation = r } ∷ xs))
    bound v r n xs c l h s =
        split-count _ _ n (new_for G xs + new_in (G v r)) _ (omega (arith, new_for-cons G v r xs))
        (split-cons v (variables xs) _ n (new_for G xs + new_in (G v r)) l (guarded-split (G v r) r v n (new_for G xs) (variables xs) c (sane v r) h s))

    mutual
      unfolding rewrite bindings Every

      numbered : (c : Condition) (n : ℕ) → Every Low (bindings c) → 8 ≤ n → Split (variables (bindings c)) (variables (bindings (rewrite G c n))) n (new_for G (bindings c))
      numbered TRUE n s h = nothing n
      numbered FALSE n s h = nothing n
      numbered (NOT c) n s h = numbered c n s h
      numbered (AND c d) n s h = let i = every_append Low (bindings c) (bindings d) s in both (bindings c) (bindings (rewrite G c n)) (bindings d) (bindings (rewrite G d (n + new_for G (bindings c)))) n (numbered c n i.0 h) (numbered d (n + new_for G (bindings c)) i.1 (omega arith))
      numbered (OR c d) n s h = let i = every_append Low (bindings c) (bindings d) s in both (bindings c) (bindings (rewrite G c n)) (bindings d) (bindings (rewrite G d (n + new_for G (bindings c)))) n (numbered c n i.0 h) (numbered d (n + new_for G (bindings c)) i.1 (omega arith))
      numbered (COMPARE o a b) n s h = let i = every_append Low (bindings_t a) (bindings_t b) s in both (bindings_t a) (bindings_t (rewrite_t G a n)) (bindings_t b) (bindings_t (rewrite_t G b (n + new_for G (bindings_t a)))) n (numbered_t a n i.0 h) (numbered_t b (n + new_for G (bindings_t a)) i.1 (omega arith))
      numbered (SOME v r c) n s h = bound v r n (bindings c) (rewrite G c n) s.0 h (numbered c n s.1 h)

      numbered_t : (t : Term) (n : ℕ) → Every Low (bindings_t t) → 8 ≤ n → Split (variables (bindings_t t)) (variables (bindings_t (rewrite_t G t n))) n (new_for G (bindings_t t))
      numbered_t (CONSTANT a b c d) n s h = nothing n
      numbered_t (ATTRIBUTE v a) n s h = nothing n
      numbered_t (AGGREGATE f v r a c) n s h = bound v r n (bindings c) (rewrite G c n) s.0 h (numbered c n s.1 h)

    numbered_ts : (ts : List Term) (n : ℕ) → Every Low (concat_map bindings_t ts) → 8 ≤ n
        → Split (variables (concat_map bindings_t ts)) (variables (concat_map bindings_t (rewrite_targets G ts n))) n (new_for G (concat_map bindings_t ts))
    unfolding rewrite_targets concat_map
    numbered_ts [] n s h = nothing n
    numbered_ts (t ∷ ts) n s h =
        let i = every_append Low (bindings_t t) (concat_map bindings_t ts) s in
        both (bindings_t t) (bindings_t (rewrite_t G t n)) (concat_map bindings_t ts) (concat_map bindings_t (rewrite_targets G ts (n + new_for G (bindings_t t)))) n (numbered_t t n i.0 h) (numbered_ts ts (n + new_for G (bindings_t t)) i.1 (omega arith))

    -- range guards take the numbers after the condition's
    numbered_rs : (bs : List Binding) (n k : ℕ) (xs : List ℕ) (c : Condition) → 8 ≤ n → Split xs (variables (bindings c)) n k → Split xs (variables (bindings (guard_ranges G bs (n + k) c))) n (k + new_for G bs)
    unfolding guard_ranges new_for total
    numbered_rs [] n k xs c h s = split-count xs _ n k (k + 0) (omega arith) s
    numbered_rs (b ∷ bs) n k xs c h s =
        let g = G b.variable b.relation in
        let i = guarded-split g b.relation b.variable n k xs c (sane b.variable b.relation) h s in
        let j = numbered_rs bs n (k + new_in g) xs (guarded g b.variable (n + k) c) h i in
        let e : n + (k + new_in g) ≡ n + k + new_in g = omega arith in
        split-count xs _ n (k + new_in g + new_for G bs) (k + new_for G (b ∷ bs)) (omega (arith, new_for-cons G b.variable b.relation bs))
        (subst (λ (m : ℕ). Split xs (variables (bindings (guard_ranges G bs m (guarded g b.variable (n + k) c)))) n (k + new_in g + new_for G bs)) e j)

-- a list with no repeat below 8 and none from 8 up has none
contains-kept : (p : ℕ → Bool) (x : ℕ) (xs : List ℕ) → p x ≡ true → contains x (filter p xs) ≡ contains x xs
unfolding contains any filter
contains-kept p x [] h = refl
contains-kept p x (y ∷ ys) h = go (p y) (eqb x y) refl refl (contains-kept p x ys h)
  where
    go : (b t : Bool) → p y ≡ b → eqb x y ≡ t → contains x (filter p ys) ≡ contains x ys → contains x (cons_if (p y) y (filter p ys)) ≡ eqb x y || contains x ys
    go true t a e i = rw (a, i)
    go false true a e i = let z : false ≡ true = sym a ∙ ap p (sym (eqb-true x y e)) ∙ h in cc
    go false false a e i = rw (a, e, i)

unique-split : (p : ℕ → Bool) (l : List ℕ) → unique (filter p l) ≡ true → unique (filter (λ x. not (p x)) l) ≡ true → unique l ≡ true
unfolding unique filter
unique-split p [] a b = refl
unique-split p (x ∷ xs) a b = go (p x) refl a b (λ a b. unique-split p xs a b)
  where
    go : (t : Bool) → p x ≡ t → unique (cons_if (p x) x (filter p xs)) ≡ true → unique (cons_if (not (p x)) x (filter (λ x. not (p x)) xs)) ≡ true
        → (unique (filter p xs) ≡ true → unique (filter (λ x. not (p x)) xs) ≡ true → unique xs ≡ true) → not (contains x xs) && unique xs ≡ true
    go true e a b k =
        let a' : not (contains x (filter p xs)) && unique (filter p xs) ≡ true = rw e at a in
        let b' : unique (filter (λ x. not (p x)) xs) ≡ true = rw e at b in
        let i = and-inv (not (contains x (filter p xs))) (unique (filter p xs)) a' in
        let f : not (contains x xs) ≡ true = rw (contains-kept p x xs e) at i.0 in
        rw (f, k i.1 b')
    go false e a b k =
        let a' : unique (filter p xs) ≡ true = rw e at a in
        let b' : not (contains x (filter (λ x. not (p x)) xs)) && unique (filter (λ x. not (p x)) xs) ≡ true = rw e at b in
        let i = and-inv (not (contains x (filter (λ x. not (p x)) xs))) (unique (filter (λ x. not (p x)) xs)) b' in
        let f : not (contains x xs) ≡ true = rw (contains-kept (λ x. not (p x)) x xs (ap not e)) at i.0 in
        rw (f, k a' i.1)

contains-run : (x n k : ℕ) → x < n → contains x (run n k) ≡ false
unfolding contains any run
contains-run x n zero h = refl
contains-run x n (suc k) h = rw (ne_eqb x n (λ e. omega arith), contains-run x (suc n) k (omega arith))

unique-run : (n k : ℕ) → unique (run n k) ≡ true
unfolding unique run
unique-run n zero = refl
unique-run n (suc k) = rw (contains-run n (suc n) k (omega arith), unique-run (suc n) k)

ranges-split : (bs : List Binding) → Every Low bs → Split (variables bs) (variables bs) 8 0
unfolding Every
ranges-split [] s = split-nil 8
ranges-split (b ∷ bs) s = split-cons b.variable (variables bs) (variables bs) 8 0 s.0 (ranges-split bs s.1)

pub bound-once : (sh : Shape) (G : Guards) → ((v r : ℕ) → SaneGuard sh r (G v r)) → (q : Query) → Sound q → bound_once q ≡ true → bound_once (rewrite_query G q) ≡ true
unfolding bound_once bindings_q rewrite_query
bound-once sh G sane q s o =
    let ts = concat_map bindings_t q.targets in
    let cs = bindings q.condition in
    let n = 8 + new_for G ts in
    let i = numbered_ts sh G sane q.targets 8 s.low-targets (omega arith) in
    let j = numbered_rs sh G sane q.ranges n (new_for G cs) (variables cs) (rewrite G q.condition n) (omega arith) (numbered sh G sane q.condition n s.low-condition (omega arith)) in
    let ts' = concat_map bindings_t (rewrite_targets G q.targets 8) in
    let cs' = bindings (guard_ranges G q.ranges (n + new_for G cs) (rewrite G q.condition n)) in
    let e : (xs ys zs : List Binding) → variables xs ++ (variables ys ++ variables zs) ≡ variables (xs ++ (ys ++ zs)) = λ xs ys zs. ap (λ l. variables xs ++ l) (sym (map-append (λ (b : Binding). b.variable) ys zs)) ∙ sym (map-append (λ (b : Binding). b.variable) xs (ys ++ zs)) in
    let k = split-append _ _ _ _ 8 0 _ (ranges-split q.ranges s.low-ranges) (split-append _ _ _ _ 8 (new_for G ts) _ i j) in
    let lows' : filter low (variables (q.ranges ++ (ts' ++ cs'))) ≡ variables (q.ranges ++ (ts ++ cs)) = ap (filter low) (sym (e q.ranges ts' cs')) ∙ k.lows ∙ e q.ranges ts cs in
    let highs' = ap (filter high) (sym (e q.ranges ts' cs')) ∙ k.highs in
    unique-split low (variables (q.ranges ++ (ts' ++ cs'))) (ap unique lows' ∙ o) (ap unique highs' ∙ unique-run 8 _)
