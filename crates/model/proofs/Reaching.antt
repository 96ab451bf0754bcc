-- The rewritten query passes the scope test at the plain evaluator's limit.
use Prim.Native.Nat.{ℕ, suc, ◌+◌, ◌<◌, ◌≤◌}
use mathlib.Core.Bool.{Bool, true, false, not, cond}
use mathlib.Core.List.{List, [], ◌∷◌}
use mathlib.Core.Option.{none, some}
use mathlib.Core.Path.{◌≡◌, refl, sym, ◌∙◌, ap}
use native.Mathlib.Omega.{arith}
use lib.Dec.{eqb}
use lib.ListN.{length}
use borrow.Author.Tests.{eq-eqb, ne_eqb, eqb-true, eqb-false}
use Rattle.model.specs.Lists.{update, any, concat_map, total, contains, unique, index_of, Every}
use Rattle.model.specs.Syntax.{Condition, Term, TRUE, FALSE, NOT, AND, OR, COMPARE, SOME, CONSTANT, ATTRIBUTE, AGGREGATE, Binding, bindings, bindings_t, variables}
use Rattle.model.specs.Permits.{Guard, free, only, Guards}
use Rattle.model.specs.Catalogue.{Shape}
use Rattle.model.specs.Rewriting.{rename, rename_t, new_number, copy_for, disjunction, new_in, guarded, new_for, rewrite, rewrite_t, rewrite_targets, guard_ranges}
use Rattle.model.specs.Scope.{Scope, nobody, range_scope}
use Rattle.model.proofs.Tests.{clash, and-inv, not_yes}
use Rattle.model.proofs.Lists.{every_append, every_map, every-both}
use Rattle.model.proofs.Scoping.{InScope, InScopeT}
use Rattle.model.proofs.Renaming.{update_same, update_other, Apart, Sane, copy_apart, every-contained, every-other, length-variables}
use Rattle.model.proofs.Permitted.{Low, Differ, SaneGuard}
use Rattle.model.proofs.Limits.{new_for-append, new_for-cons}

-- σ's variables, renamed by ρ, are in reach in σ' with the same relations
abbrev Maps : Scope → Scope → (ℕ → ℕ) → Type 0
Maps σ σ' ρ = (w r : ℕ) → σ w ≡ some r → σ' (ρ w) ≡ some r

maps-update : (σ σ' : Scope) (ρ : ℕ → ℕ) (v q : ℕ) → ((w : ℕ) → ρ w ≡ ρ v → w ≡ v) → Maps σ σ' ρ → Maps (update σ v (some q)) (update σ' (ρ v) (some q)) ρ
maps-update σ σ' ρ v q a h w r e = go (eqb w v) refl
  where
    go : (b : Bool) → eqb w v ≡ b → update σ' (ρ v) (some q) (ρ w) ≡ some r
    go true p = rw (eq-eqb (ρ w) (ρ v) (ap ρ (eqb-true w v p))) (rw p at e)
    go false p = rw (ne_eqb (ρ w) (ρ v) (λ z. eqb-false w v p (a w z))) (h w r (rw p at e))

no-maps : (σ' : Scope) (ρ : ℕ → ℕ) → Maps nobody σ' ρ
no-maps σ' ρ w r e = let z : ◌≡◌ {A = ℕ} 0 1 = cc in absurd (omega arith)

-- a renamed bound variable is apart from the others, and below the limit
abbrev Fresh : (ℕ → ℕ) → ℕ → Binding → Type 0
Fresh ρ limit b = Apart ρ b × (ρ b.variable < limit)

module _ (sh : Shape) (limit limit' : ℕ) (ρ : ℕ → ℕ) where
  mutual
    unfolding InScope rename bindings Every

    rename-scope : (c : Condition) (σ σ' : Scope) → Maps σ σ' ρ → Every (Fresh ρ limit') (bindings c) → InScope sh limit c σ → InScope sh limit' (rename ρ c) σ'
    rename-scope TRUE σ σ' m f h = tt
    rename-scope FALSE σ σ' m f h = tt
    rename-scope (NOT c) σ σ' m f h = rename-scope c σ σ' m f h
    rename-scope (AND c d) σ σ' m f h = let i = every_append (Fresh ρ limit') (bindings c) (bindings d) f in (rename-scope c σ σ' m i.0 h.0, rename-scope d σ σ' m i.1 h.1)
    rename-scope (OR c d) σ σ' m f h = let i = every_append (Fresh ρ limit') (bindings c) (bindings d) f in (rename-scope c σ σ' m i.0 h.0, rename-scope d σ σ' m i.1 h.1)
    rename-scope (COMPARE o s t) σ σ' m f h = let i = every_append (Fresh ρ limit') (bindings_t s) (bindings_t t) f in (rename-scope_t s σ σ' m i.0 h.0, rename-scope_t t σ σ' m i.1 h.1)
    rename-scope (SOME v r c) σ σ' m f h = (f.0.1, h.1, rename-scope c (update σ v (some r)) (update σ' (ρ v) (some r)) (maps-update σ σ' ρ v r f.0.0 m) f.1 h.2)

    rename-scope_t : (t : Term) (σ σ' : Scope) → Maps σ σ' ρ → Every (Fresh ρ limit') (bindings_t t) → InScopeT sh limit t σ → InScopeT sh limit' (rename_t ρ t) σ'
    rename-scope_t (CONSTANT a b c d) σ σ' m f h = tt
    rename-scope_t (ATTRIBUTE v a) σ σ' m f h = (h.0, m v h.0 h.1, h.2)
    rename-scope_t (AGGREGATE g v r a c) σ σ' m f h =
        (f.0.1, h.1, h.2, rename-scope c (update nobody v (some r)) (update nobody (ρ v) (some r)) (maps-update nobody nobody ρ v r f.0.0 (no-maps nobody ρ)) f.1 h.3)

index_below : (x : ℕ) (xs : List ℕ) → contains x xs ≡ true → index_of x xs < length xs
unfolding contains any index_of
index_below x [] h = clash h
index_below x (y ∷ ys) h = go (eqb x y) refl (λ k. index_below x ys k)
  where
    go : (b : Bool) → eqb x y ≡ b → (contains x ys ≡ true → index_of x ys < length ys) → cond (eqb x y) 0 (suc (index_of x ys)) < suc (length ys)
    go true p k = rw p (omega arith)
    go false p k = rw p (omega (arith, k (rw p at h)))

copy-fresh : (c : Condition) (v n limit : ℕ) → unique (0 ∷ variables (bindings c)) ≡ true → v < n → n + length (bindings c) ≤ limit → Every (Fresh (new_number c v n) limit) (bindings c)
unfolding unique new_number
copy-fresh c v n limit u l m =
    let vs = variables (bindings c) in
    let i = and-inv (not (contains 0 vs)) (unique vs) u in
    let k = every-both _ _ (bindings c) (every-contained (bindings c)) (every-other 0 (bindings c) (not_yes (contains 0 vs) i.0)) in
    every-both (Apart (new_number c v n)) (λ b. new_number c v n b.variable < limit) (bindings c) (copy_apart c v n u l)
    (every_map _ (λ b. new_number c v n b.variable < limit) (λ b h. rw (ne_eqb b.variable 0 (λ e. h.1 (sym e))) (omega (arith, index_below b.variable vs h.0, length-variables (bindings c)))) (bindings c) k)

module _ (sh : Shape) where
  copy-scope : (c : Condition) (r v n : ℕ) (σ : Scope) → Sane sh r c → σ v ≡ some r → v < n → n + length (bindings c) ≤ 200 → InScope sh 200 (copy_for c v n) σ
  unfolding copy_for new_number
  copy-scope c r v n σ s e l m = rename-scope sh 4 200 (new_number c v n) c (update nobody 0 (some r)) σ (λ w q h. go w q h (eqb w 0) refl) (copy-fresh c v n 200 s.alone l m) s.scope
    where
      go : (w q : ℕ) → update nobody 0 (some r) w ≡ some q → (b : Bool) → eqb w 0 ≡ b → σ (new_number c v n w) ≡ some q
      go w q h true p = rw p (e ∙ (rw p at h))
      go w q h false p = let h' : none ≡ some q = rw p at h in let z : ◌≡◌ {A = ℕ} 0 1 = cc in absurd (omega arith)

  disjunction-scope : (cs : List Condition) (r v n : ℕ) (σ : Scope) → Every (Sane sh r) cs → σ v ≡ some r → v < n → n + total (λ c. length (bindings c)) cs ≤ 200 → InScope sh 200 (disjunction cs v n) σ
  unfolding Every disjunction total InScope
  disjunction-scope [] r v n σ s e l m = tt
  disjunction-scope (c ∷ []) r v n σ s e l m = copy-scope c r v n σ s.0 e l (omega arith)
  disjunction-scope (c ∷ d ∷ ds) r v n σ s e l m = (copy-scope c r v n σ s.0 e l (omega arith), disjunction-scope (d ∷ ds) r v (n + length (bindings c)) σ s.1 e (omega arith) (omega arith))

  guarded-scope : (g : Guard) (r v n : ℕ) (c : Condition) (σ : Scope) → SaneGuard sh r g → σ v ≡ some r → v < n → n + new_in g ≤ 200 → InScope sh 200 c σ → InScope sh 200 (guarded g v n c) σ
  unfolding guarded SaneGuard new_in InScope
  guarded-scope free r v n c σ s e l m k = k
  guarded-scope (only cs) r v n c σ s e l m k = (k, disjunction-scope cs r v n σ s e l m)

  module _ (G : Guards) (sane : (v r : ℕ) → SaneGuard sh r (G v r)) where
    mutual
      unfolding InScope rewrite bindings

      pub rewrite-scope : (c : Condition) (n : ℕ) (σ : Scope) → 8 ≤ n → n + new_for G (bindings c) ≤ 200 → InScope sh 8 c σ → InScope sh 200 (rewrite G c n) σ
      rewrite-scope TRUE n σ a b h = tt
      rewrite-scope FALSE n σ a b h = tt
      rewrite-scope (NOT c) n σ a b h = rewrite-scope c n σ a b h
      rewrite-scope (AND c d) n σ a b h = let k = new_for-append G (bindings c) (bindings d) in (rewrite-scope c n σ a (omega arith) h.0, rewrite-scope d (n + new_for G (bindings c)) σ (omega arith) (omega arith) h.1)
      rewrite-scope (OR c d) n σ a b h = let k = new_for-append G (bindings c) (bindings d) in (rewrite-scope c n σ a (omega arith) h.0, rewrite-scope d (n + new_for G (bindings c)) σ (omega arith) (omega arith) h.1)
      rewrite-scope (COMPARE o s t) n σ a b h = let k = new_for-append G (bindings_t s) (bindings_t t) in (rewrite-scope_t s n σ a (omega arith) h.0, rewrite-scope_t t (n + new_for G (bindings_t s)) σ (omega arith) (omega arith) h.1)
      rewrite-scope (SOME v r c) n σ a b h =
          let k = new_for-cons G v r (bindings c) in
          (omega arith, h.1, guarded-scope (G v r) r v (n + new_for G (bindings c)) (rewrite G c n) (update σ v (some r)) (sane v r) (update_same σ v (some r)) (omega arith) (omega arith) (rewrite-scope c n (update σ v (some r)) a (omega arith) h.2))

      pub rewrite-scope_t : (t : Term) (n : ℕ) (σ : Scope) → 8 ≤ n → n + new_for G (bindings_t t) ≤ 200 → InScopeT sh 8 t σ → InScopeT sh 200 (rewrite_t G t n) σ
      rewrite-scope_t (CONSTANT x y z w) n σ a b h = tt
      rewrite-scope_t (ATTRIBUTE v x) n σ a b h = h
      rewrite-scope_t (AGGREGATE f v r x c) n σ a b h =
          let k = new_for-cons G v r (bindings c) in
          (omega arith, h.1, h.2, guarded-scope (G v r) r v (n + new_for G (bindings c)) (rewrite G c n) (update nobody v (some r)) (sane v r) (update_same nobody v (some r)) (omega arith) (omega arith) (rewrite-scope c n (update nobody v (some r)) a (omega arith) h.3))

    pub targets-scope : (ts : List Term) (n : ℕ) (σ : Scope) → 8 ≤ n → n + new_for G (concat_map bindings_t ts) ≤ 200 → Every (λ t. InScopeT sh 8 t σ) ts → Every (λ t. InScopeT sh 200 t σ) (rewrite_targets G ts n)
    unfolding rewrite_targets concat_map Every
    targets-scope [] n σ a b h = tt
    targets-scope (t ∷ ts) n σ a b h =
        let k = new_for-append G (bindings_t t) (concat_map bindings_t ts) in
        (rewrite-scope_t t n σ a (omega arith) h.0, targets-scope ts (n + new_for G (bindings_t t)) σ (omega arith) (omega arith) h.1)

    pub ranges-scope : (bs : List Binding) (n : ℕ) (c : Condition) (σ : Scope) → Every Low bs → Every (λ (b : Binding). σ b.variable ≡ some b.relation) bs → 8 ≤ n → n + new_for G bs ≤ 200 → InScope sh 200 c σ → InScope sh 200 (guard_ranges G bs n c) σ
    unfolding guard_ranges Every
    ranges-scope [] n c σ s i a b h = h
    ranges-scope (x ∷ bs) n c σ s i a b h =
        let g = G x.variable x.relation in
        let k = new_for-cons G x.variable x.relation bs in
        ranges-scope bs (n + new_in g) (guarded g x.variable n c) σ s.1 i.1 (omega arith) (omega arith)
        (guarded-scope g x.relation x.variable n c σ (sane x.variable x.relation) i.0 (omega (arith, s.0)) (omega arith) h)

-- range variables are in reach of their own scope
pub ranges-reach : (bs : List Binding) → Differ bs → Every (λ (b : Binding). range_scope bs b.variable ≡ some b.relation) bs
unfolding Every Differ range_scope
ranges-reach [] d = tt
ranges-reach (b ∷ bs) d =
    (update_same (range_scope bs) b.variable (some b.relation), every_map _ _ (λ c h. update_other (range_scope bs) b.variable c.variable (some b.relation) (λ e. h.0 (sym e)) ∙ h.1) bs (every-both _ _ bs d.0 (ranges-reach bs d.1)))
