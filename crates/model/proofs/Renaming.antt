-- A permit's condition, copied for a variable, holds exactly if the permit's own condition holds of that variable's row.
use Prim.Native.Nat.{ℕ, suc, ◌+◌, ◌<◌}
use mathlib.Core.Bool.{Bool, true, false, not, cond, ◌&&◌, ◌||◌}
use mathlib.Core.List.{List, [], ◌∷◌, map}
use mathlib.Core.Option.{none, some}
use mathlib.Core.Path.{◌≡◌, refl, sym, ◌∙◌, ap, ap₂, fun_ext}
use native.Mathlib.Omega.{arith}
use lib.Dec.{eqb}
use lib.ListN.{length}
use borrow.Author.Tests.{eq-eqb, ne_eqb, eqb-true, eqb-false}
use Rattle.model.specs.Lists.{update, filter, any, contains, unique, index_of, Every}
use Rattle.model.specs.Syntax.{Condition, Term, TRUE, FALSE, NOT, AND, OR, COMPARE, SOME, CONSTANT, ATTRIBUTE, AGGREGATE, Binding, bindings, bindings_t, variables}
use Rattle.model.specs.Meaning.{Tuple, Assignment, whole, compare, aggregate, holds, value, unbound, holds_with}
use Rattle.model.specs.Catalogue.{Shape, all_rows}
use Rattle.model.specs.Permits.{meets}
use Rattle.model.specs.Rewriting.{rename, rename_t, new_number, copy_for}
use Rattle.model.specs.Scope.{nobody}
use Rattle.model.proofs.Tests.{clash, and-inv, or_no, not_yes}
use Rattle.model.proofs.Lists.{every_append, every_map, every-both}
use Rattle.model.proofs.Scoping.{InScope, alike-holds}

pub update_same : {A : Type 0} (e : ℕ → A) (v : ℕ) (x : A) → update e v x v ≡ x
update_same e v x = rw (eq-eqb v v refl)

pub update_other : {A : Type 0} (e : ℕ → A) (v w : ℕ) (x : A) → (w ≡ v → ⊥) → update e v x w ≡ e w
update_other e v w x h = rw (ne_eqb w v h)

-- ρ gives no other variable the number of a bound one
abbrev pub Apart : (ℕ → ℕ) → Binding → Type 0
Apart ρ b = (w : ℕ) → ρ w ≡ ρ b.variable → w ≡ b.variable

pub update-renamed : {A : Type 0} (ρ : ℕ → ℕ) (e e' : ℕ → A) (v : ℕ) (x : A) → ((w : ℕ) → ρ w ≡ ρ v → w ≡ v) → ((w : ℕ) → e w ≡ e' (ρ w)) → (w : ℕ) → update e v x w ≡ update e' (ρ v) x (ρ w)
update-renamed ρ e e' v x a h w = go (eqb w v) refl
  where
    go : (b : Bool) → eqb w v ≡ b → update e v x w ≡ update e' (ρ v) x (ρ w)
    go true p = rw (p, eq-eqb (ρ w) (ρ v) (ap ρ (eqb-true w v p)))
    go false p = rw (p, ne_eqb (ρ w) (ρ v) (λ q. eqb-false w v p (a w q))) (h w)

module _ (D : ℕ → List Tuple) (ρ : ℕ → ℕ) where
  mutual
    unfolding holds_with rename bindings Every

    pub rename-holds : (c : Condition) (e e' : Assignment) → Every (Apart ρ) (bindings c) → ((w : ℕ) → e w ≡ e' (ρ w)) → holds (rename ρ c) (all_rows D) e' ≡ holds c (all_rows D) e
    rename-holds TRUE e e' a h = refl
    rename-holds FALSE e e' a h = refl
    rename-holds (NOT c) e e' a h = ap not (rename-holds c e e' a h)
    rename-holds (AND c d) e e' a h = let i = every_append (Apart ρ) (bindings c) (bindings d) a in ap₂ ◌&&◌ (rename-holds c e e' i.0 h) (rename-holds d e e' i.1 h)
    rename-holds (OR c d) e e' a h = let i = every_append (Apart ρ) (bindings c) (bindings d) a in ap₂ ◌||◌ (rename-holds c e e' i.0 h) (rename-holds d e e' i.1 h)
    rename-holds (COMPARE o s t) e e' a h = let i = every_append (Apart ρ) (bindings_t s) (bindings_t t) a in ap₂ (compare o) (rename-value s e e' i.0 h) (rename-value t e e' i.1 h)
    rename-holds (SOME v r c) e e' a h =
        ap (λ (f : Tuple → Bool). any f (D r))
        (fun_ext λ x. rename-holds c (update e v x) (update e' (ρ v) x) a.1 (update-renamed ρ e e' v x a.0 h))

    pub rename-value : (t : Term) (e e' : Assignment) → Every (Apart ρ) (bindings_t t) → ((w : ℕ) → e w ≡ e' (ρ w)) → value (rename_t ρ t) (all_rows D) e' ≡ value t (all_rows D) e
    rename-value (CONSTANT a b c d) e e' k h = refl
    rename-value (ATTRIBUTE v a) e e' k h = ap (λ (x : Tuple). some (whole (x a))) (sym (h v))
    rename-value (AGGREGATE f v r a c) e e' k h =
        ap (λ (p : Tuple → Bool). aggregate f (map (λ (x : Tuple). x a) (filter p (D r))))
        (fun_ext λ x. rename-holds c (update e v x) (update e' (ρ v) x) k.1 (update-renamed ρ e e' v x k.0 h))

-- places in a list
pub index_same : (xs : List ℕ) (x w : ℕ) → contains x xs ≡ true → index_of w xs ≡ index_of x xs → w ≡ x
unfolding contains any index_of
index_same [] x w c h = clash c
index_same (y ∷ ys) x w c h = go (eqb x y) (eqb w y) refl refl (λ c h. index_same ys x w c h)
  where
    go : (a b : Bool) → eqb x y ≡ a → eqb w y ≡ b → (contains x ys ≡ true → index_of w ys ≡ index_of x ys → w ≡ x) → w ≡ x
    go true true p q k = eqb-true w y q ∙ sym (eqb-true x y p)
    go true false p q k = let h' : suc (index_of w ys) ≡ 0 = rw (p, q) at h in absurd (omega arith)
    go false true p q k = let h' : 0 ≡ suc (index_of x ys) = rw (p, q) at h in absurd (omega arith)
    go false false p q k = let h' : suc (index_of w ys) ≡ suc (index_of x ys) = rw (p, q) at h in k (rw p at c) (omega arith)

pub every-contained : (bs : List Binding) → Every (λ (b : Binding). contains b.variable (variables bs) ≡ true) bs
unfolding Every contains any
every-contained [] = tt
every-contained (b ∷ bs) = (rw (eq-eqb b.variable b.variable refl), every_map _ _ (λ c h. more c h) bs (every-contained bs))
  where
    more : (c : Binding) → contains c.variable (variables bs) ≡ true → contains c.variable (variables (b ∷ bs)) ≡ true
    more c h = go (eqb c.variable b.variable) h
      where
        go : (t : Bool) → any (λ x. eqb c.variable x) (variables bs) ≡ true → t || any (λ x. eqb c.variable x) (variables bs) ≡ true
        go true h = refl
        go false h = h

pub every-other : (v : ℕ) (bs : List Binding) → contains v (variables bs) ≡ false → Every (λ (b : Binding). v ≡ b.variable → ⊥) bs
unfolding Every contains any
every-other v [] h = tt
every-other v (b ∷ bs) h = let i = or_no (eqb v b.variable) (contains v (variables bs)) h in (eqb-false v b.variable i.0, every-other v bs i.1)

pub length-variables : (bs : List Binding) → length (variables bs) ≡ length bs
length-variables [] = refl
length-variables (b ∷ bs) = ap suc (length-variables bs)

-- what check 22 gives of a permit over relation r
pub record Sane (sh : Shape) (r : ℕ) (c : Condition) : Type 0 where
  pub scope : InScope sh 4 c (update nobody 0 (some r))
  pub alone : unique (0 ∷ variables (bindings c)) ≡ true

pub copy_apart : (c : Condition) (v n : ℕ) → unique (0 ∷ variables (bindings c)) ≡ true → v < n → Every (Apart (new_number c v n)) (bindings c)
unfolding unique new_number
copy_apart c v n u l =
    let i = and-inv (not (contains 0 (variables (bindings c)))) (unique (variables (bindings c))) u in
    every_map _ _ (λ b h w e. go b h.0 h.1 w e (eqb w 0) refl) (bindings c)
    (every-both _ _ (bindings c) (every-contained (bindings c)) (every-other 0 (bindings c) (not_yes (contains 0 (variables (bindings c))) i.0)))
  where
    vs : List ℕ
    vs = variables (bindings c)

    go : (b : Binding) → contains b.variable vs ≡ true → (0 ≡ b.variable → ⊥) → (w : ℕ) → new_number c v n w ≡ new_number c v n b.variable → (t : Bool) → eqb w 0 ≡ t → w ≡ b.variable
    go b k z w e t p =
        let e₁ : new_number c v n w ≡ n + index_of b.variable vs = e ∙ rw (ne_eqb b.variable 0 (λ q. z (sym q))) in
        case t e₁ p
      where
        case : (t : Bool) → cond (eqb w 0) v (n + index_of w vs) ≡ n + index_of b.variable vs → eqb w 0 ≡ t → w ≡ b.variable
        case true e₁ p = let f : v ≡ n + index_of b.variable vs = rw p at e₁ in absurd (omega arith)
        case false e₁ p = let f : n + index_of w vs ≡ n + index_of b.variable vs = rw p at e₁ in index_same vs b.variable w k (omega arith)

pub copy_holds : (sh : Shape) (D : ℕ → List Tuple) (c : Condition) (r v n : ℕ) (e : Assignment) → Sane sh r c → v < n → holds (copy_for c v n) (all_rows D) e ≡ meets D c (e v)
unfolding copy_for meets new_number
copy_holds sh D c r v n e s l =
    let ρ = new_number c v n in
    rename-holds D ρ c (λ w. e (ρ w)) e (copy_apart c v n s.alone l) (λ w. refl)
    ∙ alike-holds sh 4 (all_rows D) c (update nobody 0 (some r)) (λ w. e (ρ w)) (update unbound 0 (e v)) s.scope (λ w q k. go w q (eqb w 0) refl k)
  where
    go : (w q : ℕ) (b : Bool) → eqb w 0 ≡ b → update nobody 0 (some r) w ≡ some q → e (new_number c v n w) ≡ update unbound 0 (e v) w
    go w q true p k = rw p
    go w q false p k = let k' : none ≡ some q = rw p at k in let z : ◌≡◌ {A = ℕ} 0 1 = cc in absurd (omega arith)
