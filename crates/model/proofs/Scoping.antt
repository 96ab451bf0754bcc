-- Check 32's scope test as a fact, and what follows from it: truth depends on the variables in reach alone.
use Prim.Native.Nat.{ℕ, ◌<◌}
use mathlib.Core.Bool.{Bool, true, false, not, ◌&&◌, ◌||◌}
use mathlib.Core.List.{map}
use mathlib.Core.Option.{Option, none, some}
use mathlib.Core.Path.{◌≡◌, refl, ap, ap₂, fun_ext}
use native.Mathlib.Omega.{arith}
use lib.Dec.{eqb, ltb}
use lib.ListN.{length}
use borrow.Author.Tests.{lt-ltb, ltb-true}
use Rattle.model.specs.Lists.{update, filter, any}
use Rattle.model.specs.Syntax.{Condition, Term, TRUE, FALSE, NOT, AND, OR, COMPARE, SOME, CONSTANT, ATTRIBUTE, AGGREGATE}
use Rattle.model.specs.Meaning.{Tuple, Assignment, Rows, whole, compare, aggregate, holds, value, holds_with}
use Rattle.model.specs.Catalogue.{Shape, attributes_at}
use Rattle.model.specs.Scope.{Scope, nobody, known_attribute, known_binding, in_scope, in_scope_t}
use Rattle.model.proofs.Tests.{clash, and-inv, and_intro}

module _ (sh : Shape) (limit : ℕ) where
  unfoldable mutual
    pub InScope : Condition → Scope → Type 0
    InScope TRUE σ = Unit
    InScope FALSE σ = Unit
    InScope (NOT c) σ = InScope c σ
    InScope (AND c d) σ = InScope c σ × InScope d σ
    InScope (OR c d) σ = InScope c σ × InScope d σ
    InScope (COMPARE o s t) σ = InScopeT s σ × InScopeT t σ
    InScope (SOME v r c) σ = (v < limit) × (r < length sh) × InScope c (update σ v (some r))

    pub InScopeT : Term → Scope → Type 0
    InScopeT (CONSTANT a b c d) σ = Unit
    InScopeT (ATTRIBUTE v a) σ = (r : ℕ) × (σ v ≡ some r) × (a < attributes_at sh r)
    InScopeT (AGGREGATE f v r a c) σ = (v < limit) × (r < length sh) × (a < attributes_at sh r) × InScope c (update nobody v (some r))

module _ (sh : Shape) (limit : ℕ) where
  att-fact : (o : Option ℕ) (a : ℕ) → known_attribute sh o a ≡ true → (r : ℕ) × (o ≡ some r) × (a < attributes_at sh r)
  unfolding known_attribute
  att-fact none a h = clash h
  att-fact (some r) a h = (r, refl, ltb-true a (attributes_at sh r) h)

  att-test : (o : Option ℕ) (a r : ℕ) → o ≡ some r → a < attributes_at sh r → known_attribute sh o a ≡ true
  unfolding known_attribute
  att-test o a r e h = rw e (lt-ltb a (attributes_at sh r) h)

  mutual
    unfolding in_scope InScope known_binding

    pub in-fact : (c : Condition) (σ : Scope) → in_scope sh limit c σ ≡ true → InScope sh limit c σ
    in-fact TRUE σ h = tt
    in-fact FALSE σ h = tt
    in-fact (NOT c) σ h = in-fact c σ h
    in-fact (AND c d) σ h = let i = and-inv (in_scope sh limit c σ) (in_scope sh limit d σ) h in (in-fact c σ i.0, in-fact d σ i.1)
    in-fact (OR c d) σ h = let i = and-inv (in_scope sh limit c σ) (in_scope sh limit d σ) h in (in-fact c σ i.0, in-fact d σ i.1)
    in-fact (COMPARE o s t) σ h = let i = and-inv (in_scope_t sh limit s σ) (in_scope_t sh limit t σ) h in (in-fact_t s σ i.0, in-fact_t t σ i.1)
    in-fact (SOME v r c) σ h =
        let i = and-inv (ltb v limit && ltb r (length sh)) (in_scope sh limit c (update σ v (some r))) h in
        let j = and-inv (ltb v limit) (ltb r (length sh)) i.0 in
        (ltb-true v limit j.0, ltb-true r (length sh) j.1, in-fact c (update σ v (some r)) i.1)

    pub in-fact_t : (t : Term) (σ : Scope) → in_scope_t sh limit t σ ≡ true → InScopeT sh limit t σ
    in-fact_t (CONSTANT a b c d) σ h = tt
    in-fact_t (ATTRIBUTE v a) σ h = att-fact (σ v) a h
    in-fact_t (AGGREGATE f v r a c) σ h =
        let i = and-inv (ltb v limit && ltb r (length sh)) (ltb a (attributes_at sh r) && in_scope sh limit c (update nobody v (some r))) h in
        let j = and-inv (ltb v limit) (ltb r (length sh)) i.0 in
        let k = and-inv (ltb a (attributes_at sh r)) (in_scope sh limit c (update nobody v (some r))) i.1 in
        (ltb-true v limit j.0, ltb-true r (length sh) j.1, ltb-true a (attributes_at sh r) k.0, in-fact c (update nobody v (some r)) k.1)

  mutual
    unfolding in_scope InScope known_binding

    pub in-test : (c : Condition) (σ : Scope) → InScope sh limit c σ → in_scope sh limit c σ ≡ true
    in-test TRUE σ h = refl
    in-test FALSE σ h = refl
    in-test (NOT c) σ h = in-test c σ h
    in-test (AND c d) σ h = and_intro (in_scope sh limit c σ) (in_scope sh limit d σ) (in-test c σ h.0) (in-test d σ h.1)
    in-test (OR c d) σ h = and_intro (in_scope sh limit c σ) (in_scope sh limit d σ) (in-test c σ h.0) (in-test d σ h.1)
    in-test (COMPARE o s t) σ h = and_intro (in_scope_t sh limit s σ) (in_scope_t sh limit t σ) (in-test_t s σ h.0) (in-test_t t σ h.1)
    in-test (SOME v r c) σ h = rw (lt-ltb v limit h.0, lt-ltb r (length sh) h.1) (in-test c (update σ v (some r)) h.2)

    pub in-test_t : (t : Term) (σ : Scope) → InScopeT sh limit t σ → in_scope_t sh limit t σ ≡ true
    in-test_t (CONSTANT a b c d) σ h = refl
    in-test_t (ATTRIBUTE v a) σ h = att-test (σ v) a h.0 h.1 h.2
    in-test_t (AGGREGATE f v r a c) σ h = rw (lt-ltb v limit h.0, lt-ltb r (length sh) h.1, lt-ltb a (attributes_at sh r) h.2) (in-test c (update nobody v (some r)) h.3)

-- e and e' agree where σ reaches
abbrev pub Alike : Scope → Assignment → Assignment → Type 0
Alike σ e e' = (w r : ℕ) → σ w ≡ some r → e w ≡ e' w

pub alike-upd : (σ : Scope) (e e' : Assignment) (v q : ℕ) (row : Tuple) → Alike σ e e' → Alike (update σ v (some q)) (update e v row) (update e' v row)
alike-upd σ e e' v q row h w r k = go (eqb w v) refl
  where
    go : (b : Bool) → eqb w v ≡ b → update e v row w ≡ update e' v row w
    go true p = rw p
    go false p = rw p (h w r (rw p at k))

pub alike-nobody : (e e' : Assignment) → Alike nobody e e'
alike-nobody e e' w r k = let z : ◌≡◌ {A = ℕ} 0 1 = cc in absurd (omega arith)

module _ (sh : Shape) (limit : ℕ) (R : Rows) where
  mutual
    unfolding holds_with InScope

    pub alike-holds : (c : Condition) (σ : Scope) (e e' : Assignment) → InScope sh limit c σ → Alike σ e e' → holds c R e ≡ holds c R e'
    alike-holds TRUE σ e e' k h = refl
    alike-holds FALSE σ e e' k h = refl
    alike-holds (NOT c) σ e e' k h = ap not (alike-holds c σ e e' k h)
    alike-holds (AND c d) σ e e' k h = ap₂ ◌&&◌ (alike-holds c σ e e' k.0 h) (alike-holds d σ e e' k.1 h)
    alike-holds (OR c d) σ e e' k h = ap₂ ◌||◌ (alike-holds c σ e e' k.0 h) (alike-holds d σ e e' k.1 h)
    alike-holds (COMPARE o s t) σ e e' k h = ap₂ (compare o) (alike-value s σ e e' k.0 h) (alike-value t σ e e' k.1 h)
    alike-holds (SOME v r c) σ e e' k h = ap (λ (f : Tuple → Bool). any f (R v r)) (fun_ext λ row. alike-holds c (update σ v (some r)) (update e v row) (update e' v row) k.2 (alike-upd σ e e' v r row h))

    pub alike-value : (t : Term) (σ : Scope) (e e' : Assignment) → InScopeT sh limit t σ → Alike σ e e' → value t R e ≡ value t R e'
    alike-value (CONSTANT x y z w) σ e e' k h = refl
    alike-value (ATTRIBUTE v a) σ e e' k h = ap (λ (row : Tuple). some (whole (row a))) (h v k.0 k.1)
    alike-value (AGGREGATE f v r a c) σ e e' k h = ap (λ (p : Tuple → Bool). aggregate f (map (λ (row : Tuple). row a) (filter p (R v r)))) (fun_ext λ row. alike-holds c (update nobody v (some r)) (update e v row) (update e' v row) k.3 (alike-upd nobody e e' v r row (alike-nobody e e')))
