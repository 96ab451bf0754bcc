-- A memo that was filled for a query gives the model's meaning: each aggregate is closed, and its variable is its own.
use mathlib.Core.Path.{◌≡◌, refl, sym, ap, ap₂, ◌∙◌, fun_ext, subst}
use mathlib.Core.Bool.{Bool, true, false, not, ◌&&◌, ◌||◌}
use mathlib.Core.List.{List, [], ◌∷◌, ◌++◌, map, append-nil}
use mathlib.Core.Option.{some}
use Prim.Native.Nat.{ℕ, ◌+◌, ◌-◌, ◌*◌, ◌≤◌, ◌<◌}
use native.Mathlib.Omega.{arith}
use lib.IntN.{ℤ, pos, nat_abs}
use lib.ListN.{length, get_or, set, length-set}
use lib.Seq.{get_or-set_same, get_or-set_other}
use Rattle.model.specs.Lists.{update, filter, any, concat_map, unique, Every}
use Rattle.model.specs.Syntax.{Condition, Term, TRUE, FALSE, NOT, AND, OR, COMPARE, SOME, CONSTANT, ATTRIBUTE, AGGREGATE, Binding, Query, bindings, bindings_t, bindings_q, variables}
use Rattle.model.proofs.Lists.{every_append, every_map}
use Rattle.model.proofs.Permitted.{Differ}
use Rattle.model.specs.Meaning.{Tuple, Assignment, Rows, Value, aggregate, compare, holds, value, holds_with}
use Rattle.model.specs.Scope.{Scope, nobody, range_scope, bound_once}
use Rattle.model.proofs.Passed.{Scoped, ranges-differ}
use Rattle.model.specs.Catalogue.{Shape}
use Rattle.model.proofs.Scoping.{InScope, InScopeT, alike-nobody, alike-value}
use Rattle.model.proofs.Tests.{clash}
use Rattle.numbers.specs.Numbers.{fraction}
use Rattle.numbers.specs.Memo.{knows, recalled, remembered, numerator_at, mark_at, numerator_of, mark_of}
use Rattle.numbers.proofs.Memo.{Keeps, keeps-aggregate}
use Rattle.numbers.specs.Recalled.{holds_by, value_by}
use Rattle.aggregates.specs.Filled.{filled_c, filled_t, filled_ts}

-- what the memo knows of the aggregates of a condition is their value
module _ (m : List ℤ) (R : Rows) where
  unfoldable mutual
    pub Faithful : Condition → Type 0
    Faithful TRUE = Unit
    Faithful FALSE = Unit
    Faithful (NOT c) = Faithful c
    Faithful (AND c d) = Faithful c × Faithful d
    Faithful (OR c d) = Faithful c × Faithful d
    Faithful (COMPARE o s t) = FaithfulT s × FaithfulT t
    Faithful (SOME v r c) = Faithful c

    pub FaithfulT : Term → Type 0
    FaithfulT (CONSTANT a b c d) = Unit
    FaithfulT (ATTRIBUTE v a) = Unit
    FaithfulT (AGGREGATE f v r a c) = Faithful c × (knows m v ≡ true → (e : Assignment) → recalled m v ≡ value (AGGREGATE f v r a c) R e)

  mutual
    unfolding Faithful holds_with

    pub faithful-holds : (c : Condition) → Faithful c → (e : Assignment) → holds_by m c R e ≡ holds c R e
    faithful-holds TRUE h e = refl
    faithful-holds FALSE h e = refl
    faithful-holds (NOT c) h e = ap not (faithful-holds c h e)
    faithful-holds (AND c d) h e = ap₂ ◌&&◌ (faithful-holds c h.0 e) (faithful-holds d h.1 e)
    faithful-holds (OR c d) h e = ap₂ ◌||◌ (faithful-holds c h.0 e) (faithful-holds d h.1 e)
    faithful-holds (COMPARE o s t) h e = ap₂ (compare o) (faithful-value s h.0 e) (faithful-value t h.1 e)
    faithful-holds (SOME v r c) h e = ap (λ (f : Tuple → Bool). any f (R v r)) (fun_ext λ x. faithful-holds c h (update e v x))

    pub faithful-value : (t : Term) → FaithfulT t → (e : Assignment) → value_by m t R e ≡ value t R e
    faithful-value (CONSTANT a b c d) h e = refl
    faithful-value (ATTRIBUTE v a) h e = refl
    faithful-value (AGGREGATE f v r a c) h e = by-known (knows m v) refl h.1 (λ x. faithful-holds c h.0 (update e v x))
      where
        by-known : (b : Bool) → knows m v ≡ b → (knows m v ≡ true → (e : Assignment) → recalled m v ≡ value (AGGREGATE f v r a c) R e)
            → ((x : Tuple) → holds_by m c R (update e v x) ≡ holds c R (update e v x)) → value_by m (AGGREGATE f v r a c) R e ≡ value (AGGREGATE f v r a c) R e
        by-known true k g ih = rw k (g k e)
        by-known false k g ih = rw k (ap (λ (p : Tuple → Bool). aggregate f (map (λ (x : Tuple). x a) (filter p (R v r)))) (fun_ext ih))

-- two memos that are alike at a variable
pub record Same (m n : List ℤ) (v : ℕ) : Type 0 where
  pub numerator : numerator_at n v ≡ numerator_at m v
  pub mark : mark_at n v ≡ mark_at m v

same : (m : List ℤ) (v : ℕ) → Same m m v
same m v = record { numerator = refl; mark = refl }

same-trans : (m n o : List ℤ) (v : ℕ) → Same m n v → Same n o v → Same m o v
same-trans m n o v h k = record { numerator = k.numerator ∙ h.numerator; mark = k.mark ∙ h.mark }

same-knows : (m n : List ℤ) (v : ℕ) → Same m n v → knows n v ≡ knows m v
unfolding knows
same-knows m n v h = rw (h.numerator, h.mark)

same-recalled : (m n : List ℤ) (v : ℕ) → Same m n v → recalled n v ≡ recalled m v
unfolding recalled
same-recalled m n v h = rw (h.numerator, h.mark)

other-same : (m : List ℤ) (v w : ℕ) (x : Value) → (v ≡ w → ⊥) → Same m (remembered m w x) v
unfolding remembered
other-same m v w x h =
    record {
      numerator = get_or-set_other (set m (2 * w) (numerator_of x)) (2 * w + 1) (2 * v) (mark_of x) (pos 0) (λ e. omega arith) ∙ get_or-set_other m (2 * w) (2 * v) (numerator_of x) (pos 0) (λ e. h (omega arith));
      mark = get_or-set_other (set m (2 * w) (numerator_of x)) (2 * w + 1) (2 * v + 1) (mark_of x) (pos 0) (λ e. h (omega arith)) ∙ get_or-set_other m (2 * w) (2 * v + 1) (numerator_of x) (pos 0) (λ e. omega arith);
    }

recalled-same : (m : List ℤ) (v : ℕ) (x : Value) → 2 * v + 1 < length m → Keeps x → recalled (remembered m v x) v ≡ x
unfolding recalled remembered
recalled-same m v x h k =
    let n : List ℤ = set m (2 * v) (numerator_of x) in
    let l : 2 * v + 1 < length n = omega (arith, length-set m (2 * v) (numerator_of x)) in
    ap₂ (λ (i j : ℤ). fraction i (nat_abs j - 1))
    (get_or-set_other n (2 * v + 1) (2 * v) (mark_of x) (pos 0) (λ e. omega arith) ∙ get_or-set_same m (2 * v) (numerator_of x) (pos 0) (omega arith))
    (get_or-set_same n (2 * v + 1) (mark_of x) (pos 0) l)
    ∙ k

keeps-value : (f v r a : ℕ) (c : Condition) (R : Rows) (e : Assignment) → Keeps (value (AGGREGATE f v r a c) R e)
unfolding holds_with
keeps-value f v r a c R e = keeps-aggregate f _

-- v is no variable of these bindings
abbrev pub Other : ℕ → List Binding → Type 0
Other v bs = Every (λ (b : Binding). v ≡ b.variable → ⊥) bs

tail_of : (b : Binding) (bs : List Binding) (v : ℕ) → Other v (b ∷ bs) → (v ≡ b.variable → ⊥) × Other v bs
unfolding Every
tail_of b bs v h = h

length-remembered : (m : List ℤ) (v : ℕ) (x : Value) → length (remembered m v x) ≡ length m
unfolding remembered
length-remembered m v x = length-set (set m (2 * v) (numerator_of x)) (2 * v + 1) (mark_of x) ∙ length-set m (2 * v) (numerator_of x)

module _ (R : Rows) (e : Assignment) where
  mutual
    unfolding filled_c bindings

    same-filled : (c : Condition) (m : List ℤ) (v : ℕ) → Other v (bindings c) → Same m (filled_c c R e m) v
    same-filled TRUE m v h = same m v
    same-filled FALSE m v h = same m v
    same-filled (NOT c) m v h = same-filled c m v h
    same-filled (AND c d) m v h = let i = every_append _ (bindings c) (bindings d) h in same-trans m (filled_c c R e m) _ v (same-filled c m v i.0) (same-filled d (filled_c c R e m) v i.1)
    same-filled (OR c d) m v h = let i = every_append _ (bindings c) (bindings d) h in same-trans m (filled_c c R e m) _ v (same-filled c m v i.0) (same-filled d (filled_c c R e m) v i.1)
    same-filled (COMPARE o s t) m v h = let i = every_append _ (bindings_t s) (bindings_t t) h in same-trans m (filled_t s R e m) _ v (same-filled_t s m v i.0) (same-filled_t t (filled_t s R e m) v i.1)
    same-filled (SOME w r c) m v h = same-filled c m v (tail_of (record { variable = w; relation = r }) (bindings c) v h).1

    same-filled_t : (t : Term) (m : List ℤ) (v : ℕ) → Other v (bindings_t t) → Same m (filled_t t R e m) v
    same-filled_t (CONSTANT a b c d) m v h = same m v
    same-filled_t (ATTRIBUTE w a) m v h = same m v
    same-filled_t (AGGREGATE f w r a c) m v h =
        let i = tail_of (record { variable = w; relation = r }) (bindings c) v h in
        same-trans m (filled_c c R e m) _ v (same-filled c m v i.1) (other-same (filled_c c R e m) v w _ i.0)

    length-filled : (c : Condition) (m : List ℤ) → length (filled_c c R e m) ≡ length m
    length-filled TRUE m = refl
    length-filled FALSE m = refl
    length-filled (NOT c) m = length-filled c m
    length-filled (AND c d) m = length-filled d (filled_c c R e m) ∙ length-filled c m
    length-filled (OR c d) m = length-filled d (filled_c c R e m) ∙ length-filled c m
    length-filled (COMPARE o s t) m = length-filled_t t (filled_t s R e m) ∙ length-filled_t s m
    length-filled (SOME w r c) m = length-filled c m

    length-filled_t : (t : Term) (m : List ℤ) → length (filled_t t R e m) ≡ length m
    length-filled_t (CONSTANT a b c d) m = refl
    length-filled_t (ATTRIBUTE w a) m = refl
    length-filled_t (AGGREGATE f w r a c) m = length-remembered (filled_c c R e m) w _ ∙ length-filled c m

-- what stays where other entries change
module _ (R : Rows) (m n : List ℤ) where
  mutual
    unfolding Faithful bindings Every

    kept : (c : Condition) → Every (λ (b : Binding). Same m n b.variable) (bindings c) → Faithful m R c → Faithful n R c
    kept TRUE s h = tt
    kept FALSE s h = tt
    kept (NOT c) s h = kept c s h
    kept (AND c d) s h = let i = every_append _ (bindings c) (bindings d) s in (kept c i.0 h.0, kept d i.1 h.1)
    kept (OR c d) s h = let i = every_append _ (bindings c) (bindings d) s in (kept c i.0 h.0, kept d i.1 h.1)
    kept (COMPARE o a b) s h = let i = every_append _ (bindings_t a) (bindings_t b) s in (kept_t a i.0 h.0, kept_t b i.1 h.1)
    kept (SOME v r c) s h = kept c s.1 h

    kept_t : (t : Term) → Every (λ (b : Binding). Same m n b.variable) (bindings_t t) → FaithfulT m R t → FaithfulT n R t
    kept_t (CONSTANT a b c d) s h = tt
    kept_t (ATTRIBUTE v a) s h = tt
    kept_t (AGGREGATE f v r a c) s h = (kept c s.1 h.0, λ k e. same-recalled m n v s.0 ∙ h.1 (sym (same-knows m n v s.0) ∙ k) e)

-- variables of two lists of bindings that differ
differ-append : (bs cs : List Binding) → Differ (bs ++ cs) → Differ bs × Differ cs × Every (λ (b : Binding). Other b.variable cs) bs
unfolding Differ Every
differ-append [] cs h = (tt, h, tt)
differ-append (b ∷ bs) cs h = let i = every_append _ bs cs h.0 in let j = differ-append bs cs h.1 in ((i.0, j.0), j.1, (i.1, j.2))

-- the other way round
firsts : (c : Binding) (cs bs : List Binding) → Every (λ (b : Binding). Other b.variable (c ∷ cs)) bs → Other c.variable bs × Every (λ (b : Binding). Other b.variable cs) bs
unfolding Every
firsts c cs [] h = (tt, tt)
firsts c cs (b ∷ bs) h = let i = firsts c cs bs h.1 in ((λ (e : c.variable ≡ b.variable). h.0.0 (sym e), i.0), (h.0.1, i.1))

apart : (bs cs : List Binding) → Every (λ (b : Binding). Other b.variable cs) bs → Every (λ (c : Binding). Other c.variable bs) cs
unfolding Every
apart bs [] h = tt
apart bs (c ∷ cs) h = let i = firsts c cs bs h in (i.0, apart bs cs i.1)

-- nothing is known of these variables
abbrev pub Unknown : List ℤ → List Binding → Type 0
Unknown m bs = Every (λ (b : Binding). knows m b.variable ≡ false) bs

still-unknown : (m n : List ℤ) (bs : List Binding) → Every (λ (b : Binding). Same m n b.variable) bs → Unknown m bs → Unknown n bs
unfolding Every
still-unknown m n [] s u = tt
still-unknown m n (b ∷ bs) s u = (same-knows m n b.variable s.0 ∙ u.0, still-unknown m n bs s.1 u.1)

same-each : (m n : List ℤ) (bs cs : List Binding) → ((v : ℕ) → Other v cs → Same m n v) → Every (λ (b : Binding). Other b.variable cs) bs → Every (λ (b : Binding). Same m n b.variable) bs
same-each m n bs cs f h = every_map (λ (b : Binding). Other b.variable cs) (λ (b : Binding). Same m n b.variable) (λ (b : Binding) (o : Other b.variable cs). f b.variable o) bs h

-- one part filled after the other: what the second needs, and what it leaves of the first
pub record Halves (m m₁ m₂ : List ℤ) (bs cs : List Binding) : Type 0 where
  pub differ₁ : Differ bs
  pub unknown₁ : Unknown m bs
  pub differ₂ : Differ cs
  pub unknown₂ : Unknown m₁ cs
  pub left : Every (λ (b : Binding). Same m₁ m₂ b.variable) bs

halves : (m m₁ m₂ : List ℤ) (bs cs : List Binding) → Differ (bs ++ cs) → Unknown m (bs ++ cs) → ((v : ℕ) → Other v bs → Same m m₁ v) → ((v : ℕ) → Other v cs → Same m₁ m₂ v) → Halves m m₁ m₂ bs cs
halves m m₁ m₂ bs cs d u f g =
    let i = differ-append bs cs d in
    let j = every_append _ bs cs u in
    record { differ₁ = i.0; unknown₁ = j.0; differ₂ = i.1; unknown₂ = still-unknown m m₁ cs (same-each m m₁ cs bs f (apart bs cs i.2)) j.1; left = same-each m₁ m₂ bs cs g i.2 }

others : (m : List ℤ) (v : ℕ) (x : Value) (bs : List Binding) → Other v bs → Every (λ (b : Binding). Same m (remembered m v x) b.variable) bs
unfolding Every
others m v x [] h = tt
others m v x (b ∷ bs) h = (other-same m b.variable v x (λ (q : b.variable ≡ v). h.0 (sym q)), others m v x bs h.1)

module _ (sh : Shape) (limit : ℕ) (R : Rows) (e : Assignment) where
  mutual
    unfolding filled_c Faithful bindings Differ Every InScope

    pub filled-faithful : (c : Condition) (σ : Scope) (m : List ℤ) → InScope sh limit c σ → Differ (bindings c) → Unknown m (bindings c) → 2 * limit ≤ length m → Faithful (filled_c c R e m) R c
    filled-faithful TRUE σ m k d u l = tt
    filled-faithful FALSE σ m k d u l = tt
    filled-faithful (NOT c) σ m k d u l = filled-faithful c σ m k d u l
    filled-faithful (AND c b) σ m k d u l =
        let m₁ = filled_c c R e m in
        let h = halves m m₁ (filled_c b R e m₁) (bindings c) (bindings b) d u (same-filled R e c m) (same-filled R e b m₁) in
        (kept R m₁ (filled_c b R e m₁) c h.left (filled-faithful c σ m k.0 h.differ₁ h.unknown₁ l), filled-faithful b σ m₁ k.1 h.differ₂ h.unknown₂ (omega (arith, length-filled R e c m)))
    filled-faithful (OR c b) σ m k d u l =
        let m₁ = filled_c c R e m in
        let h = halves m m₁ (filled_c b R e m₁) (bindings c) (bindings b) d u (same-filled R e c m) (same-filled R e b m₁) in
        (kept R m₁ (filled_c b R e m₁) c h.left (filled-faithful c σ m k.0 h.differ₁ h.unknown₁ l), filled-faithful b σ m₁ k.1 h.differ₂ h.unknown₂ (omega (arith, length-filled R e c m)))
    filled-faithful (COMPARE o s t) σ m k d u l =
        let m₁ = filled_t s R e m in
        let h = halves m m₁ (filled_t t R e m₁) (bindings_t s) (bindings_t t) d u (same-filled_t R e s m) (same-filled_t R e t m₁) in
        (kept_t R m₁ (filled_t t R e m₁) s h.left (filled-faithful_t s σ m k.0 h.differ₁ h.unknown₁ l), filled-faithful_t t σ m₁ k.1 h.differ₂ h.unknown₂ (omega (arith, length-filled_t R e s m)))
    filled-faithful (SOME v r c) σ m k d u l = filled-faithful c (update σ v (some r)) m k.2 d.1 u.1 l

    pub filled-faithful_t : (t : Term) (σ : Scope) (m : List ℤ) → InScopeT sh limit t σ → Differ (bindings_t t) → Unknown m (bindings_t t) → 2 * limit ≤ length m → FaithfulT (filled_t t R e m) R t
    filled-faithful_t (CONSTANT a b c d) σ m k d' u l = tt
    filled-faithful_t (ATTRIBUTE v a) σ m k d u l = tt
    filled-faithful_t (AGGREGATE f v r a c) σ m k d u l =
        let t = AGGREGATE f v r a c in
        let m₁ = filled_c c R e m in
        let x = value_by m₁ t R e in
        let m₂ = remembered m₁ v x in
        let inner = filled-faithful c (update nobody v (some r)) m k.3 d.1 u.1 l in
        let fresh : knows m₁ v ≡ false = same-knows m m₁ v (same-filled R e c m v d.0) ∙ u.0 in
        let exact : x ≡ value t R e = faithful-value m₁ R t (inner, λ h. clash (sym fresh ∙ h)) e in (
          kept R m₁ m₂ c (others m₁ v x (bindings c) d.0) inner,
          λ h e'. recalled-same m₁ v x (omega (arith, k.0, length-filled R e c m)) (subst Keeps (sym exact) (keeps-value f v r a c R e)) ∙ exact ∙ alike-value sh limit R t nobody e e' k (alike-nobody e e'),
        )

-- the targets of a query, one after the other
module _ (R : Rows) (e : Assignment) where
  same-filled_ts : (ts : List Term) (m : List ℤ) (v : ℕ) → Other v (concat_map bindings_t ts) → Same m (filled_ts ts R e m) v
  unfolding filled_ts concat_map
  same-filled_ts [] m v h = same m v
  same-filled_ts (t ∷ ts) m v h =
      let i = every_append _ (bindings_t t) (concat_map bindings_t ts) h in
      same-trans m (filled_t t R e m) (filled_ts ts R e (filled_t t R e m)) v (same-filled_t R e t m v i.0) (same-filled_ts ts (filled_t t R e m) v i.1)

  length-filled_ts : (ts : List Term) (m : List ℤ) → length (filled_ts ts R e m) ≡ length m
  unfolding filled_ts
  length-filled_ts [] m = refl
  length-filled_ts (t ∷ ts) m = length-filled_ts ts (filled_t t R e m) ∙ length-filled_t R e t m

kept_ts : (R : Rows) (m n : List ℤ) (ts : List Term) → Every (λ (b : Binding). Same m n b.variable) (concat_map bindings_t ts) → Every (FaithfulT m R) ts → Every (FaithfulT n R) ts
unfolding Every concat_map
kept_ts R m n [] s h = tt
kept_ts R m n (t ∷ ts) s h = let i = every_append _ (bindings_t t) (concat_map bindings_t ts) s in (kept_t R m n t i.0 h.0, kept_ts R m n ts i.1 h.1)

module _ (sh : Shape) (limit : ℕ) (R : Rows) (e : Assignment) where
  filled-faithful_ts : (ts : List Term) (σ : Scope) (m : List ℤ) → Every (λ t. InScopeT sh limit t σ) ts → Differ (concat_map bindings_t ts) → Unknown m (concat_map bindings_t ts) → 2 * limit ≤ length m
      → Every (FaithfulT (filled_ts ts R e m) R) ts
  unfolding filled_ts Every concat_map
  filled-faithful_ts [] σ m k d u l = tt
  filled-faithful_ts (t ∷ ts) σ m k d u l =
      let m₁ = filled_t t R e m in
      let h = halves m m₁ (filled_ts ts R e m₁) (bindings_t t) (concat_map bindings_t ts) d u (same-filled_t R e t m) (same-filled_ts R e ts m₁) in (
        kept_t R m₁ (filled_ts ts R e m₁) t h.left (filled-faithful_t sh limit R e t σ m k.0 h.differ₁ h.unknown₁ l),
        filled-faithful_ts ts σ m₁ k.1 h.differ₂ h.unknown₂ (omega (arith, length-filled_t R e t m)),
      )

-- a memo with nothing in it
empty-unknown : (m : List ℤ) → ((i : ℕ) → get_or m i (pos 0) ≡ pos 0) → (bs : List Binding) → Unknown m bs
unfolding Every knows
empty-unknown m h [] = tt
empty-unknown m h (b ∷ bs) = (rw (h (2 * b.variable), h (2 * b.variable + 1)), empty-unknown m h bs)

-- a whole query that passed check 32
pub record FaithfulQ (m : List ℤ) (R : Rows) (q : Query) : Type 0 where
  pub targets : Every (FaithfulT m R) q.targets
  pub condition : Faithful m R q.condition

pub query-faithful : (sh : Shape) (limit : ℕ) (q : Query) (R : Rows) (e : Assignment) (m : List ℤ) → Scoped sh limit q → ((i : ℕ) → get_or m i (pos 0) ≡ pos 0) → 2 * limit ≤ length m
    → FaithfulQ (filled_c q.condition R e (filled_ts q.targets R e m)) R q
unfolding bound_once bindings_q
query-faithful sh limit q R e m s z l =
    let ts = concat_map bindings_t q.targets in
    let cs = bindings q.condition in
    let all-differ : Differ (q.ranges ++ (ts ++ cs)) = ranges-differ (q.ranges ++ (ts ++ cs)) [] (ap (λ (x : List Binding). unique (variables x)) (append-nil (q.ranges ++ (ts ++ cs))) ∙ s.once) in
    let m₁ = filled_ts q.targets R e m in
    let m₂ = filled_c q.condition R e m₁ in
    let h = halves m m₁ m₂ ts cs (differ-append q.ranges (ts ++ cs) all-differ).1 (empty-unknown m z (ts ++ cs)) (same-filled_ts R e q.targets m) (same-filled R e q.condition m₁) in
    record {
      targets = kept_ts R m₁ m₂ q.targets h.left (filled-faithful_ts sh limit R e q.targets (range_scope q.ranges) m s.targets h.differ₁ h.unknown₁ l);
      condition = filled-faithful sh limit R e q.condition (range_scope q.ranges) m₁ s.condition h.differ₂ h.unknown₂ (omega (arith, length-filled_ts R e q.targets m));
    }
