-- Nested loops that try each stage as early as they can find the assignments that meet all stages.
use Prim.Native.Nat.{ℕ, zero, suc, ◌+◌, ◌*◌, ◌≤◌}
use native.Mathlib.Omega.{arith}
use native.Mathlib.Nat.{zero-add}
use native.Mathlib.Numerals.{add-one}
use mathlib.Core.Bool.{Bool, true, false, cond, ◌&&◌}
use mathlib.Core.List.{List, [], ◌∷◌, ◌++◌}
use mathlib.Core.Path.{◌≡◌, refl, sym, ◌∙◌, ap, ap₂, subst}
use lib.Dec.{eqb}
use lib.IntN.{ℤ}
use lib.ListN.{length, drop}
use lib.Seq.{drop-drop}
use Rattle.model.specs.Lists.{update, cons_if, filter, all, concat_map, contains, any, below, Every}
use Rattle.model.specs.Syntax.{Condition, Binding, variables}
use Rattle.model.specs.Meaning.{Tuple, Assignment, Rows, assignments}
use Rattle.model.proofs.Lists.{filter-concat_map, filter-const, every-join, every_map}
use Rattle.model.proofs.Tests.{or_no}
use Rattle.sizes.specs.Parts.{ranges_at}
use Rattle.numbers.specs.Recalled.{holds_by}
use Rattle.walks.specs.Walks.{rows_by}
use Rattle.conjuncts.proofs.Below.{and-and, all-last}
use Rattle.conjuncts.specs.Stages.{stage_holds, stages_hold, Extends, Steady, Planned}
use Rattle.odometer.specs.Staged.{staged_from, depth_holds}
use Rattle.odometer.specs.declared.Plan.{Plan}
use Rattle.odometer.specs.Plan.{rows_of, rows_from}

-- n + 1 tests, from test d on
unfoldable pub depths : (ℕ → Bool) → ℕ → ℕ → Bool
depths t d zero = t d
depths t d (suc n) = t d && depths t (suc d) n

module _ {A : Type 0} where
  filter-cong : (p q : A → Bool) (xs : List A) → Every (λ x. p x ≡ q x) xs → filter p xs ≡ filter q xs
  unfolding filter Every
  filter-cong p q [] h = refl
  filter-cong p q (x ∷ xs) h = ap₂ (λ (b : Bool) (l : List A). cons_if b x l) h.0 (filter-cong p q xs h.1)

  filter_same : (p q : A → Bool) → ((x : A) → p x ≡ q x) → (xs : List A) → filter p xs ≡ filter q xs
  unfolding filter
  filter_same p q h [] = refl
  filter_same p q h (x ∷ xs) = ap₂ (λ (b : Bool) (l : List A). cons_if b x l) (h x) (filter_same p q h xs)

concat_map-cong : {A B : Type 0} (f g : A → List B) → ((x : A) → f x ≡ g x) → (xs : List A) → concat_map f xs ≡ concat_map g xs
unfolding concat_map
concat_map-cong f g h [] = refl
concat_map-cong f g h (x ∷ xs) = ap₂ ◌++◌ (h x) (concat_map-cong f g h xs)

every-concat_map : {A B : Type 0} (P : B → Type 0) (f : A → List B) → ((x : A) → Every P (f x)) → (xs : List A) → Every P (concat_map f xs)
unfolding concat_map Every
every-concat_map P f h [] = tt
every-concat_map P f h (x ∷ xs) = every-join P (f x) (concat_map f xs) (h x) (every-concat_map P f h xs)

-- an assignment of the ranges differs from the first one at their variables only
step-extends : (e e' : Assignment) (v : ℕ) (x : Tuple) (b : Binding) (bs : List Binding) → v ≡ b.variable → Extends bs (update e v x) e' → Extends (b ∷ bs) e e'
unfolding contains any
step-extends e e' v x b bs ev h w k = let i = or_no (eqb w b.variable) (contains w (variables bs)) k in let j : eqb w v ≡ false = ap (eqb w) ev ∙ i.0 in sym (rw j) ∙ h w i.1

extended : (bs : List Binding) (R : Rows) (e : Assignment) → Every (Extends bs e) (assignments bs R e)
unfolding assignments Every
extended [] R e = ((λ w h. refl), tt)
extended (b ∷ bs) R e =
    every-concat_map (Extends (b ∷ bs) e) (λ x. assignments bs R (update e b.variable x))
    (λ x. every_map (Extends bs (update e b.variable x)) (Extends (b ∷ bs) e) (λ e' h. step-extends e e' b.variable x b bs refl h) (assignments bs R (update e b.variable x)) (extended bs R (update e b.variable x)))
    (R b.variable b.relation)

-- each test looks at bound variables only
unfoldable pub Stable : (ℕ → Assignment → Bool) → ℕ → List Binding → Type 0
Stable T d [] = Unit
Stable T d (b ∷ bs) = ((e e' : Assignment) → Extends (b ∷ bs) e e' → T d e' ≡ T d e) × Stable T (suc d) bs

pub staged-all : (T : ℕ → Assignment → Bool) (R : Rows) (d : ℕ) (bs : List Binding) (e : Assignment) → Stable T d bs
    → staged_from T d bs R e ≡ filter (λ a. depths (λ s. T s a) d (length bs)) (assignments bs R e)
unfolding staged_from depths Stable assignments filter
staged-all T R d [] e h = go (T d e)
  where
    go : (b : Bool) → cond b (e ∷ []) [] ≡ cons_if b e []
    go true = refl
    go false = refl
staged-all T R d (b ∷ bs) e h =
    let F : Assignment → Bool = λ a. depths (λ s. T s a) (suc d) (length bs) in
    let es = assignments (b ∷ bs) R e in
    let same : filter (λ a. T d a && F a) es ≡ filter (λ a. F a && T d e) es = filter-cong (λ a. T d a && F a) (λ a. F a && T d e) es
    (every_map (Extends (b ∷ bs) e) (λ a. T d a && F a ≡ F a && T d e) (λ a x. ap (λ c. c && F a) (h.0 e a x) ∙ swap (T d e) (F a)) es (extended (b ∷ bs) R e)) in
    let inner : (x : Tuple) → staged_from T (suc d) bs R (update e b.variable x) ≡ filter F (assignments bs R (update e b.variable x)) = λ x. staged-all T R (suc d) bs (update e b.variable x) h.1 in
    ap (λ l. cond (T d e) l [])
    (concat_map-cong (λ x. staged_from T (suc d) bs R (update e b.variable x)) (λ x. filter F (assignments bs R (update e b.variable x))) inner (R b.variable b.relation)
    ∙ sym (filter-concat_map F (λ x. assignments bs R (update e b.variable x)) (R b.variable b.relation)))
    ∙ sym (same ∙ filter-const F (T d e) es)
  where
    swap : (a c : Bool) → a && c ≡ c && a
    swap true true = refl
    swap true false = refl
    swap false true = refl
    swap false false = refl

-- Two stages at each depth.
abbrev both : (ℕ → Bool) → ℕ → Bool
both g d = g (2 * d) && g (2 * d + 1)

all-below : (g : ℕ → Bool) (n : ℕ) → all g (below (suc n)) ≡ all g (below n) && g n
unfolding below
all-below g n = all-last g (below n) n

-- one depth more is two stages more
two-more : (g : ℕ → Bool) (d : ℕ) → all g (below (2 * d)) && both g d ≡ all g (below (2 * suc d))
two-more g d =
    sym
    (ap (λ (k : ℕ). all g (below k)) (twice d)
    ∙ all-below g (suc (2 * d))
    ∙ ap (λ (b : Bool). b && g (suc (2 * d))) (all-below g (2 * d))
    ∙ and-and (all g (below (2 * d))) (g (2 * d)) (g (suc (2 * d)))
    ∙ ap (λ (k : ℕ). all g (below (2 * d)) && (g (2 * d) && g k)) (sym (add-one (2 * d))))
  where
    twice : (d : ℕ) → 2 * suc d ≡ suc (suc (2 * d))
    twice d = omega arith

depths-from : (g : ℕ → Bool) (d n : ℕ) → all g (below (2 * d)) && depths (both g) d n ≡ all g (below (2 * (d + n) + 2))
unfolding depths
depths-from g d zero = two-more g d ∙ ap (λ (k : ℕ). all g (below k)) (omega arith)
depths-from g d (suc n) =
    sym (and-and (all g (below (2 * d))) (both g d) (depths (both g) (suc d) n))
    ∙ ap (λ (b : Bool). b && depths (both g) (suc d) n) (two-more g d)
    ∙ depths-from g (suc d) n
    ∙ ap (λ (k : ℕ). all g (below k)) (omega arith)

module _ (t q z ws : List ℕ) (vs m : List ℤ) where
  -- the stages of all depths are all stages
  depths-all : (n : ℕ) (e : Assignment) → depths (λ d. depth_holds t q z ws vs m d e) 0 n ≡ stages_hold t q z ws vs m n e
  unfolding depth_holds stages_hold all below
  depths-all n e = depths-from (λ s. stage_holds t q z ws vs m s e) 0 n ∙ ap (λ (k : ℕ). all (λ s. stage_holds t q z ws vs m s e) (below (2 * k + 2))) (zero-add n)

  module _ (bs : List Binding) (steady : Steady t q z ws vs m bs) where
    depth-stable : (d : ℕ) (e e' : Assignment) → d ≤ length bs → Extends (drop d bs) e e' → depth_holds t q z ws vs m d e' ≡ depth_holds t q z ws vs m d e
    unfolding depth_holds
    depth-stable d e e' l x = ap₂ ◌&&◌ (steady (2 * d) d (omega arith) l e e' x) (steady (2 * d + 1) d (omega arith) l e e' x)

    suffix-stable : (d : ℕ) (cs : List Binding) → drop d bs ≡ cs → d + length cs ≡ length bs → Stable (depth_holds t q z ws vs m) d cs
    unfolding Stable
    suffix-stable d [] h l = tt
    suffix-stable d (c ∷ cs) h l = (
      (λ e e' x. depth-stable d e e' (omega arith) (subst (λ (k : List Binding). Extends k e e') (sym h) x)),
      suffix-stable (suc d) cs (ap (λ (k : ℕ). drop k bs) (sym (add-one d)) ∙ sym (drop-drop 1 d bs) ∙ ap (drop 1) h) (omega arith),
    )

-- so the stages of a planned condition, two at each depth, find the assignments that meet the condition
pub planned-rows : (t q z ws : List ℕ) (vs m : List ℤ) (c : Condition) (bs : List Binding) → Planned t q z ws vs m c bs → (e : Assignment)
    → staged_from (depth_holds t q z ws vs m) 0 bs (rows_by ws vs) e ≡ filter (holds_by m c (rows_by ws vs)) (assignments bs (rows_by ws vs) e)
planned-rows t q z ws vs m c bs p e =
    staged-all (depth_holds t q z ws vs m) (rows_by ws vs) 0 bs e (suffix-stable t q z ws vs m bs p.steady 0 bs refl (omega arith))
    ∙ filter_same (λ a. depths (λ d. depth_holds t q z ws vs m d a) 0 (length bs)) (holds_by m c (rows_by ws vs)) (λ a. depths-all t q z ws vs m (length bs) a ∙ p.whole a) (assignments bs (rows_by ws vs) e)

-- what the odometer finds for a planned condition, from its start
pub rows-planned : (p : Plan) (t q z ws : List ℕ) (vs m : List ℤ) (c : Condition) → p.depth ≡ 0 → Planned t q z ws vs m c (ranges_at p.left q) → (e : Assignment)
    → rows_from p t q z ws vs m e ≡ rows_of p q z ws vs m (filter (holds_by m c (rows_by ws vs)) (assignments (ranges_at p.left q) (rows_by ws vs) e))
unfolding rows_from
rows-planned p t q z ws vs m c h w e =
    ap (λ (d : ℕ). rows_of p q z ws vs m (staged_from (depth_holds t q z ws vs m) d (ranges_at p.left (drop (3 * d) q)) (rows_by ws vs) e)) h
    ∙ ap (rows_of p q z ws vs m) (planned-rows t q z ws vs m c (ranges_at p.left q) w e)
