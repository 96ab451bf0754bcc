-- The rewritten query keeps within the plain evaluator's limits: bytes, levels, bound variables.
use Prim.Native.Nat.{ℕ, suc, ◌+◌, ◌*◌, ◌<◌, ◌≤◌, max}
use mathlib.Core.List.{List, [], ◌∷◌, ◌++◌}
use mathlib.Core.Path.{◌≡◌, refl, ap}
use native.Mathlib.Omega.{arith}
use lib.ListN.{length, length-append}
use Rattle.model.specs.Lists.{concat_map, total, Every}
use Rattle.model.specs.Syntax.{Condition, Term, TRUE, FALSE, NOT, AND, OR, COMPARE, SOME, CONSTANT, ATTRIBUTE, AGGREGATE, Binding, Query, WellFormed, WellFormedT, Targets, WellFormedQ, bindings, bindings_t, bindings_q, levels, levels_t, levels_ts, levels_q}
use Rattle.model.specs.Permits.{Guard, free, only, Guards}
use Rattle.model.specs.Rewriting.{rename, rename_t, new_number, copy_for, disjunction, new_in, guarded, new_for, rewrite, rewrite_t, rewrite_targets, guard_ranges, rewrite_query}
use Rattle.model.proofs.Lists.{total-append}
use Rattle.model.proofs.Sizes.{size, size_t, size_ts, size_q}

-- how many bindings there are, by recursion
unfoldable mutual
  pub binds : Condition → ℕ
  binds TRUE = 0
  binds FALSE = 0
  binds (NOT c) = binds c
  binds (AND c d) = binds c + binds d
  binds (OR c d) = binds c + binds d
  binds (COMPARE o s t) = binds_t s + binds_t t
  binds (SOME v r c) = suc (binds c)

  pub binds_t : Term → ℕ
  binds_t (CONSTANT a b c d) = 0
  binds_t (ATTRIBUTE v a) = 0
  binds_t (AGGREGATE f v r a c) = suc (binds c)

mutual
  unfolding binds bindings

  pub binds-length : (c : Condition) → length (bindings c) ≡ binds c
  binds-length TRUE = refl
  binds-length FALSE = refl
  binds-length (NOT c) = binds-length c
  binds-length (AND c d) = omega (arith, length-append (bindings c) (bindings d), binds-length c, binds-length d)
  binds-length (OR c d) = omega (arith, length-append (bindings c) (bindings d), binds-length c, binds-length d)
  binds-length (COMPARE o s t) = omega (arith, length-append (bindings_t s) (bindings_t t), binds-length_t s, binds-length_t t)
  binds-length (SOME v r c) = ap suc (binds-length c)

  pub binds-length_t : (t : Term) → length (bindings_t t) ≡ binds_t t
  binds-length_t (CONSTANT a b c d) = refl
  binds-length_t (ATTRIBUTE v a) = refl
  binds-length_t (AGGREGATE f v r a c) = ap suc (binds-length c)

pub new_for-append : (G : Guards) (xs ys : List Binding) → new_for G (xs ++ ys) ≡ new_for G xs + new_for G ys
unfolding new_for
new_for-append G xs ys = total-append _ xs ys

new_for-nil : (G : Guards) → new_for G [] ≡ 0
unfolding new_for total
new_for-nil G = refl

pub new_for-cons : (G : Guards) (v r : ℕ) (bs : List Binding) → new_for G (record { variable = v; relation = r } ∷ bs) ≡ new_in (G v r) + new_for G bs
unfolding new_for total
new_for-cons G v r bs = refl

-- a renamed condition has the same levels, bytes and bindings
pub record Like (c d : Condition) : Type 0 where
  pub deep : levels d ≡ levels c
  pub long : size d ≡ size c
  pub many : binds d ≡ binds c
  pub read : WellFormed c → WellFormed d

pub record LikeT (s t : Term) : Type 0 where
  pub deep : levels_t t ≡ levels_t s
  pub long : size_t t ≡ size_t s
  pub many : binds_t t ≡ binds_t s
  pub read : WellFormedT s → WellFormedT t

mutual
  unfolding rename levels size binds WellFormed

  pub rename-like : (c : Condition) (ρ : ℕ → ℕ) → Like c (rename ρ c)
  rename-like TRUE ρ = record { deep = refl; long = refl; many = refl; read = λ w. w }
  rename-like FALSE ρ = record { deep = refl; long = refl; many = refl; read = λ w. w }
  rename-like (NOT c) ρ =
      let i = rename-like c ρ in
      record { deep = omega arith; long = omega arith; many = omega arith; read = i.read }
  rename-like (AND c d) ρ =
      let i = rename-like c ρ in
      let j = rename-like d ρ in
      record { deep = omega arith; long = omega arith; many = omega arith; read = λ w. (i.read w.0, j.read w.1) }
  rename-like (OR c d) ρ =
      let i = rename-like c ρ in
      let j = rename-like d ρ in
      record { deep = omega arith; long = omega arith; many = omega arith; read = λ w. (i.read w.0, j.read w.1) }
  rename-like (COMPARE o s t) ρ =
      let i = rename-like_t s ρ in
      let j = rename-like_t t ρ in
      record { deep = omega arith; long = omega arith; many = omega arith; read = λ w. (w.0, i.read w.1, j.read w.2) }
  rename-like (SOME v r c) ρ =
      let i = rename-like c ρ in
      record { deep = omega arith; long = omega arith; many = omega arith; read = i.read }

  pub rename-like_t : (t : Term) (ρ : ℕ → ℕ) → LikeT t (rename_t ρ t)
  rename-like_t (CONSTANT a b c d) ρ = record { deep = refl; long = refl; many = refl; read = λ w. w }
  rename-like_t (ATTRIBUTE v a) ρ = record { deep = refl; long = refl; many = refl; read = λ w. w }
  rename-like_t (AGGREGATE f v r a c) ρ =
      let i = rename-like c ρ in
      record { deep = omega arith; long = omega arith; many = omega arith; read = λ w. (w.0, i.read w.1) }

-- a permit's condition within its limits
pub record Fine (c : Condition) : Type 0 where
  pub deep : levels c ≤ 16
  pub long : size c ≤ 252
  pub many : binds c ≤ 3
  pub read : WellFormed c

pub disjunction-fine : (cs : List Condition) (v n : ℕ) → Every Fine cs
    → (levels (disjunction cs v n) ≤ 15 + length cs) × (size (disjunction cs v n) < max 2 (length cs * 253)) × (binds (disjunction cs v n) ≡ total (λ c. length (bindings c)) cs) × (total (λ c. length (bindings c)) cs ≤ length cs * 3) × WellFormed (disjunction cs v n)
unfolding disjunction copy_for Every levels size binds total WellFormed
disjunction-fine [] v n h = (omega arith, omega arith, refl, omega arith, tt)
disjunction-fine (c ∷ []) v n h =
    let i = rename-like c (new_number c v n) in
    let f = h.0 in
    let b = binds-length c in
    (omega arith, omega arith, omega arith, omega arith, i.read f.read)
disjunction-fine (c ∷ d ∷ ds) v n h =
    let i = rename-like c (new_number c v n) in
    let f = h.0 in
    let b = binds-length c in
    let j = disjunction-fine (d ∷ ds) v (n + length (bindings c)) h.1 in
    (omega arith, omega arith, omega arith, omega arith, (i.read f.read, j.4))

-- a guard of at most eight such conditions
unfoldable pub Good : Guard → Type 0
Good free = Unit
Good (only cs) = Every Fine cs × (length cs ≤ 8)

pub record Put (g : Guard) (c d : Condition) : Type 0 where
  pub deep : levels d ≤ 1 + max (levels c) 23
  pub long : size d ≤ size c + 2024
  pub many : binds d ≡ binds c + new_in g
  pub few : new_in g ≤ 24
  pub read : WellFormed c → WellFormed d

pub guarded-put : (g : Guard) (v n : ℕ) (c : Condition) → Good g → Put g c (guarded g v n c)
unfolding guarded Good levels size binds new_in WellFormed
guarded-put free v n c h = record { deep = omega arith; long = omega arith; many = omega arith; few = omega arith; read = λ w. w }
guarded-put (only cs) v n c h =
    let i = disjunction-fine cs v n h.0 in
    let l = h.1 in
    record { deep = omega arith; long = omega arith; many = omega arith; few = omega arith; read = λ w. (w, i.4) }

-- the whole of a condition
pub record Fits (c d : Condition) (t : ℕ) : Type 0 where
  pub deep : levels d ≤ levels c + binds c + 22
  pub long : size d ≤ size c + 2024 * binds c
  pub many : binds d ≡ binds c + t
  pub few : t ≤ 24 * binds c
  pub read : WellFormed c → WellFormed d

pub record FitsT (c d : Term) (t : ℕ) : Type 0 where
  pub deep : levels_t d ≤ levels_t c + binds_t c + 22
  pub long : size_t d ≤ size_t c + 2024 * binds_t c
  pub many : binds_t d ≡ binds_t c + t
  pub few : t ≤ 24 * binds_t c
  pub read : WellFormedT c → WellFormedT d

mutual
  unfolding levels

  pub levels-pos : (c : Condition) → 1 ≤ levels c
  levels-pos TRUE = omega arith
  levels-pos FALSE = omega arith
  levels-pos (NOT c) = omega arith
  levels-pos (AND c d) = omega arith
  levels-pos (OR c d) = omega arith
  levels-pos (COMPARE o s t) = omega arith
  levels-pos (SOME v r c) = omega arith

  pub levels-pos_t : (t : Term) → 1 ≤ levels_t t
  levels-pos_t (CONSTANT a b c d) = omega arith
  levels-pos_t (ATTRIBUTE v a) = omega arith
  levels-pos_t (AGGREGATE f v r a c) = omega arith

module _ (G : Guards) (good : (v r : ℕ) → Good (G v r)) where
  mutual
    unfolding rewrite bindings levels size binds WellFormed

    pub rewrite-fits : (c : Condition) (n : ℕ) → Fits c (rewrite G c n) (new_for G (bindings c))
    rewrite-fits TRUE n = let k = new_for-nil G in record { deep = omega arith; long = omega arith; many = omega arith; few = omega arith; read = λ w. w }
    rewrite-fits FALSE n = let k = new_for-nil G in record { deep = omega arith; long = omega arith; many = omega arith; few = omega arith; read = λ w. w }
    rewrite-fits (NOT c) n =
        let i = rewrite-fits c n in
        record { deep = omega arith; long = omega arith; many = omega arith; few = omega arith; read = i.read }
    rewrite-fits (AND c d) n =
        let i = rewrite-fits c n in
        let j = rewrite-fits d (n + new_for G (bindings c)) in
        let k = new_for-append G (bindings c) (bindings d) in
        record { deep = omega arith; long = omega arith; many = omega arith; few = omega arith; read = λ w. (i.read w.0, j.read w.1) }
    rewrite-fits (OR c d) n =
        let i = rewrite-fits c n in
        let j = rewrite-fits d (n + new_for G (bindings c)) in
        let k = new_for-append G (bindings c) (bindings d) in
        record { deep = omega arith; long = omega arith; many = omega arith; few = omega arith; read = λ w. (i.read w.0, j.read w.1) }
    rewrite-fits (COMPARE o s t) n =
        let i = rewrite-fits_t s n in
        let j = rewrite-fits_t t (n + new_for G (bindings_t s)) in
        let k = new_for-append G (bindings_t s) (bindings_t t) in
        record { deep = omega arith; long = omega arith; many = omega arith; few = omega arith; read = λ w. (w.0, i.read w.1, j.read w.2) }
    rewrite-fits (SOME v r c) n =
        let i = rewrite-fits c n in
        let j = guarded-put (G v r) v (n + new_for G (bindings c)) (rewrite G c n) (good v r) in
        let p = levels-pos c in
        let k = new_for-cons G v r (bindings c) in
        record { deep = omega arith; long = omega arith; many = omega arith; few = omega arith; read = λ w. j.read (i.read w) }

    pub rewrite-fits_t : (t : Term) (n : ℕ) → FitsT t (rewrite_t G t n) (new_for G (bindings_t t))
    rewrite-fits_t (CONSTANT a b c d) n = let k = new_for-nil G in record { deep = omega arith; long = omega arith; many = omega arith; few = omega arith; read = λ w. w }
    rewrite-fits_t (ATTRIBUTE v a) n = let k = new_for-nil G in record { deep = omega arith; long = omega arith; many = omega arith; few = omega arith; read = λ w. w }
    rewrite-fits_t (AGGREGATE f v r a c) n =
        let i = rewrite-fits c n in
        let j = guarded-put (G v r) v (n + new_for G (bindings c)) (rewrite G c n) (good v r) in
        let p = levels-pos c in
        let k = new_for-cons G v r (bindings c) in
        record { deep = omega arith; long = omega arith; many = omega arith; few = omega arith; read = λ w. (w.0, j.read (i.read w.1)) }

-- targets, and the whole query
unfoldable pub binds_ts : List Term → ℕ
binds_ts [] = 0
binds_ts (t ∷ ts) = binds_t t + binds_ts ts

pub binds_ts-length : (ts : List Term) → length (concat_map bindings_t ts) ≡ binds_ts ts
unfolding binds_ts concat_map
binds_ts-length [] = refl
binds_ts-length (t ∷ ts) = omega (arith, length-append (bindings_t t) (concat_map bindings_t ts), binds-length_t t, binds_ts-length ts)

unfoldable pub binds_q : Query → ℕ
binds_q q = length q.ranges + binds_ts q.targets + binds q.condition

pub binds_q-length : (q : Query) → length (bindings_q q) ≡ binds_q q
unfolding binds_q bindings_q
binds_q-length q =
    omega (arith, length-append q.ranges (concat_map bindings_t q.targets ++ bindings q.condition), length-append (concat_map bindings_t q.targets) (bindings q.condition), binds_ts-length q.targets, binds-length q.condition)

pub record FitsTs (ts us : List Term) (t : ℕ) : Type 0 where
  pub deep : levels_ts us ≤ levels_ts ts + binds_ts ts + 22
  pub long : size_ts us ≤ size_ts ts + 2024 * binds_ts ts
  pub many : binds_ts us ≡ binds_ts ts + t
  pub few : t ≤ 24 * binds_ts ts
  pub read : Targets ts → Targets us
  pub all : length us ≡ length ts

module _ (G : Guards) (good : (v r : ℕ) → Good (G v r)) where
  pub rewrite-targets : (ts : List Term) (n : ℕ) → FitsTs ts (rewrite_targets G ts n) (new_for G (concat_map bindings_t ts))
  unfolding rewrite_targets concat_map levels_ts size_ts binds_ts Targets rewrite
  rewrite-targets [] n = let k = new_for-nil G in record { deep = omega arith; long = omega arith; many = omega arith; few = omega arith; read = λ w. w; all = refl }
  rewrite-targets (CONSTANT a b c d ∷ ts) n =
      let i = rewrite-fits_t G good (CONSTANT a b c d) n in
      let j = rewrite-targets ts (n + new_for G (bindings_t (CONSTANT a b c d))) in
      let k = new_for-append G (bindings_t (CONSTANT a b c d)) (concat_map bindings_t ts) in
      record { deep = omega arith; long = omega arith; many = omega arith; few = omega arith; read = λ w. w; all = ap suc j.all }
  rewrite-targets (ATTRIBUTE v a ∷ ts) n =
      let i = rewrite-fits_t G good (ATTRIBUTE v a) n in
      let j = rewrite-targets ts (n + new_for G (bindings_t (ATTRIBUTE v a))) in
      let k = new_for-append G (bindings_t (ATTRIBUTE v a)) (concat_map bindings_t ts) in
      record { deep = omega arith; long = omega arith; many = omega arith; few = omega arith; read = j.read; all = ap suc j.all }
  rewrite-targets (AGGREGATE f v r a c ∷ ts) n =
      let i = rewrite-fits_t G good (AGGREGATE f v r a c) n in
      let j = rewrite-targets ts (n + new_for G (bindings_t (AGGREGATE f v r a c))) in
      let k = new_for-append G (bindings_t (AGGREGATE f v r a c)) (concat_map bindings_t ts) in
      record { deep = omega arith; long = omega arith; many = omega arith; few = omega arith; read = λ w. (i.read w.0, j.read w.1); all = ap suc j.all }

  pub record PutRs (qs : List Binding) (c d : Condition) : Type 0 where
    pub deep : levels d ≤ length qs + max (levels c) 23
    pub long : size d ≤ size c + 2024 * length qs
    pub many : binds d ≡ binds c + new_for G qs
    pub few : new_for G qs ≤ 24 * length qs
    pub read : WellFormed c → WellFormed d

  pub ranges-put : (qs : List Binding) (n : ℕ) (c : Condition) → PutRs qs c (guard_ranges G qs n c)
  unfolding guard_ranges
  ranges-put [] n c = let k = new_for-nil G in record { deep = omega arith; long = omega arith; many = omega arith; few = omega arith; read = λ w. w }
  ranges-put (q ∷ qs) n c =
      let g = G q.variable q.relation in
      let i = guarded-put g q.variable n c (good q.variable q.relation) in
      let j = ranges-put qs (n + new_in g) (guarded g q.variable n c) in
      let k = new_for-cons G q.variable q.relation qs in
      record { deep = omega arith; long = omega arith; many = omega arith; few = omega arith; read = λ w. j.read (i.read w) }

  pub record FitsQ (q p : Query) : Type 0 where
    pub deep : levels_q p ≤ levels_q q + binds_q q + 22
    pub long : size_q p ≤ size_q q + 2024 * binds_q q
    pub many : binds_q p ≤ 25 * binds_q q
    pub well : WellFormedQ p

  pub rewritten-fits : (q : Query) → WellFormedQ q → FitsQ q (rewrite_query G q)
  unfolding rewrite_query levels_q size_q binds_q
  rewritten-fits q w =
      let n = 8 + new_for G (concat_map bindings_t q.targets) in
      let i = rewrite-targets q.targets 8 in
      let j = rewrite-fits G good q.condition n in
      let l = ranges-put q.ranges (n + new_for G (bindings q.condition)) (rewrite G q.condition n) in
      let p = levels-pos q.condition in
      record { deep = omega arith; long = omega arith; many = omega arith; well = record { some-target = omega (arith, i.all, w.some-target); targets = i.read w.targets; condition = l.read (j.read w.condition) } }

  -- 1,024 bytes, 32 levels and 8 variables give 17,216 bytes, 62 levels and 200 variables
  pub within-plain : (q p : Query) → FitsQ q p → size_q q ≤ 1024 → levels_q q ≤ 32 → binds_q q ≤ 8 → (size_q p ≤ 17216) × (levels_q p ≤ 62) × (binds_q p ≤ 200)
  within-plain q p f a b c = omega arith
