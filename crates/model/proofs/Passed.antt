-- What passed checks give: facts about the catalogue, the permits and the query.
use Prim.Native.Nat.{ℕ, zero, suc, ◌+◌, ◌*◌, ◌<◌, ◌≤◌}
use mathlib.Core.Bool.{Bool, true, false, not, ◌&&◌, ◌||◌}
use mathlib.Core.List.{List, [], ◌∷◌, ◌++◌, map}
use mathlib.Core.Option.{some}
use mathlib.Core.Path.{◌≡◌, refl, sym, subst}
use native.Mathlib.Omega.{arith}
use lib.Dec.{eqb, leb, ltb}
use lib.ListN.{length}
use borrow.Author.Tests.{eqb-true, leb-true, ltb-true, ltb-false}
use Rattle.model.specs.Lists.{update, cons_if, filter, any, all, concat_map, contains, unique, Every}
use Rattle.model.specs.Syntax.{Condition, Term, TRUE, FALSE, NOT, AND, OR, COMPARE, SOME, CONSTANT, ATTRIBUTE, AGGREGATE, Binding, Use, Query, Permit, WellFormed, WellFormedPs, bindings, bindings_t, bindings_q, variables, uses, uses_t, uses_q, levels, levels_q}
use Rattle.model.specs.Encoding.{encode_permit, Read, fail, ok, failed, read_or, read_query, permits_read, query_of, permits_of}
use Rattle.model.specs.Catalogue.{Relation, read_catalogue, catalogue_read, catalogue_of, Shape, shape_of, attributes_at, stored_at}
use Rattle.model.specs.Permits.{used_of, no_access, applies, guard_of, guards_of}
use Rattle.model.specs.Scope.{Scope, nobody, known_binding, in_scope, in_scope_t, range_scope, query_in_scope, bound_once}
use Rattle.model.specs.Limits.{Limits}
use Rattle.model.specs.Checks.{guarded_limits, fails20, permit_fits, fails21, mask_known, permit_known, fails22, fails23, fails30, fails31, fails32, fails33, fails40, Check, permit_checks, query_checks, guard_checks, shape_checks, refusal}
use Rattle.model.proofs.Tests.{clash, and-inv, or-inv, or_no, not-no, not_yes}
use Rattle.model.proofs.Lists.{every_append, every-join, every_map}
use Rattle.model.proofs.Reading.{never, then-inv, byte-inv, need-inv}
use Rattle.model.proofs.ReadingQueries.{IsQ, query-inverse, permits-inverse}
use Rattle.model.proofs.Sizes.{size-encode}
use Rattle.model.proofs.Scoping.{InScope, InScopeT, in-fact, in-fact_t}
use Rattle.model.proofs.Renaming.{Sane, every-other}
use Rattle.model.proofs.Permitted.{Differ, Sound, SaneGuard}
use Rattle.model.proofs.NonInterference.{Narrow}
use Rattle.model.proofs.Limits.{binds-length, Fine, Good}

pub refusal-cons : (b : Bool) (n : ℕ) (cs : List Check) → 1 ≤ n → refusal ((b, n) ∷ cs) ≡ 0 → (b ≡ false) × (refusal cs ≡ 0)
unfolding refusal
refusal-cons true n cs l h = absurd (omega arith)
refusal-cons false n cs l h = (refl, h)

-- all checks from 20 to 40 passed
pub record Passed (sh : Shape) (pb qb : List ℕ) (room : ℕ) : Type 0 where
  pub p20 : fails20 pb ≡ false
  pub p21 : fails21 (permits_of pb) ≡ false
  pub p22 : fails22 sh (permits_of pb) ≡ false
  pub p23 : fails23 sh (permits_of pb) ≡ false
  pub p30 : fails30 guarded_limits qb ≡ false
  pub p31 : fails31 guarded_limits (query_of qb) ≡ false
  pub p32 : fails32 guarded_limits sh (query_of qb) ≡ false
  pub p33 : fails33 sh (permits_of pb) (query_of qb) ≡ false
  pub p40 : fails40 sh (permits_of pb) (query_of qb) room ≡ false

pub passed : (sh : Shape) (pb qb : List ℕ) (room : ℕ) → refusal (shape_checks sh pb qb room) ≡ 0 → Passed sh pb qb room
unfolding shape_checks permit_checks query_checks guard_checks
passed sh pb qb room h =
    let a = refusal-cons _ 20 _ (omega arith) h in
    let b = refusal-cons _ 21 _ (omega arith) a.1 in
    let c = refusal-cons _ 22 _ (omega arith) b.1 in
    let d = refusal-cons _ 23 _ (omega arith) c.1 in
    let e = refusal-cons _ 30 _ (omega arith) d.1 in
    let f = refusal-cons _ 31 _ (omega arith) e.1 in
    let g = refusal-cons _ 32 _ (omega arith) f.1 in
    let i = refusal-cons _ 33 _ (omega arith) g.1 in
    let j = refusal-cons _ 40 _ (omega arith) i.1 in
    record { p20 = a.0; p21 = b.0; p22 = c.0; p23 = d.0; p30 = e.0; p31 = f.0; p32 = g.0; p33 = i.0; p40 = j.0 }

-- a test of each element, as a fact of each
pub all-every : {A : Type 0} (t : A → Bool) (xs : List A) → all t xs ≡ true → Every (λ x. t x ≡ true) xs
unfolding all Every
all-every t [] h = tt
all-every t (x ∷ xs) h = let i = and-inv (t x) (all t xs) h in (i.0, all-every t xs i.1)

-- 30: the query was read, and its bytes are its own
pub query-read : (l : Limits) (qb : List ℕ) → fails30 l qb ≡ false → IsQ qb (query_of qb) []
unfolding fails30 query_of
query-read l qb h = go (read_query qb) refl (or_no (ltb l.bytes (length qb)) (failed (read_query qb)) h).1
  where
    go : (g : Read Query) → read_query qb ≡ g → failed g ≡ false → IsQ qb (read_or (record { ranges = []; targets = []; condition = TRUE }) g) []
    go fail e k = clash (sym k)
    go (ok q r) e k = let i = query-inverse qb q r e in record { well = i.well; bytes = i.bytes; whole = refl }

pub query-length : (l : Limits) (qb : List ℕ) → fails30 l qb ≡ false → length qb ≤ l.bytes
unfolding fails30
query-length l qb h = ltb-false l.bytes (length qb) (or_no (ltb l.bytes (length qb)) (failed (read_query qb)) h).0

-- 20: the permits were read
pub permits-read : (pb : List ℕ) → fails20 pb ≡ false → WellFormedPs (permits_of pb)
unfolding fails20 permits_of permits_read
permits-read pb h = go (permits_read pb) refl (or_no (ltb 2048 (length pb)) (failed (permits_read pb)) h).1
  where
    go : (g : Read (List Permit)) → permits_read pb ≡ g → failed g ≡ false → WellFormedPs (read_or [] g)
    go fail e k = clash (sym k)
    go (ok ps r) e k = (permits-inverse (suc (length pb)) pb ps r e).0

-- 31
pub record Within (l : Limits) (q : Query) : Type 0 where
  pub ranges : length q.ranges ≤ l.ranges
  pub targets : length q.targets ≤ l.targets
  pub nesting : levels_q q ≤ l.nesting
  pub bound : length (bindings_q q) ≤ l.bound

pub within : (l : Limits) (q : Query) → fails31 l q ≡ false → Within l q
unfolding fails31
within l q h =
    let a = or_no (ltb l.ranges (length q.ranges) || ltb l.targets (length q.targets)) (ltb l.nesting (levels_q q) || ltb l.bound (length (bindings_q q))) h in
    let b = or_no (ltb l.ranges (length q.ranges)) (ltb l.targets (length q.targets)) a.0 in
    let c = or_no (ltb l.nesting (levels_q q)) (ltb l.bound (length (bindings_q q))) a.1 in
    record { ranges = ltb-false _ _ b.0; targets = ltb-false _ _ b.1; nesting = ltb-false _ _ c.0; bound = ltb-false _ _ c.1 }

-- 32
pub record Scoped (sh : Shape) (limit : ℕ) (q : Query) : Type 0 where
  pub ranges : Every (λ b. known_binding sh limit b ≡ true) q.ranges
  pub targets : Every (λ t. InScopeT sh limit t (range_scope q.ranges)) q.targets
  pub condition : InScope sh limit q.condition (range_scope q.ranges)
  pub once : bound_once q ≡ true

pub scoped : (l : Limits) (sh : Shape) (q : Query) → fails32 l sh q ≡ false → Scoped sh l.bound q
unfolding fails32 query_in_scope
scoped l sh q h =
    let k = l.bound in
    let σ = range_scope q.ranges in
    let a = and-inv (all (known_binding sh k) q.ranges && (all (λ t. in_scope_t sh k t σ) q.targets && in_scope sh k q.condition σ)) (bound_once q) (not-no _ h) in
    let b = and-inv (all (known_binding sh k) q.ranges) (all (λ t. in_scope_t sh k t σ) q.targets && in_scope sh k q.condition σ) a.0 in
    let c = and-inv (all (λ t. in_scope_t sh k t σ) q.targets) (in_scope sh k q.condition σ) b.1 in
    record {
      ranges = all-every (known_binding sh k) q.ranges b.0;
      targets = every_map _ _ (λ t e. in-fact_t sh k t σ e) q.targets (all-every (λ t. in_scope_t sh k t σ) q.targets c.0);
      condition = in-fact sh k q.condition σ c.1;
      once = a.1;
    }

pub known : (sh : Shape) (limit : ℕ) (b : Binding) → known_binding sh limit b ≡ true → (b.variable < limit) × (b.relation < length sh)
unfolding known_binding
known sh limit b h = let i = and-inv (ltb b.variable limit) (ltb b.relation (length sh)) h in (ltb-true b.variable limit i.0, ltb-true b.relation (length sh) i.1)

-- what is in scope binds numbers below the limit
abbrev pub Below : ℕ → Binding → Type 0
Below k b = b.variable < k

module _ (sh : Shape) (k : ℕ) where
  mutual
    unfolding InScope bindings Every

    pub scope-low : (c : Condition) (σ : Scope) → InScope sh k c σ → Every (Below k) (bindings c)
    scope-low TRUE σ h = tt
    scope-low FALSE σ h = tt
    scope-low (NOT c) σ h = scope-low c σ h
    scope-low (AND c d) σ h = every-join (Below k) (bindings c) (bindings d) (scope-low c σ h.0) (scope-low d σ h.1)
    scope-low (OR c d) σ h = every-join (Below k) (bindings c) (bindings d) (scope-low c σ h.0) (scope-low d σ h.1)
    scope-low (COMPARE o s t) σ h = every-join (Below k) (bindings_t s) (bindings_t t) (scope-low_t s σ h.0) (scope-low_t t σ h.1)
    scope-low (SOME v r c) σ h = (h.0, scope-low c (update σ v (some r)) h.2)

    pub scope-low_t : (t : Term) (σ : Scope) → InScopeT sh k t σ → Every (Below k) (bindings_t t)
    scope-low_t (CONSTANT a b c d) σ h = tt
    scope-low_t (ATTRIBUTE v a) σ h = tt
    scope-low_t (AGGREGATE f v r a c) σ h = (h.0, scope-low c (update nobody v (some r)) h.3)

  pub scope-low_ts : (ts : List Term) (σ : Scope) → Every (λ t. InScopeT sh k t σ) ts → Every (Below k) (concat_map bindings_t ts)
  unfolding concat_map Every
  scope-low_ts [] σ h = tt
  scope-low_ts (t ∷ ts) σ h = every-join (Below k) (bindings_t t) (concat_map bindings_t ts) (scope-low_t t σ h.0) (scope-low_ts ts σ h.1)

-- relations have at most 16 attributes
abbrev pub Slim : Shape → Type 0
Slim sh = (r : ℕ) → attributes_at sh r ≤ 16

abbrev Small : Use → Type 0
Small u = u.attribute < 16

module _ (sh : Shape) (k : ℕ) (slim : Slim sh) where
  mutual
    unfolding InScope uses Every

    scope-small : (c : Condition) (σ : Scope) → InScope sh k c σ → Every Small (uses c)
    scope-small TRUE σ h = tt
    scope-small FALSE σ h = tt
    scope-small (NOT c) σ h = scope-small c σ h
    scope-small (AND c d) σ h = every-join Small (uses c) (uses d) (scope-small c σ h.0) (scope-small d σ h.1)
    scope-small (OR c d) σ h = every-join Small (uses c) (uses d) (scope-small c σ h.0) (scope-small d σ h.1)
    scope-small (COMPARE o s t) σ h = every-join Small (uses_t s) (uses_t t) (scope-small_t s σ h.0) (scope-small_t t σ h.1)
    scope-small (SOME v r c) σ h = scope-small c (update σ v (some r)) h.2

    scope-small_t : (t : Term) (σ : Scope) → InScopeT sh k t σ → Every Small (uses_t t)
    scope-small_t (CONSTANT a b c d) σ h = tt
    scope-small_t (ATTRIBUTE v a) σ h = (omega (arith, h.2, slim h.0), tt)
    scope-small_t (AGGREGATE f v r a c) σ h = (omega (arith, h.2, slim r), scope-small c (update nobody v (some r)) h.3)

  scope-small_ts : (ts : List Term) (σ : Scope) → Every (λ t. InScopeT sh k t σ) ts → Every Small (concat_map uses_t ts)
  unfolding concat_map Every
  scope-small_ts [] σ h = tt
  scope-small_ts (t ∷ ts) σ h = every-join Small (uses_t t) (concat_map uses_t ts) (scope-small_t t σ h.0) (scope-small_ts ts σ h.1)

used-small : (us : List Use) (v a : ℕ) → Every Small us → any (λ (u : Use). eqb u.variable v && eqb u.attribute a) us ≡ true → a < 16
unfolding any Every
used-small [] v a s h = clash h
used-small (u ∷ us) v a s h =
    or-inv (eqb u.variable v && eqb u.attribute a) (any (λ (u : Use). eqb u.variable v && eqb u.attribute a) us) h
    (λ e. let i = and-inv (eqb u.variable v) (eqb u.attribute a) e in omega (arith, s.0, eqb-true u.attribute a i.1))
    (λ e. used-small us v a s.1 e)

pub narrow : (sh : Shape) → Slim sh → (q : Query) → Scoped sh 8 q → Narrow q
unfolding used_of uses_q
narrow sh slim q s v a h =
    used-small (uses_q q) v a (every-join Small (concat_map uses_t q.targets) (uses q.condition) (scope-small_ts sh 8 slim q.targets (range_scope q.ranges) s.targets) (scope-small sh 8 slim q.condition (range_scope q.ranges) s.condition)) h

-- bound once: range variables differ
variables-apart : (v : ℕ) (bs cs : List Binding) → contains v (variables (bs ++ cs)) ≡ false → Every (λ (b : Binding). v ≡ b.variable → ⊥) bs
variables-apart v bs cs h = (every_append _ bs cs (every-other v (bs ++ cs) h)).0

pub ranges-differ : (bs cs : List Binding) → unique (variables (bs ++ cs)) ≡ true → Differ bs
unfolding unique Differ
ranges-differ [] cs h = tt
ranges-differ (b ∷ bs) cs h =
    let i = and-inv (not (contains b.variable (variables (bs ++ cs)))) (unique (variables (bs ++ cs))) h in
    (variables-apart b.variable bs cs (not_yes (contains b.variable (variables (bs ++ cs))) i.0), ranges-differ bs cs i.1)

pub sound : (sh : Shape) (q : Query) → Scoped sh 8 q → Sound q
unfolding bound_once bindings_q
sound sh q s = record {
  differ = ranges-differ q.ranges _ s.once;
  low-ranges = every_map _ _ (λ b h. (known sh 8 b h).0) q.ranges s.ranges;
  low-targets = scope-low_ts sh 8 q.targets (range_scope q.ranges) s.targets;
  low-condition = scope-low sh 8 q.condition (range_scope q.ranges) s.condition;
}

-- 22: the guards of a checked list are sane
sane-permit : (sh : Shape) (s : ℕ → Bool) (r : ℕ) (p : Permit) → applies s r p ≡ true → permit_known sh p ≡ true → Sane sh r p.condition
unfolding applies permit_known
sane-permit sh s r p e k =
    let a = and-inv (eqb p.relation r) _ (and-inv (not (no_access p)) _ e).1 in
    let σ = update nobody 0 (some p.relation) in
    let vs = variables (bindings p.condition) in
    let b = and-inv (ltb p.relation (length sh) && mask_known sh p) (in_scope sh 4 p.condition σ && unique (0 ∷ vs)) k in
    let c = and-inv (in_scope sh 4 p.condition σ) (unique (0 ∷ vs)) b.1 in
    record {
      scope = subst (λ (x : ℕ). InScope sh 4 p.condition (update nobody 0 (some x))) (eqb-true p.relation r a.0) (in-fact sh 4 p.condition σ c.0);
      alone = c.1;
    }

sane-list : (sh : Shape) (s : ℕ → Bool) (r : ℕ) (ps : List Permit) → Every (λ p. permit_known sh p ≡ true) ps → Every (Sane sh r) (map (λ (p : Permit). p.condition) (filter (applies s r) ps))
unfolding filter Every
sane-list sh s r [] h = tt
sane-list sh s r (p ∷ ps) h = go (applies s r p) refl (sane-list sh s r ps h.1)
  where
    go : (b : Bool) → applies s r p ≡ b → Every (Sane sh r) (map (λ (p : Permit). p.condition) (filter (applies s r) ps)) → Every (Sane sh r) (map (λ (p : Permit). p.condition) (cons_if b p (filter (applies s r) ps)))
    go true e k = (sane-permit sh s r p e h.0, k)
    go false e k = k

sane-guard : (sh : Shape) (r : ℕ) (b : Bool) (cs : List Condition) → Every (Sane sh r) cs → SaneGuard sh r (guard_of b cs)
unfolding guard_of SaneGuard
sane-guard sh r true cs h = h
sane-guard sh r false cs h = tt

pub sane-guards : (sh : Shape) (ps : List Permit) (q : Query) → fails22 sh ps ≡ false → (v r : ℕ) → SaneGuard sh r (guards_of sh ps q v r)
unfolding guards_of fails22
sane-guards sh ps q h v r = sane-guard sh r (stored_at sh r) _ (sane-list sh (used_of q v) r ps (all-every (permit_known sh) ps (not-no _ h)))

-- 21: they are of at most 8 conditions of at most 252 bytes, 16 levels, 3 bindings
fine : (p : Permit) → permit_fits p ≡ true → WellFormed p.condition → Fine p.condition
unfolding permit_fits encode_permit
fine p e w =
    let c = p.condition in
    let i = and-inv (leb (length (encode_permit p [])) 256) (leb (levels c) 16 && leb (length (bindings c)) 3) e in
    let j = and-inv (leb (levels c) 16) (leb (length (bindings c)) 3) i.1 in
    let a = leb-true (length (encode_permit p [])) 256 i.0 in
    let b = leb-true (length (bindings c)) 3 j.1 in
    let s = size-encode c [] in
    let t = binds-length c in
    record { deep = leb-true (levels c) 16 j.0; long = omega arith; many = omega arith; read = w }

module _ (f : Permit → Bool) where
  fine-list : (ps : List Permit) → Every (λ p. permit_fits p ≡ true) ps → WellFormedPs ps → Every Fine (map (λ (p : Permit). p.condition) (filter f ps))
  unfolding filter Every WellFormedPs
  fine-list [] h w = tt
  fine-list (p ∷ ps) h w = go (f p) (fine p h.0 w.0) (fine-list ps h.1 w.1)
    where
      go : (b : Bool) → Fine p.condition → Every Fine (map (λ (p : Permit). p.condition) (filter f ps)) → Every Fine (map (λ (p : Permit). p.condition) (cons_if b p (filter f ps)))
      go true a b = (a, b)
      go false a b = b

  filter-length : (ps : List Permit) → length (map (λ (p : Permit). p.condition) (filter f ps)) ≤ length ps
  unfolding filter
  filter-length [] = omega arith
  filter-length (p ∷ ps) = go (f p) (filter-length ps)
    where
      go : (b : Bool) → length (map (λ (p : Permit). p.condition) (filter f ps)) ≤ length ps → length (map (λ (p : Permit). p.condition) (cons_if b p (filter f ps))) ≤ suc (length ps)
      go true h = omega arith
      go false h = omega arith

good-guard : (b : Bool) (cs : List Condition) → Every Fine cs → length cs ≤ 8 → Good (guard_of b cs)
unfolding guard_of Good
good-guard true cs f l = (f, l)
good-guard false cs f l = tt

pub good-guards : (sh : Shape) (ps : List Permit) (q : Query) → WellFormedPs ps → fails21 ps ≡ false → (v r : ℕ) → Good (guards_of sh ps q v r)
unfolding guards_of fails21
good-guards sh ps q w h v r =
    let i = or_no (ltb 8 (length ps)) (not (all permit_fits ps)) h in
    let f = applies (used_of q v) r in
    good-guard (stored_at sh r) _ (fine-list f ps (all-every permit_fits ps (not-no _ i.1)) w) (omega (arith, filter-length f ps, ltb-false 8 (length ps) i.0))

-- 10: no relation has more than 16 attributes
unfoldable Narrows : List Relation → Type 0
Narrows [] = Unit
Narrows (x ∷ xs) = (x.attributes ≤ 16) × Narrows xs

catalogue-narrow : (n : ℕ) (bs : List ℕ) (xs : List Relation) (r : List ℕ) → read_catalogue n bs ≡ ok xs r → Narrows xs
unfolding read_catalogue Narrows
catalogue-narrow zero bs xs r h = never xs r h
catalogue-narrow (suc n) [] xs r h = let e : [] ≡ xs = cc in subst Narrows e tt
catalogue-narrow (suc n) (k ∷ bs) xs r h =
    need-inv xs r (eqb k 48 || eqb k 49 || eqb k 50) _ h λ w h₁.
    byte-inv xs r bs _ h₁ λ c s e h₂.
    need-inv xs r (leb 1 c && leb c 16) _ h₂ λ w₁ h₃.
    byte-inv xs r s _ h₃ λ a s₁ e₁ h₄.
    byte-inv xs r s₁ _ h₄ λ b s₂ e₂ h₅.
    need-inv xs r (leb (a + 256 * b) 1024) _ h₅ λ w₂ h₆.
    then-inv xs r (read_catalogue n s₂) _ h₆ λ ys s₃ e₃ h₇.
    let p : record { stored = not (eqb k 49); latest = eqb k 50; attributes = c; rows = a + 256 * b } ∷ ys ≡ xs = ok-inj h₇ in
    subst Narrows p (leb-true c 16 (and-inv (leb 1 c) (leb c 16) w₁).1, catalogue-narrow n s₂ ys s₃ e₃)
  where
    ok-inj : {A : Type 0} {a b : A} {r s : List ℕ} → ok a r ≡ ok b s → a ≡ b
    ok-inj h = cc

narrow-slim : (xs : List Relation) → Narrows xs → Slim (shape_of xs)
unfolding Narrows shape_of attributes_at
narrow-slim [] h r = omega arith
narrow-slim (x ∷ xs) h zero = h.0
narrow-slim (x ∷ xs) h (suc r) = narrow-slim xs h.1 r

pub slim : (cb : List ℕ) → Slim (shape_of (catalogue_of cb))
unfolding catalogue_of catalogue_read Narrows
slim cb = narrow-slim (catalogue_of cb) (go (catalogue_read cb) refl)
  where
    go : (g : Read (List Relation)) → catalogue_read cb ≡ g → Narrows (read_or [] g)
    go fail e = tt
    go (ok xs r) e = catalogue-narrow (suc (length cb)) cb xs r e
