-- The number of a query, from what was read of it.
use mathlib.Core.Path.{◌≡◌, refl, sym, ap, ap₂, ◌∙◌, subst}
use mathlib.Core.Bool.{Bool, true, false, not, cond, ◌&&◌, ◌||◌}
use mathlib.Core.List.{List, [], ◌∷◌}
use Prim.Native.Nat.{ℕ, ◌+◌, ◌*◌, ◌≤◌, ◌<◌}
use native.Mathlib.Omega.{arith}
use lib.Dec.{ltb}
use lib.ListN.{length, get_or, drop, length-drop, replicate}
use borrow.Author.Tests.{le-ltb, lt-ltb, ltb-false}
use Rattle.model.specs.Lists.{all, unique}
use Rattle.model.specs.Syntax.{Binding, Term, Query, Targets, WellFormedQ, bindings_q, levels_q, variables}
use Rattle.model.specs.Encoding.{encode, encode_targets, encode_ranges, encode_query, Read as Reads, fail, ok, failed, read_or, read_query, query_of}
use Rattle.model.specs.Catalogue.{Shape, shape_of, catalogue_of}
use Rattle.model.specs.Scope.{Scope, known_binding, in_scope, in_scope_t, range_scope, query_in_scope, bound_once}
use Rattle.model.specs.Checks.{fails10, fails30, fails31, fails32, query_checks, refusal}
use Rattle.model.proofs.Tests.{clash, not-no, not_yes, or_no, or_right}
use Rattle.model.proofs.ReadingQueries.{IsQ, read-query, query-inverse}
use Rattle.model.proofs.Sizes.{size-targets}
use Rattle.sizes.specs.Parts.{ranges_at}
use Rattle.scans.specs.Flat.{flat_bindings}
use Rattle.scans.proofs.Whole.{bindings-query, once-query}
use Rattle.conditions.specs.Reach.{scope_of, shape_in}
use Rattle.conditions.proofs.scope.Shapes.{shape_is}
use Rattle.conditions.proofs.scope.Tables.{scope-blank}
use Rattle.grammar.specs.declared.Layout.{Layout}
use Rattle.grammar.specs.Shapes.{layout, fails30_at}
use Rattle.grammar.proofs.Whole.{at-limit}
use Rattle.queries.specs.Tables.{query_measured}
use Rattle.queries.specs.declared.Limits.{Limits}
use Rattle.queries.specs.declared.Found.{Found}
use Rattle.std.specs.Prelude.{Option, Some, None}
use Rattle.queries.specs.Parts.{query_at, reach_on, limits_of, Laid, Room}
use Rattle.queries.specs.Found.{whole, head_ranges, Targeted, RestFound, Rest, Read, Told}
use Rattle.queries.proofs.Numbers.{ready-is}
use Rattle.queries.proofs.Steps.{scope-ranges}
use Rattle.queries.proofs.Targeting.{ranged, ranges-are, all_read, ranges-length, target-byte}

-- what the grammar finds
pub number-30 : (limit : ℕ) (q : List ℕ) (b : Bool) → b ≡ fails30_at limit q → b ≡ true → ◌≡◌ {A = ℕ} 30 (cond (fails30_at limit q) 30 31)
number-30 limit q b e h = ap (λ b. cond {A = ℕ} b 30 31) (sym h ∙ e)

pub number-31 : (limit : ℕ) (q : List ℕ) (b : Bool) → b ≡ fails30_at limit q → b ≡ false → ◌≡◌ {A = ℕ} 31 (cond (fails30_at limit q) 30 31)
number-31 limit q b e h = ap (λ b. cond {A = ℕ} b 30 31) (sym h ∙ e)

-- a query that passes 30 was read
record Good (q : List ℕ) : Type 0 where
  read : read_query q ≡ ok (query_of q) []
  is : IsQ q (query_of q) []

good : (l : Limits) (q : List ℕ) → fails30 (limits_of l) q ≡ false → Good q
unfolding fails30 query_of
good l q h = go (read_query q) refl (or_no (ltb l.bytes (length q)) (failed (read_query q)) h).1
  where
    go : (w : Reads Query) → read_query q ≡ w → failed w ≡ false → Good q
    go fail e f = clash (sym f)
    go (ok u r) e f =
        let i = query-inverse q u r e in
        let k : read_query q ≡ ok u [] = e ∙ ap (ok u) i.whole in
        let m : query_of q ≡ u = ap (read_or _) k in
        let g : read_query q ≡ ok (query_of q) [] = k ∙ ap (λ x. ok x []) (sym m) in
        record { read = g; is = query-inverse q (query_of q) [] g }

-- where nothing was read
module _ (l : Limits) (q : List ℕ) where
  pub over-bytes : l.bytes < length q → fails30 (limits_of l) q ≡ false → fails31 (limits_of l) (query_of q) ≡ true
  unfolding fails30
  over-bytes h f = absurd (omega (arith, ltb-false l.bytes (length q) (or_no (ltb l.bytes (length q)) (failed (read_query q)) f).0))

  pub over-bound : (k : ℕ) → k ≡ length (flat_bindings q) → l.variables < k → fails30 (limits_of l) q ≡ false → fails31 (limits_of l) (query_of q) ≡ true
  unfolding fails31
  over-bound k ek h f =
      let i = (good l q f).is in
      let e : l.variables < length (bindings_q (query_of q)) = omega (arith, ek, ap (λ (x : List ℕ). length (flat_bindings x)) i.bytes ∙ ap length (bindings-query (query_of q))) in
      or_right (ltb 4 (length (query_of q).ranges) || ltb 8 (length (query_of q).targets)) (ltb l.levels (levels_q (query_of q)) || ltb l.variables (length (bindings_q (query_of q)))) (or_right (ltb l.levels (levels_q (query_of q))) (ltb l.variables (length (bindings_q (query_of q)))) (lt-ltb l.variables (length (bindings_q (query_of q))) e))

  first-target : (ts : List Term) (s : List ℕ) → 1 ≤ length ts → Targets ts → get_or (encode_targets ts s) 0 0 ≡ 1 → ⊥
  unfolding encode_targets
  first-target [] s h w e = omega arith
  first-target (t ∷ ts) s h w e = omega (arith, target-byte t ts (encode_targets ts s) w)

  pub over-rest : (sh : Shape) (limit : ℕ) (σ : Scope) (z w : List ℕ) (n : ℕ) → n ≡ length (head_ranges 4 q) → (m : Option Found) → m ≡ None → Rest m sh limit l.levels σ q n z w → fails30 (limits_of l) q ≡ false → fails31 (limits_of l) (query_of q) ≡ true
  unfolding fails31 encode_query
  over-rest sh limit σ z w n en m em h f = go (fails31 (limits_of l) (query_of q)) refl
    where
      go : (b : Bool) → ((ltb 4 (length (query_of q).ranges) || ltb 8 (length (query_of q).targets)) || (ltb l.levels (levels_q (query_of q)) || ltb l.variables (length (bindings_q (query_of q))))) ≡ b → b ≡ true
      go true e = refl
      go false e =
          let g = good l q f in let i = g.is in
          let a = or_no _ _ e in let b = or_no _ _ a.0 in let c = or_no _ _ a.1 in
          let few : length (query_of q).ranges ≤ 4 = ltb-false 4 (length (query_of q).ranges) b.0 in
          let c4 : n ≡ length (query_of q).ranges = en ∙ ap (λ (x : List ℕ). length (head_ranges 4 x)) i.bytes ∙ ap length (all_read (query_of q).ranges 4 (encode_targets (query_of q).targets (encode (query_of q).condition [])) few (λ _. first-target (query_of q).targets (encode (query_of q).condition []) i.well.some-target i.well.targets)) in
          absurd (subst (λ x. Rest x sh limit l.levels σ q n z w) em h (query_of q) g.read (sym c4) (ltb-false 8 (length (query_of q).targets) b.1) (ltb-false l.levels (levels_q (query_of q)) c.0))

-- a query that was read: it is what its RANGE records, targets and condition encode
module _ (l : Limits) (cb q : List ℕ) (h10 : fails10 cb ≡ false) (short : length q ≤ l.bytes) (n : ℕ) (en : n ≡ length (head_ranges 4 q)) (few : n ≤ 4)
    (k : ℕ) (ek : k ≡ length (flat_bindings q)) (hk : k ≤ l.variables) (s : List ℕ) (es : scope_of s ≡ reach_on (head_ranges 4 q) (scope_of (replicate 256 0)))
    (z : List ℕ) (room : Room q z) (y : Layout) (i : Bool) (w : List ℕ) where
  heads : head_ranges 4 q ≡ ranges_at n q
  heads = ranges-are 4 q ∙ ap (λ m. ranges_at m q) (sym en)

  those : q ≡ encode_ranges (ranges_at n q) (drop (3 * n) q)
  those = ranged 4 q ∙ ap₂ (λ (bs : List Binding) (m : ℕ). encode_ranges bs (drop (3 * m) q)) heads (sym en)

  module _ (a : RestFound (shape_in cb) l.variables l.levels (scope_of s) q n y i z w) where
    abbrev t : Targeted (shape_in cb) l.variables l.levels (scope_of s) q (3 * n) 8 y.targets y.condition a.first-in z a.between
    t = a.targeted

    abbrev u : Query
    u = record { ranges = ranges_at n q; targets = t.targets; condition = a.condition }

    encoded : q ≡ encode_query u
    unfolding encode_query
    encoded = those ∙ ap (encode_ranges (ranges_at n q)) (t.bytes ∙ ap (encode_targets t.targets) a.bytes)

    well : WellFormedQ u
    well = record { some-target = omega (arith, a.some-target, t.counted); targets = t.well; condition = a.well }

    read : read_query q ≡ ok u []
    read = ap read_query encoded ∙ read-query u well

    is : query_of q ≡ u
    unfolding query_of
    is = rw read

    condition-is : y.condition ≡ 3 * n + length (encode_targets t.targets [])
    condition-is = omega (arith, ap length t.bytes, size-targets t.targets (drop y.condition q), size-targets t.targets [], length-drop (3 * n) q, length-drop y.condition q, a.room, t.inside)

    laid_as : y ≡ layout u
    unfolding layout
    laid_as =
        let e : n ≡ length (ranges_at n q) = sym (ranges-length n q) in
        ap₂ (λ m f. record { ranges = m; targets = y.targets; first = f; condition = y.condition }) (a.ranges ∙ e) (a.first ∙ ap (λ i. 3 * i) e)
        ∙ ap₂ (λ m f. record { ranges = length (ranges_at n q); targets = m; first = 3 * length (ranges_at n q); condition = f }) t.counted (condition-is ∙ ap (λ i. 3 * i + length (encode_targets t.targets [])) e)

    laid : Laid y q
    laid = record { read = read ∙ ap (λ x. ok x []) (sym is); place = laid_as ∙ ap layout (sym is) }

    deep : levels_q u ≤ l.levels
    unfolding levels_q
    deep = omega (arith, t.deep, a.deep)

    in-ranges : scope_of s ≡ range_scope (ranges_at n q)
    in-ranges = es ∙ ap₂ reach_on heads (scope-blank 256) ∙ scope-ranges (ranges_at n q)

    targets-in : all (λ x. in_scope_t (shape_of (catalogue_of cb)) l.variables x (range_scope (ranges_at n q))) t.targets ≡ a.first-in
    targets-in =
        ap₂ (λ (h : Shape) (σ : Scope). all (λ x. in_scope_t h l.variables x σ) t.targets) (sym (shape_is cb h10)) (sym in-ranges) ∙ t.scope

    rest_in : in_scope (shape_in cb) l.variables a.condition (scope_of s) ≡ in_scope (shape_of (catalogue_of cb)) l.variables a.condition (range_scope (ranges_at n q))
    rest_in = ap₂ (λ (h : Shape) (σ : Scope). in_scope h l.variables a.condition σ) (shape_is cb h10) in-ranges

    both-in : i ≡ (all (λ x. in_scope_t (shape_of (catalogue_of cb)) l.variables x (range_scope (ranges_at n q))) t.targets && in_scope (shape_of (catalogue_of cb)) l.variables a.condition (range_scope (ranges_at n q)))
    both-in = a.scope ∙ go a.first-in ∙ ap₂ ◌&&◌ (sym targets-in) rest_in
      where
        go : (b : Bool) → cond b (in_scope (shape_in cb) l.variables a.condition (scope_of s)) false ≡ (b && in_scope (shape_in cb) l.variables a.condition (scope_of s))
        go true = refl
        go false = refl

    bound : length (bindings_q u) ≤ l.variables
    bound = omega (arith, ap (λ (x : List ℕ). length (flat_bindings x)) encoded, ap length (bindings-query u), ek, hk)

    passes-30 : fails30 (limits_of l) q ≡ false
    unfolding fails30
    passes-30 = rw (le-ltb l.bytes (length q) short, read)

    passes-31 : fails31 (limits_of l) (query_of q) ≡ false
    unfolding fails31
    passes-31 =
        let f = le-ltb 4 (length (ranges_at n q)) (omega (arith, ranges-length n q, few)) in
        let g = le-ltb 8 (length t.targets) (omega (arith, t.counted, t.few)) in
        rw (is, f, g, le-ltb l.levels (levels_q u) deep, le-ltb l.variables (length (bindings_q u)) bound)

    -- in scope: the RANGE records, then the others; and each number bound once
    pub reads : (b : Bool) → b ≡ ((all (known_binding (shape_in cb) l.variables) (ranges_at n q) && i) && unique (variables (flat_bindings q))) → Read y b l (shape_of (catalogue_of cb)) q w
    unfolding fails32 query_in_scope
    reads b eb = record {
      passes-30 = passes-30;
      passes-31 = passes-31;
      number-32 =
          eb
          ∙ ap₂ ◌&&◌ (ap₂ ◌&&◌ (ap (λ h. all (known_binding h l.variables) (ranges_at n q)) (shape_is cb h10)) both-in) (ap (λ (x : List ℕ). unique (variables (flat_bindings x))) encoded ∙ once-query u)
          ∙ ap (λ x. query_in_scope (shape_of (catalogue_of cb)) l.variables x && bound_once x) (sym is)
          ∙ sym (twice (query_in_scope (shape_of (catalogue_of cb)) l.variables (query_of q) && bound_once (query_of q)));
      laid = laid;
      ready = ready-is y q laid l.levels z w room (subst (λ x. levels_q x ≤ l.levels) (sym is) deep) (a.table ∙ ap (λ p. (query_measured y.targets l.levels q p z).table) (sym a.first));
    }
      where
        twice : (x : Bool) → not (not x) ≡ x
        twice true = refl
        twice false = refl

  -- the code's tests
  module _ (m : Option Found) (em : m ≡ whole y i) (h : Rest m (shape_in cb) l.variables l.levels (scope_of s) q n z w) where
    abbrev a : RestFound (shape_in cb) l.variables l.levels (scope_of s) q n y i z w
    a = subst (λ x. Rest x (shape_in cb) l.variables l.levels (scope_of s) q n z w) em h

    pub read_all : (b : Bool) → b ≡ all (known_binding (shape_in cb) l.variables) (head_ranges 4 q) → (d : Bool) → d ≡ unique (variables (flat_bindings q)) → Read y ((b && i) && d) l (shape_of (catalogue_of cb)) q w
    read_all b eb d ed = reads a ((b && i) && d) (ap₂ (λ x y. (x && i) && y) (eb ∙ ap (all (known_binding (shape_in cb) l.variables)) heads) ed)

-- the number
module _ (l : Limits) (sh : Shape) (q w : List ℕ) (m : Option Found) (h : Told m l sh q w) where
  pub number-refused : m ≡ None → (k b : ℕ) → b ≡ l.bytes → k ≡ cond (fails30_at b q) 30 31 → k ≡ refusal (query_checks (limits_of l) sh q)
  unfolding query_checks refusal
  number-refused em k b eb en = en ∙ ap (λ x. cond {A = ℕ} (fails30_at x q) 30 31) eb ∙ ap (λ x. cond {A = ℕ} x 30 31) (sym (at-limit (limits_of l) q)) ∙ go (fails30 (limits_of l) q) refl
    where
      go : (x : Bool) → fails30 (limits_of l) q ≡ x → ◌≡◌ {A = ℕ} (cond x 30 31) (cond x 30 (cond (fails31 (limits_of l) (query_of q)) 31 (cond (fails32 (limits_of l) sh (query_of q)) 32 0)))
      go true e = refl
      go false e = let f : fails31 (limits_of l) (query_of q) ≡ true = subst (λ x. Told x l sh q w) em h e in sym (rw f)

  module _ (y : Layout) (b : Bool) (em : m ≡ whole y b) where
    abbrev r : Read y b l sh q w
    r = subst (λ x. Told x l sh q w) em h

    pub number-32 : not b ≡ true → ◌≡◌ {A = ℕ} 32 (refusal (query_checks (limits_of l) sh q))
    unfolding query_checks refusal
    number-32 g = let f : fails32 (limits_of l) sh (query_of q) ≡ true = not-no _ (sym r.number-32 ∙ not_yes b g) in sym (rw (r.passes-30, r.passes-31, f))

    pub number-none : not b ≡ false → 0 ≡ refusal (query_checks (limits_of l) sh q)
    unfolding query_checks refusal
    number-none g = let f : fails32 (limits_of l) sh (query_of q) ≡ false = not_yes _ (sym r.number-32 ∙ not-no b g) in sym (rw (r.passes-30, r.passes-31, f))

    pub ready : Laid y q × (query_at y l.levels q w ≡ query_of q)
    ready = (r.laid, r.ready)
