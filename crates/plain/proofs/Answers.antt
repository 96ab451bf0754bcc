-- From the odometer's buffer to the model's answer, and the numbers of the whole call.
use mathlib.Core.Path.{◌≡◌, refl, sym, ap, ap₂, ◌∙◌, subst, fun_ext}
use mathlib.Core.Bool.{Bool, true, false, cond}
use mathlib.Core.List.{List, [], ◌++◌, map}
use mathlib.Core.Option.{Option}
use Prim.Native.Nat.{ℕ, zero, suc, ◌+◌, ◌*◌, ◌≤◌, ◌<◌}
use native.Mathlib.Omega.{arith}
use lib.Dec.{ltb}
use lib.IntN.{ℤ}
use lib.ListN.{length, drop}
use borrow.Author.Tests.{ltb-false}
use Rattle.model.specs.Lists.{filter, concat_map, Every, present}
use Rattle.model.specs.Syntax.{Binding, Query, bindings, bindings_t, bindings_q}
use Rattle.model.specs.Scope.{bound_once, range_scope}
use Rattle.model.specs.Encoding.{failed, read_query, query_of}
use Rattle.model.specs.Meaning.{Assignment, Rows, holds, assignments, unbound, target_row, add_rows, qualifying, rows_met, answers}
use Rattle.model.specs.Catalogue.{Shape, catalogue_of, shape_of, tuples_at, all_rows}
use Rattle.model.specs.Checks.{plain_limits, fails10, fails11, fails30, keeper_checks, query_checks, evaluate_checks, refusal}
use Rattle.model.specs.Calls.{refuse, give, evaluate_unless, evaluate}
use Rattle.model.proofs.Passed.{refusal-cons, within, Scoped, scoped, Below, known, scope-low, scope-low_ts}
use Rattle.model.proofs.Lists.{every_map, every-join}
use Rattle.model.proofs.Width.{rows-wide}
use Rattle.model.proofs.Grounds.{refusal-skip}
use Rattle.model.proofs.ReadingQueries.{query-inverse}
use Rattle.model.proofs.NonInterference.{Agree}
use Rattle.catalogue.specs.Layout.{tuples_in}
use Rattle.catalogue.proofs.Reading.{tuples-are}
use Rattle.rows.specs.declared.Filled.{Filled}
use Rattle.rows.specs.Buffer.{Buffer, added_all, start}
use Rattle.rows.proofs.Laws.{given}
use Rattle.scans.specs.Flat.{flat_bindings}
use Rattle.scans.proofs.Whole.{bindings-query}
use Rattle.walks.specs.Walks.{rows_by}
use Rattle.allrows.specs.Filled.{filled_by}
use Rattle.allrows.proofs.All.{answers_agree, filled-agree}
use Rattle.walks.specs.Assigned.{assigned, Unbound}
use Rattle.grammar.specs.declared.Layout.{Layout}
use Rattle.grammar.specs.Shapes.{layout}
use Rattle.odometer.specs.declared.Plan.{Plan}
use Rattle.odometer.specs.Plan.{Bounds, rows_from}
use Rattle.odometer.proofs.Staged.{rows-planned}
use Rattle.sizes.specs.Decode.{decode}
use Rattle.sizes.specs.Parts.{ranges_at, targets_at}
use Rattle.conjuncts.specs.Stages.{Planned}
use Rattle.model.proofs.Tests.{or_no}
use Rattle.queries.proofs.Numbers.{condition-room}
use Rattle.queries.specs.Parts.{query_at, Laid}
use Rattle.plain.specs.declared.Reply.{Reply}
use Rattle.plain.specs.Reply.{answer_of, reply_of, plan_of, Answerable, Trusted}

-- the rows of a query before equal ones are dropped
abbrev rows_before : Query → Rows → List (List ℤ)
rows_before u R = present (map (target_row u.targets R) (filter (holds u.condition R) (assignments u.ranges R unbound)))

answers-are : (u : Query) (R : Rows) → answers u R ≡ add_rows [] (rows_before u R)
unfolding answers rows_met qualifying
answers-are u R = refl

wide_rows : (u : Query) (R : Rows) → Every (λ x. length x ≡ length u.targets) (rows_before u R)
unfolding rows_met qualifying
wide_rows u R = rows-wide u R

-- its plan is in bounds
pub bounded : (y : Layout) (l f n : ℕ) (p : Plan) → y.targets ≤ 8 → y.ranges ≤ 4 → 768 ≤ f → f + 16 ≤ n → p ≡ plan_of y l f → Bounds p n
bounded y l f n p columns ranges b r e = subst (λ (k : Plan). Bounds k n) (sym e) (record { columns = columns; ranges = omega (arith, ranges); branches = b; room = r })

length-targets : (n l : ℕ) (q z : List ℕ) → length (targets_at n l q z) ≡ n
unfolding targets_at
length-targets zero l q z = refl
length-targets (suc n) l q z = ap suc (length-targets n l _ _)

module _ (y : Layout) (l f : ℕ) (q z ws : List ℕ) (vs m : List ℤ) (e : List ℕ) (h : Trusted m (rows_by ws vs) (query_at y l q z)) (b : Unbound vs e) where
  module _ (t : List ℕ) (w : Planned t q z ws vs m (decode l (drop y.condition q) (drop y.condition z)) (ranges_at y.ranges q)) where
    as-query : rows_from (plan_of y l f) t q z ws vs m (assigned vs e) ≡ rows_before (query_at y l q z) (rows_by ws vs)
    as-query =
        let u = query_at y l q z in
        let R = rows_by ws vs in
        rows-planned (plan_of y l f) t q z ws vs m u.condition refl w (assigned vs e)
        ∙ ap₂ (λ (f : Assignment → Option (List ℤ)) (g : Assignment → Bool). present (map f (filter g (assignments u.ranges R (assigned vs e))))) (fun_ext h.targets) (fun_ext h.condition)
        ∙ ap (λ (e : Assignment). present (map (target_row u.targets R) (filter (holds u.condition R) (assignments u.ranges R e)))) b.none

    pub answered : (p : Plan) (s : Filled) (r : Reply) (cells after : List ℤ) → p ≡ plan_of y l f
        → record { rows = s.rows; full = s.full; cells = after } ≡ added_all (start cells) (rows_from p t q z ws vs m (assigned vs e))
        → r ≡ reply_of y.targets s → answer_of r after ≡ give (length (query_at y l q z).targets) (answers (query_at y l q z) (rows_by ws vs)) cells
    answered p s r cells after ep eb er =
        let u = query_at y l q z in
        let R = rows_by ws vs in
        let w = length u.targets in
        let columns-are : y.targets ≡ w = sym (length-targets y.targets l _ _) in
        ap (λ (x : Reply). answer_of x after) (er ∙ ap (λ k. reply_of k s) columns-are)
        ∙ ap (λ (b : Buffer). record { number = cond b.full 41 0; rows = b.rows; columns = w; cells = b.cells }) (eb ∙ ap (λ (i : Plan). added_all (start cells) (rows_from i t q z ws vs m (assigned vs e))) ep ∙ ap (added_all (start cells)) as-query)
        ∙ sym (given w (rows_before u R) cells (wide_rows u R))
        ∙ ap (λ (xs : List (List ℤ)). give w xs cells) (sym (answers-are u R))

-- each variable that a query binds is below the limit
bound-low : (sh : Shape) (k : ℕ) (u : Query) → Scoped sh k u → Every (Below k) (bindings_q u)
unfolding bindings_q
bound-low sh k u s =
    every-join (Below k) u.ranges (concat_map bindings_t u.targets ++ bindings u.condition) (every_map _ _ (λ b h. (known sh k b h).0) u.ranges s.ranges)
    (every-join (Below k) (concat_map bindings_t u.targets) (bindings u.condition) (scope-low_ts sh k u.targets (range_scope u.ranges) s.targets) (scope-low sh k u.condition (range_scope u.ranges) s.condition))

-- over walks of all rows the answer is that over all rows
pub all-answers : (y : Layout) (l : ℕ) (q z cb ws₀ ws : List ℕ) (vs : List ℤ) → Answerable y l q z cb → 2048 ≤ length ws₀ → ws ≡ filled_by cb (flat_bindings q) ws₀ → answers (query_of q) (rows_by ws vs) ≡ answers (query_of q) (all_rows (tuples_at (catalogue_of cb) vs))
unfolding bound_once
all-answers y l q z cb ws₀ ws vs ok room e =
    let u = query_of q in
    let sh = shape_of (catalogue_of cb) in
    let s = scoped ok.limits sh u ok.known in
    let bs : flat_bindings q ≡ bindings_q u = ap flat_bindings (query-inverse q u [] ok.laid.read).bytes ∙ bindings-query u in
    let low : Every (λ (b : Binding). 8 * b.variable + 4 < length ws₀) (bindings_q u) = every_map (Below ok.limits.bound) (λ (b : Binding). 8 * b.variable + 4 < length ws₀) (λ b h. omega (arith, h, ok.bound, room)) (bindings_q u) (bound-low sh ok.limits.bound u s) in
    let a = filled-agree cb ws₀ vs (bindings_q u) s.once low in
    answers_agree (rows_by ws vs) (all_rows (tuples_at (catalogue_of cb) vs)) u (every_map (λ (b : Binding). rows_by (filled_by cb (bindings_q u) ws₀) vs b.variable b.relation ≡ tuples_in cb vs b.relation) (Agree (rows_by ws vs) (all_rows (tuples_at (catalogue_of cb) vs))) (λ b h. ap (λ (x : List ℕ). rows_by x vs b.variable b.relation) (e ∙ ap (λ (l : List Binding). filled_by cb l ws₀) bs) ∙ h ∙ sym (tuples-are cb ok.catalogue vs b.relation)) (bindings_q u) a)

-- the whole call
module _ (cb : List ℕ) (vs : List ℤ) (q : List ℕ) (cells : List ℤ) (n : ℕ) (en : n ≡ refusal (keeper_checks cb vs)) where
  keeper-numbers : Every (λ c. 1 ≤ c.1) (keeper_checks cb vs)
  unfolding Every keeper_checks
  keeper-numbers = (omega arith, (omega arith, tt))

  pub refused-first : 1 ≤ n → refuse n cells ≡ evaluate cb vs q cells
  unfolding evaluate evaluate_unless evaluate_checks keeper_checks refusal
  refused-first h = go (fails10 cb) (fails11 cb vs) refl refl
    where
      go : (a b : Bool) → fails10 cb ≡ a → fails11 cb vs ≡ b → refuse n cells ≡ evaluate cb vs q cells
      go true b p r = let e : n ≡ 10 = en ∙ rw p in ap (λ k. refuse k cells) e ∙ sym (rw p)
      go false true p r = let e : n ≡ 11 = en ∙ rw (p, r) in ap (λ k. refuse k cells) e ∙ sym (rw (p, r))
      go false false p r = let e : n ≡ 0 = en ∙ rw (p, r) in absurd (omega (arith, h, e))

  module _ (z : n ≡ 0) where
    kept : refusal (keeper_checks cb vs) ≡ 0
    kept = sym en ∙ z

    pub catalogue-passes : fails10 cb ≡ false
    unfolding keeper_checks
    catalogue-passes = (refusal-cons (fails10 cb) 10 _ (omega arith) kept).0

    rest-is : refusal (evaluate_checks cb vs q) ≡ refusal (query_checks plain_limits (shape_of (catalogue_of cb)) q)
    unfolding evaluate_checks
    rest-is = refusal-skip (keeper_checks cb vs) _ keeper-numbers kept

    pub refused-second : (m : ℕ) → m ≡ refusal (query_checks plain_limits (shape_of (catalogue_of cb)) q) → 1 ≤ m → refuse m cells ≡ evaluate cb vs q cells
    unfolding evaluate evaluate_unless
    refused-second zero em h = absurd (omega arith)
    refused-second (suc m) em h = sym (rw (rest-is ∙ sym em))

    module _ (y : Layout) (w : List ℕ) (em : 0 ≡ refusal (query_checks plain_limits (shape_of (catalogue_of cb)) q)) where
      pub answerable : Laid y q → query_at y 64 q w ≡ query_of q → Answerable y 64 q w cb
      unfolding query_checks fails30 layout
      answerable laid ready =
          let a = refusal-cons _ 30 _ (omega arith) (sym em) in
          let b = refusal-cons _ 31 _ (omega arith) a.1 in
          let t = within plain_limits (query_of q) b.0 in
          let short : length q ≤ 17216 = ltb-false 17216 (length q) (or_no (ltb 17216 (length q)) (failed (read_query q)) a.0).0 in
          record {
            catalogue = catalogue-passes;
            laid = laid;
            ready = ready;
            columns = omega (arith, ap (λ (x : Layout). x.targets) laid.place, t.targets);
            ranges = omega (arith, ap (λ (x : Layout). x.ranges) laid.place, t.ranges);
            place = omega (arith, condition-room y q laid);
            level = omega arith;
            limits = plain_limits;
            bound = omega arith;
            known = (refusal-cons _ 32 _ (omega arith) b.1).0;
          }

      pub accepted : (r : Reply) (after : List ℤ) → answer_of r after ≡ give (length (query_of q).targets) (answers (query_of q) (all_rows (tuples_at (catalogue_of cb) vs))) cells → answer_of r after ≡ evaluate cb vs q cells
      unfolding evaluate evaluate_unless
      accepted r after e = e ∙ sym (rw (rest-is ∙ sym em))
