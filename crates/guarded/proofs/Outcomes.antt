-- The rewritten bytes and the answer of a call that passed its checks.
use mathlib.Core.Path.{◌≡◌, sym, ap, ap₂, subst, ◌∙◌}
use mathlib.Core.Bool.{Bool, true, false, cond}
use mathlib.Core.List.{List, ◌++◌}
use Prim.Native.Nat.{ℕ, ◌+◌, ◌≤◌, ◌<◌}
use native.Mathlib.Omega.{arith}
use borrow.Author.Tests.{leb-true}
use lib.IntN.{ℤ}
use lib.ListN.{length, get_or, drop, replicate}
use lib.Seq.{sets, sets-eq, get_or-drop}
use Rattle.model.specs.Lists.{any, all, unique, Every, concat_map}
use Rattle.model.specs.Syntax.{Query, Binding, Permit, TRUE, variables, bindings, bindings_t, bindings_q}
use Rattle.model.specs.Encoding.{query_of, permits_of, encode_query}
use Rattle.model.specs.Meaning.{answers}
use Rattle.model.specs.Scope.{bound_once}
use Rattle.model.specs.Catalogue.{catalogue_of, Shape, shape_of, stored_at, tuples_at}
use Rattle.model.specs.Permits.{Guards, guards_of, used_of, applies, bars, permitted}
use Rattle.model.specs.Rewriting.{new_for, rewrite_query}
use Rattle.model.specs.Checks.{Check, fails10, fails30, guarded_limits, keeper_checks, permit_checks, query_checks, guard_checks, shape_checks, ask_checks, rewritten_bytes, refusal}
use Rattle.model.specs.Calls.{give, ask}
use Rattle.model.specs.Demands.{Passes, guards_in, rewritten_of, rows_of, columns_of}
use Rattle.model.proofs.Demands.{demand-2}
use Rattle.model.proofs.Grounds.{refusal-passes}
use Rattle.model.proofs.Lists.{get_or-same, every-join, every_map, every-both}
use Rattle.model.proofs.NonInterference.{Agree}
use Rattle.model.proofs.Sizes.{size-query}
use Rattle.model.proofs.Permitted as P
use Rattle.model.proofs.Passed.{all-every, Passed, Scoped, refusal-cons, within, sound, sane-guards, good-guards, permits-read, query-read, query-length}
use Rattle.model.proofs.Limits.{ranges-put}
use Rattle.model.proofs.Accepted.{checks, scope, bounds}
use Rattle.catalogue.specs.Layout as L
use Rattle.catalogue.proofs.Reading.{rows_few}
use Rattle.scans.specs.Flat.{flat_bindings}
use Rattle.scans.proofs.Whole.{bindings-query}
use Rattle.grammar.specs.declared.Layout.{Layout}
use Rattle.grammar.specs.Shapes.{layout}
use Rattle.queries.specs.Parts.{query_at, Laid}
use Rattle.queries.proofs.Numbers.{condition-room}
use Rattle.queries.proofs.Targeting.{own-ranges}
use Rattle.copier.specs.Guard.{part, bits_of}
use Rattle.rewriter.specs.Rewritten.{masks_in, StandsFor, Stands, Room}
use Rattle.rewriter.specs.Parts.{query_read, query_bytes, query_new}
use Rattle.rewriter.proofs.Agrees.{numbers-agree, query-agrees}
use Rattle.guards.specs.Filled.{placed_from, mask_for, masked}
use Rattle.guards.proofs.Parts.{masked-bytes}
use Rattle.guards.proofs.Stands.{stands, masks-of, mask_is, few-permits}
use Rattle.walks.specs.Walks.{walked, rows_by}
use Rattle.allrows.proofs.All.{answers_agree}
use Rattle.permitted.specs.Given.{Low, Bytes, tiny}
use Rattle.permitted.proofs.Marks.{Enough, enough-itself, enough-bits}
use Rattle.permitted.proofs.Rows.{permitted-rows}
use Rattle.plain.specs.declared.Reply as plain
use Rattle.plain.specs.Reply.{answer_of, Answerable}
use Rattle.guarded.specs.Outcome.{bytes_of, outcome_of, given_rows, Bound}

-- a call that passed 10 to 40, with the query's layout and table
pub record Writable (y : Layout) (cb pb qb z : List ℕ) (room : ℕ) : Type 0 where
  pub catalogue : fails10 cb ≡ false
  pub passed : refusal (shape_checks (shape_of (catalogue_of cb)) pb qb room) ≡ 0
  pub ready : query_at y 32 qb z ≡ query_of qb

-- a query in scope has variables below 8
pub few-variables : (sh : Shape) (q : Query) → Scoped sh 8 q → (n : ℕ) → 8 ≤ n → Every (λ (b : Binding). b.variable < n) (bindings_q q)
unfolding bindings_q
few-variables sh q c n h =
    let s = sound sh q c in
    every_map P.Low (λ (b : Binding). b.variable < n) (λ b l. omega (arith, l, h)) (bindings_q q) (every-join P.Low q.ranges _ s.low-ranges (every-join P.Low (concat_map bindings_t q.targets) (bindings q.condition) s.low-targets s.low-condition))

module _ (y : Layout) (cb pb qb z : List ℕ) (room : ℕ) (w : Writable y cb pb qb z room) (places₀ masks₀ : List ℕ) (enough : 16 ≤ length places₀) (wide : 8 ≤ length masks₀) where
  abbrev sh : Shape
  sh = shape_of (catalogue_of cb)

  abbrev q : Query
  q = query_of qb

  abbrev G : Guards
  G = guards_of sh (permits_of pb) q

  abbrev M : List ℕ
  M = masked qb pb cb (flat_bindings qb) masks₀

  abbrev F : ℕ → List ℕ
  F = part pb (placed_from 8 pb 0 0 places₀)

  pass : Passed sh pb qb room
  pass = checks sh pb qb room w.passed

  stand : Stands G M F (bindings_q q)
  stand = subst (λ (x : List ℕ). Stands G (masked x pb cb (flat_bindings x) masks₀) F (bindings_q q)) (sym (query-read guarded_limits qb pass.p30).bytes) (stands cb pb w.catalogue pass.p20 pass.p21 q pass.p33 (scope sh pb qb room w.passed).once masks₀ places₀ (few-variables sh q (scope sh pb qb room w.passed) (length masks₀) wide) enough)

  -- its RANGE records, read one at a time, are its own
  read : query_read y 32 qb z ≡ q
  read =
      ap (λ (bs : List Binding). record { ranges = bs; targets = (query_at y 32 qb z).targets; condition = (query_at y 32 qb z).condition })
      (own-ranges q qb y.ranges (query-read guarded_limits qb pass.p30).bytes (ap (λ (u : Query). u.ranges) w.ready))
      ∙ w.ready

  module _ (places masks : List ℕ) (ep : places ≡ placed_from 8 pb 0 0 places₀) (em : masks ≡ M) where
    pub written : query_bytes masks (part pb places) (query_read y 32 qb z) ≡ bytes_of cb pb qb
    unfolding rewritten_bytes
    written = ap (query_bytes masks (part pb places)) read ∙ ap₂ (λ (m p : List ℕ). query_bytes m (part pb p) q) em ep ∙ query-agrees G M F q stand

    numbers : query_new masks (part pb places) (query_read y 32 qb z) ≡ new_for G (bindings_q q)
    numbers = ap (query_new masks (part pb places)) read ∙ ap₂ (λ (m p : List ℕ). query_new m (part pb p) q) em ep ∙ numbers-agree G M F q stand

    pub roomy : Room 0 8 (query_bytes masks (part pb places) (query_read y 32 qb z)) (query_new masks (part pb places) (query_read y 32 qb z))
    unfolding rewritten_bytes
    roomy =
        let b = (bounds sh pb qb room w.passed).0 in
        let s = size-query (rewrite_query G q) in
        let n = (ranges-put G (good-guards sh (permits_of pb) q (permits-read pb pass.p20) pass.p21) (bindings_q q) 0 TRUE).few in
        let l = (within guarded_limits q pass.p31).bound in
        (omega (arith, ap length written, b, s), omega (arith, numbers, n, l))

    pub written_all : (before after : List ℕ) → after ≡ sets before 0 (query_bytes masks (part pb places) (query_read y 32 qb z)) → after ≡ sets before 0 (bytes_of cb pb qb)
    written_all before after e = e ∙ ap (sets before 0) written

  once : unique (variables (bindings_q q)) ≡ true
  unfolding bound_once
  once = (scope sh pb qb room w.passed).once

  low : Every (λ (b : Binding). b.variable < 8) (bindings_q q)
  unfolding bindings_q
  low = let s = sound sh q (scope sh pb qb room w.passed) in every-join P.Low q.ranges _ s.low-ranges (every-join P.Low (concat_map bindings_t q.targets) (bindings q.condition) s.low-targets s.low-condition)

  -- the bits of each mask
  enough-each : Every (λ (b : Binding). Enough 8 (get_or M b.variable 0)) (bindings_q q)
  enough-each =
      let ps = permits_of pb in
      let e : M ≡ masked (encode_query q) pb cb (bindings_q q) masks₀ = ap (λ (x : List ℕ). masked x pb cb (flat_bindings x) masks₀) (query-read guarded_limits qb pass.p30).bytes ∙ ap (λ (bs : List Binding). masked (encode_query q) pb cb bs masks₀) (bindings-query q) in
      every_map (λ (b : Binding). get_or (masked (encode_query q) pb cb (bindings_q q) masks₀) b.variable 0 ≡ mask_for (encode_query q) pb cb b) (λ (b : Binding). Enough 8 (get_or M b.variable 0))
      (λ b h. subst (Enough 8) (sym (ap (λ (x : List ℕ). get_or x b.variable 0) e ∙ h ∙ mask_is cb pb w.catalogue pass.p20 pass.p21 q b))
      (either (stored_at sh b.relation) (any (bars (used_of q b.variable) b.relation) ps) (applies (used_of q b.variable) b.relation) ps (few-permits ps pass.p21)))
      (bindings_q q) (masks-of (encode_query q) pb cb masks₀ (bindings_q q) once (few-variables sh q (scope sh pb qb room w.passed) (length masks₀) wide))
    where
      none : Enough 8 0
      none = enough-itself 8 0 (omega arith)

      either : (d x : Bool) (t : Permit → Bool) (ps : List Permit) → length ps ≤ 8 → Enough 8 (cond d (cond x 0 (bits_of t ps)) 0)
      either true true t ps h = none
      either true false t ps h = enough-bits t ps 8 h
      either false x t ps h = none

  -- what the query binds
  pub binds : Bound cb qb
  binds =
      let e : flat_bindings qb ≡ bindings_q q = ap flat_bindings (query-read guarded_limits qb pass.p30).bytes ∙ bindings-query q in
      record {
        bindings = e;
        once = ap (λ (l : List Binding). unique (variables l)) e ∙ once;
        low = subst (Every (λ (b : Binding). b.variable < 8)) (sym e) low;
        count = omega (arith, ap length e, (within guarded_limits q pass.p31).bound);
        rows = rows_few cb w.catalogue;
      }

  -- over the rows that are given the query's answer is that over the permitted rows
  pub permitted-answers : (places masks : List ℕ) → places ≡ placed_from 8 pb 0 0 places₀ → masks ≡ M → (vs : List ℤ) → answers q (given_rows cb vs pb places masks) ≡ answers q (permitted (tuples_at (catalogue_of cb) vs) G)
  unfolding permitted Stands
  permitted-answers places masks ep em vs =
      let D = tuples_at (catalogue_of cb) vs in
      let bs = bindings_q q in
      let both = every-both (λ (b : Binding). StandsFor (G b.variable b.relation) (get_or M b.variable 0) F) (λ (b : Binding). Enough 8 (get_or M b.variable 0)) bs stand enough-each in
      answers_agree (given_rows cb vs pb places masks) (permitted D G) q
      (every_map (λ (b : Binding). StandsFor (G b.variable b.relation) (get_or M b.variable 0) F × Enough 8 (get_or M b.variable 0)) (Agree (given_rows cb vs pb places masks) (permitted D G))
      (λ b h. ap₂ (λ (p m : List ℕ). given_rows cb vs pb p m b.variable b.relation) ep em ∙ permitted-rows cb w.catalogue vs b.relation F (get_or M b.variable 0) (G b.variable b.relation) h.1 h.0 (good-guards sh (permits_of pb) q (permits-read pb pass.p20) pass.p21 b.variable b.relation) (sane-guards sh (permits_of pb) q pass.p22 b.variable b.relation))
      bs both)

-- masks that were filled from a cleared table are bytes
pub bytes-filled : (qb pb cb masks : List ℕ) (n : ℕ) → masks ≡ masked qb pb cb (flat_bindings qb) (masks_in (replicate {A = ℕ} n 0)) → Bytes masks
bytes-filled qb pb cb masks n e = subst Bytes (sym e) (masked-bytes qb pb cb (flat_bindings qb) (masks_in (replicate {A = ℕ} n 0)) (λ v. omega (arith, get_or-drop 16 (replicate {A = ℕ} n 0) v 0, get_or-same {A = ℕ} n 0 (16 + v))))

-- over a table with the rows that are given
pub table-answers : (cb : List ℕ) (vs : List ℤ) (pb places masks qb ws : List ℕ) → flat_bindings qb ≡ bindings_q (query_of qb) → Every (λ (b : Binding). walked ws vs b.variable ≡ given_rows cb vs pb places masks b.variable b.relation) (flat_bindings qb) → answers (query_of qb) (rows_by ws vs) ≡ answers (query_of qb) (given_rows cb vs pb places masks)
table-answers cb vs pb places masks qb ws e h = answers_agree (rows_by ws vs) (given_rows cb vs pb places masks) (query_of qb) (subst (Every (λ (b : Binding). walked ws vs b.variable ≡ given_rows cb vs pb places masks b.variable b.relation)) e h)

pub low-many : (cb qb : List ℕ) → Bound cb qb → Every (Low cb 1024) (flat_bindings qb)
low-many cb qb b = every_map (λ (c : Binding). c.variable < 8) (Low cb 1024) (λ c h. record { variable = h; rows = b.rows c.relation }) (flat_bindings qb) b.low

pub low-few : (cb qb : List ℕ) → Bound cb qb → all (tiny cb) (flat_bindings qb) ≡ true → Every (Low cb 16) (flat_bindings qb)
low-few cb qb b h =
    every_map (λ (c : Binding). (c.variable < 8) × (tiny cb c ≡ true)) (Low cb 16) (λ c k. record { variable = k.0; rows = leb-true (L.rows_of cb c.relation) 16 k.1 }) (flat_bindings qb)
    (every-both (λ (c : Binding). c.variable < 8) (λ (c : Binding). tiny cb c ≡ true) (flat_bindings qb) b.low (all-every (tiny cb) (flat_bindings qb) h))

front : (l bs : List ℕ) → length bs ≤ length l → sets l 0 bs ≡ bs ++ drop (length bs) l
front l bs h = let e : 0 + length bs ≡ length bs = omega arith in sets-eq bs l 0 (omega arith) ∙ ap (λ (k : ℕ). bs ++ drop k l) e

module _ (cb : List ℕ) (vs : List ℤ) (pb qb rewritten : List ℕ) (cells : List ℤ) (h : refusal (ask_checks cb vs pb qb (length rewritten)) ≡ 0) where
  numbered : Every (λ (c : Check). 1 ≤ c.1) (ask_checks cb vs pb qb (length rewritten))
  unfolding Every ask_checks keeper_checks shape_checks permit_checks query_checks guard_checks
  numbered = (omega arith, (omega arith, (omega arith, (omega arith, (omega arith, (omega arith, (omega arith, (omega arith, (omega arith, (omega arith, (omega arith, tt)))))))))))

  passes : Passes (ask_checks cb vs pb qb (length rewritten))
  passes = refusal-passes _ numbered h

  pub answered : (n : ℕ) (w : List ℕ) (r : plain.Reply) (after : List ℤ) → n ≡ length (bytes_of cb pb qb) → n ≤ length rewritten → w ≡ sets rewritten 0 (bytes_of cb pb qb)
      → answer_of r after ≡ give (columns_of qb) (answers (query_of qb) (permitted (tuples_at (catalogue_of cb) vs) (guards_in cb pb (query_of qb)))) cells
      → outcome_of (record { answer = r; length = n }) after w ≡ ask cb vs pb qb rewritten cells
  unfolding rewritten_bytes
  answered n w r after en l ew er =
      let bs = bytes_of cb pb qb in
      let p = demand-2.permitted-rows cb vs pb qb rewritten cells passes in
      ap (λ a. record { answer = a; count = n; rewritten = w }) (er ∙ ap (λ (rows : List (List ℤ)). give (columns_of qb) rows cells) (sym p))
      ∙ ap₂ (λ (k : ℕ) (x : List ℕ). record { answer = give (columns_of qb) (rows_of cb vs (rewritten_of cb pb qb)) cells; count = k; rewritten = x }) en (ew ∙ front rewritten bs (omega (arith, en, l)))
      ∙ sym (demand-2.rewriting cb vs pb qb rewritten cells passes)

-- the query can be answered: it passed the checks of the guarded call
pub answerable : (y : Layout) (cb qb z : List ℕ) → fails10 cb ≡ false → refusal (query_checks guarded_limits (shape_of (catalogue_of cb)) qb) ≡ 0 → Laid y qb → query_at y 32 qb z ≡ query_of qb → Answerable y 32 qb z cb
unfolding query_checks fails30 layout
answerable y cb qb z hc h laid ready =
    let a = refusal-cons _ 30 _ (omega arith) h in
    let b = refusal-cons _ 31 _ (omega arith) a.1 in
    let t = within guarded_limits (query_of qb) b.0 in
    record {
      catalogue = hc;
      laid = laid;
      ready = ready;
      columns = omega (arith, ap (λ (x : Layout). x.targets) laid.place, t.targets);
      ranges = omega (arith, ap (λ (x : Layout). x.ranges) laid.place, t.ranges);
      place = omega (arith, condition-room y qb laid, query-length guarded_limits qb a.0);
      level = omega arith;
      limits = guarded_limits;
      bound = omega arith;
      known = (refusal-cons _ 32 _ (omega arith) b.1).0;
    }
