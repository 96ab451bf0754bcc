-- The plain evaluator accepts the rewritten query.
use Prim.Native.Nat.{ℕ, ◌+◌, ◌≤◌}
use mathlib.Core.Bool.{Bool, true, false}
use mathlib.Core.List.{List, [], ◌∷◌}
use mathlib.Core.Path.{◌≡◌, refl, ap}
use native.Mathlib.Omega.{arith}
use lib.ListN.{length}
use borrow.Author.Tests.{le-ltb, lt-ltb}
use Rattle.model.specs.Lists.{all, concat_map, Every}
use Rattle.model.specs.Syntax.{Binding, Query, bindings, bindings_t, bindings_q, levels_q}
use Rattle.model.specs.Encoding.{encode_query, ok, read_query, query_of, permits_of}
use Rattle.model.specs.Catalogue.{Shape}
use Rattle.model.specs.Permits.{Guards, guards_of}
use Rattle.model.specs.Rewriting.{new_for, rewrite, rewrite_targets, guard_ranges, rewrite_query}
use Rattle.model.specs.Scope.{known_binding, in_scope, in_scope_t, range_scope, query_in_scope}
use Rattle.model.specs.Checks.{guarded_limits, plain_limits, fails30, fails31, fails32, shape_checks, query_checks, refusal}
use Rattle.model.proofs.Tests.{and_intro}
use Rattle.model.proofs.Lists.{every_map}
use Rattle.model.proofs.ReadingQueries.{IsQ, read-query}
use Rattle.model.proofs.Sizes.{size_q, size-query}
use Rattle.model.proofs.Scoping.{in-test, in-test_t}
use Rattle.model.proofs.Permitted.{SaneGuard}
use Rattle.model.proofs.Limits.{Good, binds_q, binds_q-length, FitsQ, rewrite-targets, rewrite-fits, ranges-put, rewritten-fits, within-plain}
use Rattle.model.proofs.Numbering.{bound-once}
use Rattle.model.proofs.Reaching.{rewrite-scope, targets-scope, ranges-scope, ranges-reach}
use Rattle.model.proofs.Passed.{Passed, passed, query-read, query-length, permits-read, Within, within, Scoped, scoped, known, sound, sane-guards, good-guards}

every-all : {A : Type 0} (t : A → Bool) (xs : List A) → Every (λ x. t x ≡ true) xs → all t xs ≡ true
unfolding all Every
every-all t [] h = refl
every-all t (x ∷ xs) h = and_intro (t x) (all t xs) h.0 (every-all t xs h.1)

known_more : (sh : Shape) (b : Binding) → known_binding sh 8 b ≡ true → known_binding sh 200 b ≡ true
unfolding known_binding
known_more sh b h = let i = known sh 8 b h in rw (lt-ltb b.variable 200 (omega (arith, i.0)), lt-ltb b.relation (length sh) i.1)

module _ (sh : Shape) (pb qb : List ℕ) (room : ℕ) (h : refusal (shape_checks sh pb qb room) ≡ 0) where
  abbrev the-query : Query
  the-query = query_of qb

  abbrev the-guards : Guards
  the-guards = guards_of sh (permits_of pb) the-query

  abbrev the-rewritten : Query
  the-rewritten = rewrite_query the-guards the-query

  pub checks : Passed sh pb qb room
  checks = passed sh pb qb room h

  pub scope : Scoped sh 8 the-query
  scope = scoped guarded_limits sh the-query checks.p32

  pub sane : (v r : ℕ) → SaneGuard sh r (the-guards v r)
  sane = sane-guards sh (permits_of pb) the-query checks.p22

  good : (v r : ℕ) → Good (the-guards v r)
  good = good-guards sh (permits_of pb) the-query (permits-read pb checks.p20) checks.p21

  read : IsQ qb the-query []
  read = query-read guarded_limits qb checks.p30

  limits : Within guarded_limits the-query
  limits = within guarded_limits the-query checks.p31

  fits : FitsQ the-guards good the-query the-rewritten
  fits = rewritten-fits the-guards good the-query read.well

  pub read_again : read_query (encode_query the-rewritten) ≡ ok the-rewritten []
  read_again = read-query the-rewritten fits.well

  pub query-again : query_of (encode_query the-rewritten) ≡ the-rewritten
  unfolding query_of
  query-again = rw read_again

  pub bounds : (size_q the-rewritten ≤ 17216) × (levels_q the-rewritten ≤ 62) × (binds_q the-rewritten ≤ 200)
  bounds =
      let a = query-length guarded_limits qb checks.p30 in
      let b = size-query the-query in
      let c = ap length read.bytes in
      let d = binds_q-length the-query in
      within-plain the-guards good the-query the-rewritten fits (omega arith) limits.nesting (omega (arith, limits.bound))

  pub same-targets : length the-rewritten.targets ≡ length the-query.targets
  unfolding rewrite_query
  same-targets = (rewrite-targets the-guards good the-query.targets 8).all

  same-ranges : the-rewritten.ranges ≡ the-query.ranges
  unfolding rewrite_query
  same-ranges = refl

  pub passes30 : fails30 plain_limits (encode_query the-rewritten) ≡ false
  unfolding fails30
  passes30 = rw (le-ltb 17216 (length (encode_query the-rewritten)) (omega (arith, size-query the-rewritten, bounds.0)), read_again)

  pub passes31 : fails31 plain_limits the-rewritten ≡ false
  unfolding fails31
  passes31 =
      let a : binds_q the-rewritten ≤ 200 = bounds.2 in
      let b : length (bindings_q the-rewritten) ≤ 200 = omega (arith, binds_q-length the-rewritten) in
      rw (le-ltb 64 (levels_q the-rewritten) (omega (arith, bounds.1)), le-ltb 200 (length (bindings_q the-rewritten)) b, same-targets, same-ranges, le-ltb 4 (length the-query.ranges) limits.ranges, le-ltb 8 (length the-query.targets) limits.targets)

  few : 8 + new_for the-guards (concat_map bindings_t the-query.targets) + new_for the-guards (bindings the-query.condition) + new_for the-guards the-query.ranges ≤ 200
  unfolding binds_q
  few =
      let n = 8 + new_for the-guards (concat_map bindings_t the-query.targets) in
      let i = rewrite-targets the-guards good the-query.targets 8 in
      let j = rewrite-fits the-guards good the-query.condition n in
      let l = ranges-put the-guards good the-query.ranges (n + new_for the-guards (bindings the-query.condition)) (rewrite the-guards the-query.condition n) in
      let m = limits.bound in
      let k = binds_q-length the-query in
      omega arith

  pub passes32 : fails32 plain_limits sh the-rewritten ≡ false
  unfolding fails32 query_in_scope rewrite_query
  passes32 =
      let q = the-query in
      let G = the-guards in
      let n = 8 + new_for G (concat_map bindings_t q.targets) in
      let m = n + new_for G (bindings q.condition) in
      let σ = range_scope q.ranges in
      let s = sound sh q scope in
      let t = few in
      let ranges : all (known_binding sh 200) q.ranges ≡ true = every-all (known_binding sh 200) q.ranges (every_map _ _ (λ b e. known_more sh b e) q.ranges scope.ranges) in
      let targets : all (λ t. in_scope_t sh 200 t σ) (rewrite_targets G q.targets 8) ≡ true =
      every-all (λ t. in_scope_t sh 200 t σ) (rewrite_targets G q.targets 8) (every_map _ _ (λ t e. in-test_t sh 200 t σ e) (rewrite_targets G q.targets 8) (targets-scope sh G sane q.targets 8 σ (omega arith) (omega arith) scope.targets)) in
      let condition : in_scope sh 200 (guard_ranges G q.ranges m (rewrite G q.condition n)) σ ≡ true =
      in-test sh 200 (guard_ranges G q.ranges m (rewrite G q.condition n)) σ
      (ranges-scope sh G sane q.ranges m (rewrite G q.condition n) σ s.low-ranges (ranges-reach q.ranges s.differ) (omega arith) (omega arith) (rewrite-scope sh G sane q.condition n σ (omega arith) (omega arith) scope.condition)) in
      rw (ranges, targets, condition, bound-once sh G sane q s scope.once)

  pub accepted : refusal (query_checks plain_limits sh (encode_query the-rewritten)) ≡ 0
  unfolding query_checks refusal
  accepted = rw (query-again, passes30, passes31, passes32)
