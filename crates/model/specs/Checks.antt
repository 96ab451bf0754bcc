-- Who can cause a refusal (document 01): one test for each number, true where the call is refused.
use Rattle.std.specs.Prelude.{ℕ, Bool, not, cond, ◌&&◌, ◌||◌, List, [], ◌∷◌, ◌++◌, eqb, leb, ltb, ℤ, length}
use Rattle.std.proofs.Math.Option.{some}
use Rattle.model.specs.Lists.{update, any, all, unique, below}
use Rattle.model.specs.Limits.{Limits, limits}
use Rattle.model.specs.Syntax.{Binding, Query, Permit, bindings, bindings_q, variables, levels, levels_q}
use Rattle.model.specs.Encoding.{failed, read_query, permits_read, query_of, permits_of, encode_query, encode_permit}
use Rattle.model.specs.Catalogue.{catalogue_read, catalogue_of, value_count, Shape, shape_of, attributes_at, stored_at}
use Rattle.model.specs.Permits.{bit, mask, used_of, applies, bars, guards_of}
use Rattle.model.specs.Rewriting.{rewrite_query}
use Rattle.model.specs.Scope.{nobody, in_scope, query_in_scope, bound_once}

-- a query that is asked, and one put to the plain evaluator
abbrev pub guarded_limits : Limits
guarded_limits = limits.asked

abbrev pub plain_limits : Limits
plain_limits = limits.plain

-- 10: catalogue empty, over 16 records, cut short, of unknown kind, or a number outside its range
unfoldable pub fails10 : List ℕ → Bool
fails10 cb = failed (catalogue_read cb) || (eqb (length (catalogue_of cb)) 0 || ltb limits.relations (length (catalogue_of cb)))

-- 11: the slice's length is not the catalogue's total
unfoldable pub fails11 : List ℕ → List ℤ → Bool
fails11 cb vs = not (eqb (length vs) (value_count (catalogue_of cb)))

-- 20: list over 2,048 bytes or not well formed
unfoldable pub fails20 : List ℕ → Bool
fails20 pb = ltb limits.list-bytes (length pb) || failed (permits_read pb)

-- 21: over 8 permits, 256 bytes, 16 levels or 3 other variables (counted as binding records)
unfoldable pub permit_fits : Permit → Bool
permit_fits p = leb (length (encode_permit p [])) limits.permit-bytes && (leb (levels p.condition) limits.permit-nesting && leb (length (bindings p.condition)) limits.permit-bound)

unfoldable pub fails21 : List Permit → Bool
fails21 ps = ltb limits.permits (length ps) || not (all permit_fits ps)

-- 22: mask 0 or (unless ALL) naming an absent attribute
unfoldable pub mask_known : Shape → Permit → Bool
mask_known sh p = not (eqb (mask p) 0) && (eqb (mask p) 65535 || all (λ a. not (bit (mask p) a) || ltb a (attributes_at sh p.relation)) (below 16))

-- 22: unknown relation or attribute, variable over 3, out of reach or bound twice (0 counts as bound)
unfoldable pub permit_known : Shape → Permit → Bool
permit_known sh p =
    (ltb p.relation (length sh) && mask_known sh p)
    && (in_scope sh limits.permit-variables p.condition (update nobody 0 (some p.relation)) && unique (0 ∷ variables (bindings p.condition)))

unfoldable pub fails22 : Shape → List Permit → Bool
fails22 sh ps = not (all (permit_known sh) ps)

-- 23: a permit's relation, or one bound in its condition, is a workspace
unfoldable pub permit_stored : Shape → Permit → Bool
permit_stored sh p = stored_at sh p.relation && all (λ (b : Binding). stored_at sh b.relation) (bindings p.condition)

unfoldable pub fails23 : Shape → List Permit → Bool
fails23 sh ps = not (all (permit_stored sh) ps)

-- 30: too many bytes or not well formed
unfoldable pub fails30 : Limits → List ℕ → Bool
fails30 l qb = ltb l.bytes (length qb) || failed (read_query qb)

-- 31: over 4 RANGEs, 8 targets, the levels or the variables (counted as binding records)
unfoldable pub fails31 : Limits → Query → Bool
fails31 l q =
    (ltb l.ranges (length q.ranges) || ltb l.targets (length q.targets))
    || (ltb l.nesting (levels_q q) || ltb l.bound (length (bindings_q q)))

-- 32: unknown relation or attribute, variable over its limit, out of reach or bound twice
unfoldable pub fails32 : Limits → Shape → Query → Bool
fails32 l sh q = not (query_in_scope sh l.bound q && bound_once q)

-- 33: some variable over a stored relation is barred or has no applying permit
unfoldable pub served : Shape → List Permit → Query → Binding → Bool
served sh ps q b =
    let s = used_of q b.variable in
    not (stored_at sh b.relation) || (not (any (bars s b.relation) ps) && any (applies s b.relation) ps)

unfoldable pub fails33 : Shape → List Permit → Query → Bool
fails33 sh ps q = not (all (served sh ps q) (bindings_q q))

-- 40: the rewritten query is longer than its buffer
unfoldable pub rewritten_bytes : Shape → List Permit → Query → List ℕ
rewritten_bytes sh ps q = encode_query (rewrite_query (guards_of sh ps q) q)

unfoldable pub fails40 : Shape → List Permit → Query → ℕ → Bool
fails40 sh ps q room = ltb room (length (rewritten_bytes sh ps q))

-- a check: whether it fails, and its number
abbrev pub Check : Type 0
Check = Bool × ℕ

unfoldable pub keeper_checks : List ℕ → List ℤ → List Check
keeper_checks cb vs = (fails10 cb, 10) ∷ (fails11 cb vs, 11) ∷ []

unfoldable pub permit_checks : Shape → List ℕ → List Check
permit_checks sh pb =
    let ps = permits_of pb in
    (fails20 pb, 20) ∷ (fails21 ps, 21) ∷ (fails22 sh ps, 22) ∷ (fails23 sh ps, 23) ∷ []

unfoldable pub query_checks : Limits → Shape → List ℕ → List Check
query_checks l sh qb =
    let q = query_of qb in
    (fails30 l qb, 30) ∷ (fails31 l q, 31) ∷ (fails32 l sh q, 32) ∷ []

unfoldable pub guard_checks : Shape → List ℕ → List ℕ → ℕ → List Check
guard_checks sh pb qb room =
    let ps = permits_of pb in
    let q = query_of qb in
    (fails33 sh ps q, 33) ∷ (fails40 sh ps q room, 40) ∷ []

-- 20 to 40: of the shape, the permits, the query and the buffer's length alone
unfoldable pub shape_checks : Shape → List ℕ → List ℕ → ℕ → List Check
shape_checks sh pb qb room = permit_checks sh pb ++ (query_checks guarded_limits sh qb ++ guard_checks sh pb qb room)

-- all checks of the guarded call but 41, and of the plain evaluator
unfoldable pub ask_checks : List ℕ → List ℤ → List ℕ → List ℕ → ℕ → List Check
ask_checks cb vs pb qb room = keeper_checks cb vs ++ shape_checks (shape_of (catalogue_of cb)) pb qb room

unfoldable pub evaluate_checks : List ℕ → List ℤ → List ℕ → List Check
evaluate_checks cb vs qb = keeper_checks cb vs ++ query_checks plain_limits (shape_of (catalogue_of cb)) qb

-- checks run by rising number: the number of the first that fails, or 0
unfoldable pub refusal : List Check → ℕ
refusal [] = 0
refusal (c ∷ cs) = cond c.0 c.1 (refusal cs)
