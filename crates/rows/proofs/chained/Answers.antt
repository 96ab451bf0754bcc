use native.Mathlib.Omega.{arith}
use mathlib.Core.Path.{◌≡◌, refl, sym, ap, ◌∙◌, subst}
use Prim.Native.Nat.{ℕ, ◌+◌, ◌-◌, ◌*◌, min}
use lib.ListN.{length, get_or}
use mathlib.Core.Bool.{true, false}
use Rattle.rows.specs.Chains.{nexts_of, bucket_of, bucket_at, LastOf}
use Rattle.rows.proofs.Folded.{bucket-low}
use Rattle.rows.proofs.Links.{passed_start, passed_none, passed-hit, passed-step, row-part}
use Rattle.rows.proofs.chained.Goals as goal

pub loop-link-init : goal.loop-link-init
loop-link-init c = let answer = c.args.answer.now in let row = c.args.row.now in let table = c.args.table.now in
    passed_start row answer (length table) _ _ (subst (LastOf (λ (j : ℕ). bucket_at (length table) (length row) answer j ≡ bucket_of (length table) row) (min c.args.rows (nexts_of (length table)))) (sym (c.size_at-link.ensures.value ∙ ap (λ (h : ℕ). get_or table h 0) c.requires.1)) (c.requires.0.chained.first (bucket_of (length table) row) (bucket-low (length table) row)))

pub returns-then-same : goal.returns-then-same
returns-then-same c = let answer = c.args.answer.now in let row = c.args.row.now in let link = c.loop-link.link in
    sym (passed-hit row answer (length c.args.table.now) _ link c.loop-link-test.true c.loop-link.invariant.low (λ i j a b. c.requires.0.distinct i j a (omega arith)) (row-part answer ((link - 1) * length row) (link - 1) row _ c.same.result true refl refl c.same.ensures c.if-same.true))

pub loop-link-preserved : goal.loop-link-preserved
loop-link-preserved c = let answer = c.args.answer.now in let row = c.args.row.now in let table = c.args.table.now in let link = c.loop-link.link in
    passed-step row answer (length table) _ (link - 1) link _ (omega (arith, c.loop-link-test.true)) (row-part answer ((link - 1) * length row) (link - 1) row _ c.same.result false refl refl c.same.ensures c.if-same.false) c.loop-link.invariant (subst (LastOf (λ (j : ℕ). bucket_at (length table) (length row) answer j ≡ bucket_at (length table) (length row) answer (link - 1)) (link - 1)) (sym (c.size_at-link-in-loop-link.ensures.value ∙ ap (λ (h : ℕ). get_or table (h + (link - 1)) 0) c.heads-first.ensures)) (c.requires.0.chained.next (link - 1) (omega (arith, c.loop-link.invariant.low, c.loop-link-test.true))))

pub returns : goal.returns
returns c =
    let e : c.min.result ≡ min c.args.rows (nexts_of (length c.args.table.now)) = c.min.ensures ∙ ap (λ (n : ℕ). min c.args.rows n) c.nexts.ensures in
    ap (λ (n : ℕ). record { found = false; tried = n }) e ∙ sym (passed_none c.args.row.now c.args.answer.now (length c.args.table.now) _ c.loop-link.link (omega (arith, c.loop-link-test.false)) c.loop-link.invariant)
