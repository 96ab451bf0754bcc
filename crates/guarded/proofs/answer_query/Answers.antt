use Prim.Native.Nat.{ℕ}
use lib.ListN.{replicate}
use Rattle.model.specs.Demands.{columns_of}
use Rattle.model.specs.Calls.{give}
use lib.IntN.{ℤ}
use mathlib.Core.List.{List}
use mathlib.Core.Path.{ap, ◌∙◌}
use Rattle.std.proofs.lemmas.Result.{err_from_is_err_and}
use native.Mathlib.Omega.{arith}
use Rattle.rewriter.specs.Rewritten.{places_in, masks_in}
use Rattle.guards.proofs.Counts.{blank-short}
use Rattle.guarded.proofs.Numbers.{refused-33, refused-40, short-query, short-list, ask-passes, writable, length-is}
use Rattle.guarded.proofs.Outcomes.{written_all, roomy, answered, answerable, permitted-answers, binds, bytes-filled}
use Rattle.guarded.proofs.answer_query.Goals as goal

pub fill-requires : goal.fill-requires
fill-requires c = let answer = c.args.answer.now in let catalogue = c.args.catalogue.now in let list = c.args.permits.now in let query = c.args.query.now in let rewritten = c.args.rewritten.now in let values = c.args.values.now in
    (short-query catalogue values list query rewritten answer c.requires.kept c.requires.permits c.requires.query, short-list catalogue values list query rewritten answer c.requires.kept c.requires.permits c.requires.query, blank-short 16)

pub returns-in_err-length : goal.returns-in_err-length
returns-in_err-length c = let p = err_from_is_err_and c.from_residual.result c.from_residual.ensures.1 in rw (p.1, p.2) (refused-33 c.args.catalogue.now c.args.values.now c.args.permits.now c.args.query.now c.args.rewritten.now c.args.answer.now c.requires.kept c.requires.permits c.requires.query _ _ c.fill.ensures.table_after c.fill.result c.fill.ensures.value _ c.in_err-length.was)

pub returns-then-rewritten-length : goal.returns-then-rewritten-length
returns-then-rewritten-length c = refused-40 c.args.catalogue.now c.args.values.now c.args.permits.now c.args.query.now c.args.rewritten.now c.args.answer.now c.requires.kept c.requires.permits c.requires.query _ _ c.fill.ensures.table_after c.fill.result c.fill.ensures.value _ c.in_ok-length.was (omega arith) c.if-rewritten-length.true

pub rewrite_query-requires : goal.rewrite_query-requires
rewrite_query-requires c = let catalogue = c.args.catalogue.now in let list = c.args.permits.now in let query = c.args.query.now in let z = c.args.z.now in let layout = c.args.layout in
    roomy layout catalogue list query z _ (writable catalogue c.args.values.now list query c.args.rewritten.now c.args.answer.now c.requires.kept c.requires.permits c.requires.query _ _ c.fill.ensures.table_after c.fill.result c.fill.ensures.value _ c.in_ok-length.was (omega arith) c.if-rewritten-length.false layout z c.requires.ready) _ _ (omega arith) (omega arith) _ _ c.fill.ensures.table_after c.fill.ensures.table_after_2

pub answer_permitted-reply-requires : goal.answer_permitted-reply-requires
answer_permitted-reply-requires c = let catalogue = c.args.catalogue.now in let list = c.args.permits.now in let query = c.args.query.now in let z = c.args.z.now in let layout = c.args.layout in
    let able = (writable catalogue c.args.values.now list query c.args.rewritten.now c.args.answer.now c.requires.kept c.requires.permits c.requires.query _ _ c.fill.ensures.table_after c.fill.result c.fill.ensures.value _ c.in_ok-length.was (omega arith) c.if-rewritten-length.false layout z c.requires.ready) in (answerable layout catalogue query z able.catalogue c.requires.query c.requires.laid c.requires.ready, binds layout catalogue list query z _ able (places_in (replicate {A = ℕ} 24 0)) (masks_in (replicate {A = ℕ} 24 0)) (omega arith) (omega arith), bytes-filled query list catalogue _ 24 c.fill.ensures.table_after_2)

pub returns : goal.returns
returns c = let answer = c.args.answer.now in let catalogue = c.args.catalogue.now in let list = c.args.permits.now in let query = c.args.query.now in let rewritten = c.args.rewritten.now in let values = c.args.values.now in let z = c.args.z.now in let layout = c.args.layout in
    let able = (writable catalogue values list query rewritten answer c.requires.kept c.requires.permits c.requires.query _ _ c.fill.ensures.table_after c.fill.result c.fill.ensures.value _ c.in_ok-length.was (omega arith) c.if-rewritten-length.false layout z c.requires.ready) in answered catalogue values list query rewritten answer (ask-passes catalogue values list query rewritten answer c.requires.kept c.requires.permits c.requires.query _ _ c.fill.ensures.table_after c.fill.result c.fill.ensures.value _ c.in_ok-length.was (omega arith) c.if-rewritten-length.false) _ _ _ _ (length-is catalogue values list query rewritten answer c.requires.kept c.requires.permits c.requires.query _ _ c.fill.ensures.table_after c.fill.result c.fill.ensures.value _ c.in_ok-length.was (omega arith)) c.if-rewritten-length.false (written_all layout catalogue list query z _ able _ _ (omega arith) (omega arith) _ _ c.fill.ensures.table_after c.fill.ensures.table_after_2 _ _ c.rewrite_query.ensures.out_after) (c.answer_permitted-reply.ensures ∙ ap (λ (rows : List (List ℤ)). give (columns_of query) rows answer) (permitted-answers layout catalogue list query z _ able _ _ (omega arith) (omega arith) _ _ c.fill.ensures.table_after c.fill.ensures.table_after_2 values))
