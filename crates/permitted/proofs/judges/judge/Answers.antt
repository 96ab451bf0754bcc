use native.Mathlib.Omega.{arith}
use mathlib.Core.Path.{sym, ap, subst}
use lib.ListN.{length}
use Rattle.walks.specs.declared.Walk.{Walk}
use Rattle.permitted.specs.Marked.{Bits}
use Rattle.permitted.proofs.judges.Steps.{marked_from}
use Rattle.permitted.proofs.judges.Shorts.{whole-marks}
use Rattle.permitted.proofs.judges.judge.Goals as goal

pub judge_short-requires : goal.judge_short-requires
judge_short-requires c = (omega (arith, ap (λ (w : Walk). w.count) c.whole-walk.ensures.value, c.requires.1), c.whole-walk.ensures.fits, c.requires.2)

pub returns-then-judge_short : goal.returns-then-judge_short
returns-then-judge_short c = let catalogue = c.args.catalogue.now in
    whole-marks catalogue c.args.values.now c.args.q.now c.args.relation c.whole-walk.result c.args.marks.now _ c.whole-walk.ensures.value (c.judge_short.ensures.marked c.if-judge_short.true catalogue)

pub judge_long-requires : goal.judge_long-requires
judge_long-requires c = (omega (arith, ap (λ (w : Walk). w.count) c.whole-walk.ensures.value, c.requires.0), omega (arith, ap (λ (w : Walk). w.count) c.whole-walk.ensures.value, c.requires.1, ap length (c.judge_short.ensures.marks_unchanged c.if-judge_short.false)), c.whole-walk.ensures.fits, subst Bits (sym (c.judge_short.ensures.marks_unchanged c.if-judge_short.false)) c.requires.2)

pub returns : goal.returns
returns c = whole-marks c.args.catalogue.now c.args.values.now c.args.q.now c.args.relation c.whole-walk.result c.args.marks.now _ c.whole-walk.ensures.value (marked_from (c.judge_short.ensures.marks_unchanged c.if-judge_short.false) c.judge_long.ensures)
