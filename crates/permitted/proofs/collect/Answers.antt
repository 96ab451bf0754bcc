use native.Mathlib.Omega.{arith}
use Prim.Native.Nat.{ℕ}
use mathlib.Core.Path.{ap, ◌∙◌}
use lib.ListN.{get_or}
use Rattle.permitted.specs.Given.{number_at}
use Rattle.permitted.proofs.Lists.{listed-none, listed_next, listed-end}
use Rattle.permitted.proofs.collect.Goals as goal

pub loop-i-init : goal.loop-i-init
loop-i-init c = (omega arith, omega arith, listed-none c.args.marks.now (number_at c.args.latest c.args.n) c.args.start c.args.walks.now)

pub bounds-walks-at : goal.bounds-walks-at
bounds-walks-at c = omega (arith, c.loop-i.invariant.1, c.loop-i.invariant.2.size, c.loop-i-test.true, c.requires.2)

pub bounds-marks-row : goal.bounds-marks-row
bounds-marks-row c = omega (arith, c.number-row.ensures.1, c.requires.0)

pub overflow_add-at : goal.overflow_add-at
overflow_add-at c = omega (arith, c.from-at.ensures, c.requires.4 c.number-row.result, c.loop-i.invariant.1, c.loop-i-test.true, c.requires.2, c.requires.3)

pub loop-i-preserved : goal.loop-i-preserved
loop-i-preserved c = let marks = c.args.marks.now in let rows = number_at c.args.latest c.args.n in
    (omega (arith, c.loop-i.invariant.0), omega (arith, c.loop-i.invariant.1, c.from-at.ensures, c.requires.4 c.number-row.result), listed_next marks rows c.args.start c.loop-i.at c.loop-i.i c.number-row.result c.from-at.result c.args.walks.now c.loop-i.walks c.requires.4 c.loop-i.invariant.2 (omega (arith, c.loop-i.invariant.1, c.loop-i-test.true, c.requires.2)) c.number-row.ensures.0 (c.from-at.ensures ∙ ap (λ (k : ℕ). get_or marks k 0) c.number-row.ensures.0))

pub returns : goal.returns
returns c = let n = c.args.n in
    record { listed = listed-end c.args.marks.now (number_at c.args.latest n) c.args.start c.loop-i.at c.loop-i.i n c.args.walks.now c.loop-i.walks (omega (arith, c.loop-i.auto.i-end, c.loop-i-test.false)) c.loop-i.invariant.2; lower_bound = (c.loop-i.invariant.0, omega (arith, c.loop-i.invariant.1, c.loop-i.auto.i-end)) }
