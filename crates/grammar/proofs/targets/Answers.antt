use native.Mathlib.Omega.{arith}
use mathlib.Core.Path.{◌∙◌}
use Rattle.grammar.specs.Sizes.{term_size}
use Rattle.grammar.specs.Shapes.{targets_part}
use Rattle.grammar.proofs.Parts.{target-end, target-cut, target-turn}
use Rattle.grammar.proofs.Bounds.{term-takes, part-takes}
use Rattle.grammar.proofs.targets.Goals as goal

pub returns-in_err-at : goal.returns-in_err-at
returns-in_err-at c = let q = c.args.q.now in
    c.from_residual.ensures ∙ target-cut q c.loop-at.at c.loop-at.n (targets_part q) c.byte.result c.byte.ensures c.loop-at.invariant.0 c.is_target.result c.is_target.ensures c.loop-at-test.true c.tail.result.now c.term.result c.tail.ensures c.term.ensures c.in_err-at.was

pub overflow_add-at : goal.overflow_add-at
overflow_add-at c = let h = part-takes term_size c.args.q.now c.tail.result.now c.loop-at.at c.in_ok-at.field-0 c.term.result c.tail.ensures c.term.ensures c.in_ok-at.was term-takes in omega (arith, c.loop-at.invariant.1)

pub loop-at-smaller : goal.loop-at-smaller
loop-at-smaller c = let h = part-takes term_size c.args.q.now c.tail.result.now c.loop-at.at c.in_ok-at.field-0 c.term.result c.tail.ensures c.term.ensures c.in_ok-at.was term-takes in omega (arith, c.loop-at.invariant.1)

pub loop-at-preserved : goal.loop-at-preserved
loop-at-preserved c = let q = c.args.q.now in
    let h = part-takes term_size q c.tail.result.now c.loop-at.at c.in_ok-at.field-0 c.term.result c.tail.ensures c.term.ensures c.in_ok-at.was term-takes in (target-turn q c.loop-at.at c.loop-at.n (targets_part q) c.byte.result c.byte.ensures c.loop-at.invariant.0 c.is_target.result c.is_target.ensures c.loop-at-test.true c.tail.result.now c.term.result c.tail.ensures c.term.ensures c.in_ok-at.field-0 c.in_ok-at.was, omega (arith, c.loop-at.invariant.1), omega (arith, c.loop-at.invariant.2))

pub returns : goal.returns
returns c = let q = c.args.q.now in
    target-end q c.loop-at.at c.loop-at.n (targets_part q) c.byte.result c.byte.ensures c.loop-at.invariant.0 c.is_target.result c.is_target.ensures c.loop-at-test.false
