use native.Mathlib.Omega.{arith}
use Rattle.grammar.specs.Sizes.{permit_size}
use Rattle.grammar.proofs.Listed.{permit-takes, refused-at, turned-at, passed-at}
use Rattle.grammar.proofs.Bounds.{part-takes}
use Rattle.grammar.proofs.permits.Goals as goal

pub returns-in_default : goal.returns-in_default
returns-in_default c = refused-at c.args.bytes.now c.tail.result.now c.loop-at.at c.permit.result c.tail.ensures c.permit.ensures c.loop-at-test.true c.loop-at.invariant.0 c.in_default.is

pub overflow_add-at : goal.overflow_add-at
overflow_add-at c = let h = part-takes permit_size c.args.bytes.now c.tail.result.now c.loop-at.at c.in-Some.n c.permit.result c.tail.ensures c.permit.ensures c.in-Some.is permit-takes in omega (arith, c.loop-at.invariant.1)

pub loop-at-smaller : goal.loop-at-smaller
loop-at-smaller c = let h = part-takes permit_size c.args.bytes.now c.tail.result.now c.loop-at.at c.in-Some.n c.permit.result c.tail.ensures c.permit.ensures c.in-Some.is permit-takes in omega (arith, c.loop-at.invariant.1)

pub loop-at-preserved : goal.loop-at-preserved
loop-at-preserved c = let list = c.args.bytes.now in
    let h = part-takes permit_size list c.tail.result.now c.loop-at.at c.in-Some.n c.permit.result c.tail.ensures c.permit.ensures c.in-Some.is permit-takes in (turned-at list c.tail.result.now c.loop-at.at c.permit.result c.tail.ensures c.permit.ensures c.loop-at-test.true c.loop-at.invariant.0 c.in-Some.n c.in-Some.is, omega (arith, c.loop-at.invariant.1))

pub returns : goal.returns
returns c = passed-at c.args.bytes.now c.loop-at.at c.loop-at-test.false c.loop-at.invariant.0
