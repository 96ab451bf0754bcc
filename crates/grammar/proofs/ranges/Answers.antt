use native.Mathlib.Omega.{arith}
use Rattle.grammar.specs.Shapes.{ranges_part}
use Rattle.grammar.proofs.Parts.{range-end, range-cut, range-fits, range-turn}
use Rattle.grammar.proofs.ranges.Goals as goal

pub returns-in_default : goal.returns-in_default
returns-in_default c = let q = c.args.q.now in
    range-cut q c.loop-at.at c.loop-at.n (ranges_part q) c.byte.result c.byte.ensures c.loop-at.invariant.0 c.loop-at-test.true c.tail.result.now c.head_record.result c.tail.ensures c.head_record.ensures c.in_default.is

pub loop-at-preserved : goal.loop-at-preserved
loop-at-preserved c = let q = c.args.q.now in
    let h = range-fits q c.loop-at.at c.loop-at.n (ranges_part q) c.byte.result c.byte.ensures c.loop-at.invariant.0 c.loop-at-test.true c.tail.result.now c.head_record.result c.tail.ensures c.head_record.ensures c.in-Range.field-0 c.in-Range.field-1 c.in-Range.is c.record_length-at.result c.record_length-at.ensures.value in (range-turn q c.loop-at.at c.loop-at.n (ranges_part q) c.byte.result c.byte.ensures c.loop-at.invariant.0 c.loop-at-test.true c.tail.result.now c.head_record.result c.tail.ensures c.head_record.ensures c.in-Range.field-0 c.in-Range.field-1 c.in-Range.is c.record_length-at.result c.record_length-at.ensures.value, omega (arith, c.loop-at.invariant.1), omega (arith, c.loop-at.invariant.2))

pub returns : goal.returns
returns c = let q = c.args.q.now in
    range-end q c.loop-at.at c.loop-at.n (ranges_part q) c.byte.result c.byte.ensures c.loop-at.invariant.0 c.loop-at-test.false
