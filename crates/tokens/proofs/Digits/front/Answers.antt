use Rattle.tokens.specs.Spans.{within}
use Rattle.tokens.proofs.Places.{first-at, first-end}
use Rattle.tokens.proofs.Reached.{turn, ended}
use Rattle.std.proofs.Common.{sym, ◌∙◌, arith}
use Rattle.tokens.proofs.Digits.front.Goals as goal

pub returns-then-not-has : goal.returns-then-not-has
returns-then-not-has c =
    let d = c.args.self in
    let p = ended c.args.s.now d.low d.high d.base c.args.start d.some _ _ c.loop-size.invariant (first-at (within d.low d.high) _ _ c.loop-size-test.true ∙ (sym c.has.ensures ∙ c.if-not-has.true)) in
    record { inside = c.loop-size.invariant.inside; size = p.0; value = p.1 }

pub loop-size-preserved : goal.loop-size-preserved
loop-size-preserved c =
    let d = c.args.self in
    turn c.args.s.now d.low d.high d.base c.args.start d.some _ _ c.loop-size.invariant (first-at (within d.low d.high) _ _ c.loop-size-test.true ∙ (sym c.has.ensures ∙ c.if-not-has.false)) _ c.grown-value.ensures

pub returns : goal.returns
returns c =
    let d = c.args.self in
    let p = ended c.args.s.now d.low d.high d.base c.args.start d.some _ _ c.loop-size.invariant (first-end (within d.low d.high) c.args.s.now c.loop-size.size c.loop-size-test.false) in
    record { inside = omega arith; size = omega (arith, p.0, c.loop-size.auto.size-end, c.loop-size-test.false); value = p.1 }
