use Rattle.std.proofs.Common.{arith}
use Rattle.decide.proofs.seeks.Keys.{along-found, along-here, along-next}
use Rattle.decide.proofs.seeks.key_of.Goals as goal

pub returns-in-Some : goal.returns-in-Some
returns-in-Some c = let h = c.in-Some.ensures in
    (along-found c.args.t.now c.args.start c.loop-at.at _ c.loop-at-test.true h.0 c.loop-at.invariant.1 c.args.variable _ _ _ h.1, along-here c.args.t.now c.args.start c.loop-at.at _ c.loop-at-test.true h.0 c.loop-at.invariant.1 c.args.variable _ _ _ h.1 h.2)

pub loop-at-preserved : goal.loop-at-preserved
loop-at-preserved c = (omega arith, along-next c.args.t.now c.args.start c.loop-at.at _ c.loop-at-test.true c.size_at.ensures.value c.loop-at.invariant.1 c.if-size_at-ne1.false _ c.size_at-to.ensures.value (omega (arith, c.if-at-to.false)))
