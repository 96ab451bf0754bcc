use mathlib.Core.Path.{◌∙◌}
use Rattle.copier.proofs.Sets.{turn}
use Rattle.copier.proofs.copy.Goals as goal

pub loop-i-preserved : goal.loop-i-preserved
loop-i-preserved c = (turn c.args.out.now c.args.src.now c.loop-i.out c.args.at c.loop-i.i c.put.new.out c.loop-i-test.true c.loop-i.invariant.0 c.put.ensures.out_after, c.put.auto.out ∙ c.loop-i.invariant.1)
