use Rattle.elaborate.proofs.opens.Often.{often-start, often-turn}
use Rattle.elaborate.proofs.opens.many.Goals as goal

pub loop-i-init : goal.loop-i-init
loop-i-init c = often-start c.args.out.now c.args.at c.args.b

pub loop-i-preserved : goal.loop-i-preserved
loop-i-preserved c = often-turn c.args.out.now c.loop-i.out _ c.args.at c.loop-i.i c.args.b c.loop-i.invariant c.put.ensures.out_after
