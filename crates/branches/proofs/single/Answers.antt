use Rattle.std.proofs.Common.{arith}
use Rattle.branches.proofs.Compiling.{placed, compared}
use Rattle.branches.proofs.single.Goals as goal

pub returns-in_default : goal.returns-in_default
returns-in_default c = placed c.args.k c.args.ways.met c.args.ways.unmet c.args.t.now c.write.new.t c.args.q.now c.args.z.now c.args.memo.now c.args.spot.place c.args.spot.level c.write.ensures c.requires.0 c.requires.2 c.requires.1 c.requires.3 c.requires.4

pub returns : goal.returns
returns c = compared c.args.k c.args.ways.met c.args.ways.unmet c.args.t.now c.write-2.new.t c.write-3.new.t c.args.q.now c.args.z.now _ _ c.args.memo.now c.args.spot.place c.args.spot.level _ c.in-Some.x c.from.ensures c.write-2.ensures c.requires.0 (omega (arith, c.write-2.auto, c.requires.0)) c.requires.2 c.write-3.ensures c.tail-c.ensures c.tail_sizes-sizes.ensures c.in-Some.ensures (λ e. omega (arith, e)) c.requires.1 c.requires.3 c.requires.4
