use Rattle.std.proofs.Common.{arith, refl, not, ap}
use Rattle.branches.proofs.Operands.{recalled-means}
use Rattle.branches.proofs.aggregate_of.Goals as goal

pub returns : goal.returns
returns c = recalled-means c.args.memo.now c.args.variable c.from.result c.knows.result _ c.knows.ensures (ap not c.if-not-knows.false) c.from.ensures (omega arith) refl
