use lib.ListN.{drop}
use Rattle.sizes.specs.Decode.{decode}
use Rattle.sizes.specs.Parts.{ranges_at}
use Rattle.conjuncts.proofs.Joining.{planned}
use Rattle.conjuncts.proofs.plan.Goals as goal

pub returns : goal.returns
returns c = let q = c.args.q.now in let z = c.args.z.now in let condition = c.args.condition in
    λ ws vs. planned c.args.t.now c.requires.4 q z ws vs c.args.memo.now c.split.result c.split.new.t (decode c.args.level (drop condition q) (drop condition z)) (ranges_at c.args.ranges q) c.split.ensures.joined
