use native.Mathlib.Omega.{arith}
use mathlib.Core.Path.{sym, subst}
use lib.ListN.{drop}
use Rattle.model.specs.Syntax.{Condition}
use Rattle.sizes.specs.Decode.{decode}
use Rattle.sizes.specs.Parts.{ranges_at}
use Rattle.conjuncts.specs.Filling.{Joined}
use Rattle.conjuncts.proofs.Joining.{joined-both, and-whole}
use Prim.Native.Nat.{◌-◌}
use Rattle.conjuncts.proofs.+split.Goals as goal

pub returns : goal.returns
returns t c = let memo = c.args.memo.now in let q = c.args.q.now in let z = c.args.z.now in let level = c.args.spot.level in let x = c.in-Some.x in let ranges = c.args.ranges in record { lower_bound = (omega (arith, c.split-next.ensures.lower_bound.0, c.split.ensures.lower_bound.0), c.split.ensures.lower_bound.1); joined = subst (λ (d : Condition). Joined c.split.result c.args.t.now c.split.new.t q z memo d (ranges_at ranges q)) (sym (and-whole x _ level c.args.spot.place q z c.eq.result c.in-Some.ensures c.eq.ensures c.if-eq.true)) (joined-both c.split-next.result c.split.result c.args.t.now c.split-next.new.t c.split.new.t q z memo (decode (level - 1) (drop x.first q) (drop x.first z)) (decode (level - 1) (drop x.second q) (drop x.second z)) (ranges_at ranges q) c.split-next.ensures.joined c.split.ensures.joined) }
