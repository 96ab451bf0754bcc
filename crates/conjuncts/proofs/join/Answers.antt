use native.Mathlib.Nat.{le_refl}
use Rattle.conjuncts.proofs.Joining.{joined, joined-true}
use Rattle.conjuncts.proofs.Stages.{length-ranges}
use Rattle.sizes.specs.Parts.{ranges_at}
use Rattle.sizes.specs.Decode.{decode}
use lib.ListN.{drop}
use mathlib.Core.Path.{refl}
use native.Mathlib.Omega.{arith}
use Rattle.conjuncts.proofs.join.Goals as goal

pub returns-then-always : goal.returns-then-always
returns-then-always c = let q = c.args.q.now in let z = c.args.z.now in let place = c.args.spot.place in record { lower_bound = (le_refl _, omega (arith, c.requires.2)); joined = joined-true c.args.room.next c.args.t.now q z c.args.memo.now (decode c.args.spot.level (drop place q) (drop place z)) (ranges_at c.args.ranges q) c.requires.7 (c.always.ensures c.if-always.true (drop place z)) }

pub returns : goal.returns
returns c = let q = c.args.q.now in let z = c.args.z.now in let place = c.args.spot.place in let ranges = c.args.ranges in record { lower_bound = (omega (arith, c.compile-r.ensures.lower_bound.0), omega (arith, c.compile-r.ensures.lower_bound.1)); joined = joined c.args.room.next c.compile-r.result c.stage_number-s.result c.size_at-after.result c.args.t.now c.compile-r.new.t _ q z c.args.memo.now (decode c.args.spot.level (drop place q) (drop place z)) (ranges_at ranges q) c.compile-r.ensures.compiled c.size_at-after.ensures.value refl c.requires.1 c.compile-r.ensures.lower_bound.0 (omega (arith, c.compile-r.auto.t, c.requires.0, c.requires.1, c.requires.2)) c.requires.7 (omega (arith, (length-ranges ranges q), c.requires.4)) c.stage_at-bound.result (omega (arith, (length-ranges ranges q), c.stage_at-bound.ensures.upper_bound)) c.stage_number-s.ensures.0 c.stage_number-s.ensures.1 c.stage_at-bound.ensures.stable }
