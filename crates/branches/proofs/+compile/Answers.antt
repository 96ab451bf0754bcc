use Rattle.std.proofs.Common.{arith, ◌-◌, drop}
use Rattle.sizes.specs.Decode.{decode}
use Rattle.branches.proofs.Compiling.{searched}
use Rattle.branches.proofs.Joining.{joined-not, joined-and, joined-or}
use Rattle.branches.proofs.+compile.Goals as goal

pub returns-in_default-clause-compiled : goal.returns-in_default-clause-compiled
returns-in_default-clause-compiled t c = let q = c.args.q.now in let z = c.args.z.now in let s = c.in-Some-search_at.s in
    searched c.args.room.next c.compile-r.result c.args.ways.met c.args.ways.unmet s.variable c.in-Some-search_at.ensures.relation c.args.t.now c.compile-r.new.t c.write.new.t q z c.args.memo.now (decode (c.args.spot.level - 1) (drop s.place q) (drop s.place z)) _ (c.in-Some-search_at.ensures.whole z) c.in-Some-search_at.ensures.byte c.requires.1 c.compile-r.ensures.lower_bound.0 c.requires.4 c.requires.5 c.compile-r.ensures.compiled _ c.from.ensures c.write.ensures (omega (arith, c.compile-r.auto, c.requires.0)) (omega (arith, c.compile-r.ensures.lower_bound.1, c.requires.3))

pub returns-in-Not-clause-compiled : goal.returns-in-Not-clause-compiled
returns-in-Not-clause-compiled t c = let q = c.args.q.now in let z = c.args.z.now in let x = c.in-Some.x in let l = c.args.spot.level in
    joined-not c.args.room.next c.args.ways.met c.args.ways.unmet q z c.args.memo.now (decode (l - 1) (drop x.first q) (drop x.first z)) (decode (l - 1) (drop x.second q) (drop x.second z)) (decode l (drop c.args.spot.place q) (drop c.args.spot.place z)) x.kind c.in-Some.ensures.whole c.compile.result c.args.t.now c.compile.new.t c.in-Not.is c.compile.ensures.compiled

pub returns-in-And-clause-compiled : goal.returns-in-And-clause-compiled
returns-in-And-clause-compiled t c = let q = c.args.q.now in let z = c.args.z.now in let x = c.in-Some.x in let l = c.args.spot.level in
    joined-and c.args.room.next c.args.ways.met c.args.ways.unmet q z c.args.memo.now (decode (l - 1) (drop x.first q) (drop x.first z)) (decode (l - 1) (drop x.second q) (drop x.second z)) (decode l (drop c.args.spot.place q) (drop c.args.spot.place z)) x.kind c.in-Some.ensures.whole c.compile-r-in-And.result c.compile-in-And.result c.args.t.now c.compile-r-in-And.new.t c.compile-in-And.new.t c.compile-r-in-And.ensures.lower_bound.0 c.requires.4 c.requires.5 c.compile-r-in-And.ensures.compiled c.in-And.is c.compile-in-And.ensures.compiled

pub returns-in-Or-clause-compiled : goal.returns-in-Or-clause-compiled
returns-in-Or-clause-compiled t c = let q = c.args.q.now in let z = c.args.z.now in let x = c.in-Some.x in let l = c.args.spot.level in
    joined-or c.args.room.next c.args.ways.met c.args.ways.unmet q z c.args.memo.now (decode (l - 1) (drop x.first q) (drop x.first z)) (decode (l - 1) (drop x.second q) (drop x.second z)) (decode l (drop c.args.spot.place q) (drop c.args.spot.place z)) x.kind c.in-Some.ensures.whole c.compile-r-in-Or.result c.compile-in-Or.result c.args.t.now c.compile-r-in-Or.new.t c.compile-in-Or.new.t c.compile-r-in-Or.ensures.lower_bound.0 c.requires.4 c.requires.5 c.compile-r-in-Or.ensures.compiled c.in-Or.is c.compile-in-Or.ensures.compiled
