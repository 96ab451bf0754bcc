use Rattle.elaborate.proofs.marks.Bound.{place-some, place-own}
use Rattle.elaborate.proofs.marks.bound_place.Goals as goal

pub returns-then-byte-eq16 : goal.returns-then-byte-eq16
returns-then-byte-eq16 c = place-some c.args.kinds.now c.args.i c.byte.result c.byte.ensures c.if-byte-eq16.true

pub returns-else-byte-eq16 : goal.returns-else-byte-eq16
returns-else-byte-eq16 c = place-own c.args.kinds.now c.args.i c.byte.result c.byte.ensures c.if-byte-eq16.false
