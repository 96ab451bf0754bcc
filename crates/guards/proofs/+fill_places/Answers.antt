use native.Mathlib.Omega.{arith}
use Rattle.guards.proofs.Steps.{places-none, places-end, places-next, next-near}
use Rattle.guards.proofs.+fill_places.Goals as goal

pub returns-then-left-eq0 : goal.returns-then-left-eq0
returns-then-left-eq0 t c = places-none c.args.left c.args.permits.now c.args.at c.args.k c.args.table.now c.if-left-eq0.true

pub returns-then-permits-at : goal.returns-then-permits-at
returns-then-permits-at t c = places-end c.args.left c.args.permits.now c.args.at c.args.k c.args.table.now c.if-permits-at.true

pub put-requires : goal.put-requires
put-requires t c = omega (arith, c.if-permits-at.false, c.header-own.ensures, c.requires.2)

pub put-requires-2 : goal.put-requires-2
put-requires-2 t c = omega (arith, c.header-own.ensures, next-near c.args.at c.size-n.result c.args.permits.now _ c.tail-rest.ensures (omega (arith, c.if-permits-at.false)) c.size-n.ensures.lower_bound.1 c.requires.2)

pub fill_places-requires : goal.fill_places-requires
fill_places-requires t c = (omega (arith, c.decreases, c.if-left-eq0.false), (next-near c.args.at c.size-n.result c.args.permits.now _ c.tail-rest.ensures (omega (arith, c.if-permits-at.false)) c.size-n.ensures.lower_bound.1 c.requires.2, omega (arith, c.requires.1, c.if-left-eq0.false), c.requires.2))

pub returns : goal.returns
returns t c = places-next c.args.left c.args.permits.now c.args.at c.args.k c.args.table.now c.header-own.result c.header-own.ensures _ _ _ _ _ c.if-left-eq0.false (omega (arith, c.if-permits-at.false)) c.tail-rest.ensures c.put.ensures c.size-n.ensures.value c.put-2.ensures c.fill_places.ensures
