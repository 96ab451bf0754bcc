use native.Mathlib.Omega.{arith}
use Rattle.quick.proofs.index.Slots.{way-start, way_slot, way-less, way_on, way-hit, way-miss}
use Rattle.quick.proofs.index.look.Goals as goal

pub bounds-names-code : goal.bounds-names-code
bounds-names-code c = omega (arith, c.requires.filled.size)

pub loop-slot-init : goal.loop-slot-init
loop-slot-init c = λ at n f. way-start c.args.list.now c.args.names.now at n f c.args.kind c.args.relation c.args.code (omega arith)

pub named-requires : goal.named-requires
named-requires c = (c.requires.filled.size, omega (arith, (c.loop-slot.invariant _ _ c.requires.filled).low, c.requires.filled.few), (way_slot c.args.list.now c.args.names.now _ _ c.requires.filled c.args.kind c.args.relation c.args.code c.loop-slot.slot (c.loop-slot.invariant _ _ c.requires.filled) c.loop-slot-test.true).inside)

pub overflow_add-result : goal.overflow_add-result
overflow_add-result c = record { fits = omega (arith, (c.loop-slot.invariant _ _ c.requires.filled).low, c.requires.filled.few) }

pub offset_bounds-names-slot : goal.offset_bounds-names-slot
offset_bounds-names-slot c = record { fits = omega (arith, (c.loop-slot.invariant _ _ c.requires.filled).low, c.requires.filled.few) }

pub bounds-names-slot : goal.bounds-names-slot
bounds-names-slot c = omega (arith, c.requires.filled.size, (c.loop-slot.invariant _ _ c.requires.filled).low, c.requires.filled.few)

pub returns-then-named : goal.returns-then-named
returns-then-named c = let list = c.args.list.now in let names = c.args.names.now in let code = c.args.code in let kind = c.args.kind in let relation = c.args.relation in record { result_in_bounds = (way_slot list names _ _ c.requires.filled kind relation code c.loop-slot.slot (c.loop-slot.invariant _ _ c.requires.filled) c.loop-slot-test.true).inside; by_index = λ at n f. way-hit list names at n f kind relation code c.loop-slot.slot (c.loop-slot.invariant at n f) c.loop-slot-test.true c.named.result c.named.ensures c.if-named.true }

pub overflow_add-slot-in-loop-slot : goal.overflow_add-slot-in-loop-slot
overflow_add-slot-in-loop-slot c = record { fits = omega (arith, (c.loop-slot.invariant _ _ c.requires.filled).low, c.requires.filled.few) }

pub offset_bounds-names-slot-in-loop-slot : goal.offset_bounds-names-slot-in-loop-slot
offset_bounds-names-slot-in-loop-slot c = record { fits = omega (arith, (c.loop-slot.invariant _ _ c.requires.filled).low, c.requires.filled.few) }

pub bounds-names-slot-in-loop-slot : goal.bounds-names-slot-in-loop-slot
bounds-names-slot-in-loop-slot c = omega (arith, c.requires.filled.size, (c.loop-slot.invariant _ _ c.requires.filled).low, c.requires.filled.few)

pub loop-slot-smaller : goal.loop-slot-smaller
loop-slot-smaller c = way-less c.args.list.now c.args.names.now _ _ c.requires.filled c.args.kind c.args.relation c.args.code c.loop-slot.slot (c.loop-slot.invariant _ _ c.requires.filled) c.loop-slot-test.true

pub loop-slot-preserved : goal.loop-slot-preserved
loop-slot-preserved c = λ at n f. way_on c.args.list.now c.args.names.now at n f c.args.kind c.args.relation c.args.code c.loop-slot.slot (c.loop-slot.invariant at n f) c.loop-slot-test.true c.named.result c.named.ensures c.if-named.false

pub returns : goal.returns
returns c = record { result_in_bounds = tt; by_index = λ at n f. way-miss c.args.list.now c.args.names.now at n f c.args.kind c.args.relation c.args.code c.loop-slot.slot (omega (arith, c.loop-slot-test.false)) (c.loop-slot.invariant at n f) }
