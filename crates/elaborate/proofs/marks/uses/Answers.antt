use native.Mathlib.Omega.{arith}
use mathlib.Core.Path.{refl, ◌∙◌}
use Rattle.elaborate.specs.Places.{table}
use Rattle.elaborate.specs.Lookup.{ids_in}
use Rattle.elaborate.proofs.marks.Marking.{left-start, left-next, left_end, depth-name, not_noted, clear-marked}
use Rattle.elaborate.proofs.reach.Holds.{clear_zero}
use Rattle.elaborate.proofs.marks.uses.Goals as goal

pub loop-i-init : goal.loop-i-init
loop-i-init c = (λ text ss ns g. left-start text (table c.args.kinds.now ss ns) (ids_in c.args.lookup.now.table.now) c.args.from c.args.used.now c.requires.3, omega arith, refl, clear_zero c.args.used.now c.requires.3)

pub note-requires : goal.note-requires
note-requires c = (omega (arith, c.loop-i-test.true, c.requires.0), omega (arith, c.requires.2 c.loop-i.i, c.requires.1, c.loop-i.invariant.2))

pub loop-i-preserved-then-kind-eq0 : goal.loop-i-preserved-then-kind-eq0
loop-i-preserved-then-kind-eq0 c = (λ text ss ns g. left-next text (table c.args.kinds.now ss ns) (ids_in c.args.lookup.now.table.now) c.args.from c.loop-i.d c.loop-i.i _ _ c.loop-i-test.true (c.loop-i.invariant.0 text ss ns g) g (omega (arith, c.requires.2 c.loop-i.i, c.requires.1, c.loop-i.invariant.2)) c.note.ensures _ (depth-name _ c.loop-i.d c.if-kind-eq0.true), omega (arith, c.loop-i.invariant.1), c.note.auto.used ∙ c.loop-i.invariant.2, clear-marked (ids_in c.args.lookup.now.table.now) c.loop-i.used c.loop-i.i _ _ (omega (arith, c.requires.2 c.loop-i.i, c.requires.1, c.loop-i.invariant.2)) c.note.ensures c.loop-i.invariant.3)

pub depth-d-requires : goal.depth-d-requires
depth-d-requires c = omega (arith, c.loop-i.invariant.1, c.loop-i-test.true, c.requires.0)

pub loop-i-preserved : goal.loop-i-preserved
loop-i-preserved c = (λ text ss ns g. left-next text (table c.args.kinds.now ss ns) (ids_in c.args.lookup.now.table.now) c.args.from c.loop-i.d c.loop-i.i _ _ c.loop-i-test.true (c.loop-i.invariant.0 text ss ns g) g (omega (arith, c.requires.2 c.loop-i.i, c.requires.1, c.loop-i.invariant.2)) (not_noted c.args.kinds.now (ids_in c.args.lookup.now.table.now) c.loop-i.used c.loop-i.d c.loop-i.i c.if-kind-eq0.false) _ c.depth-d.ensures.value, omega (arith, c.loop-i.invariant.1, c.depth-d.ensures.upper_bound), c.loop-i.invariant.2, c.loop-i.invariant.3)

pub returns : goal.returns
returns c = record { by_index = λ text ss ns g. left_end text (table c.args.kinds.now ss ns) (ids_in c.args.lookup.now.table.now) c.args.from c.loop-i.d c.loop-i.i _ c.loop-i-test.false (c.loop-i.invariant.0 text ss ns g); clear = c.loop-i.invariant.3 }
