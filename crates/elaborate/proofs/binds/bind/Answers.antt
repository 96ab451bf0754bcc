use native.Mathlib.Omega.{arith}
use mathlib.Core.Path.{refl, ◌∙◌}
use lib.ListN.{get_or}
use Rattle.elaborate.specs.Places.{table}
use Rattle.names.specs.Entries.{entries}
use Rattle.elaborate.specs.Tallies.{open_relation}
use Rattle.elaborate.specs.Lookup.{ids_in}
use Rattle.elaborate.proofs.binds.Laws.{filling-none, filling-on, fills-off, filling-next, fills, end_step, past_end, within, within-next, tells_first}
use Rattle.elaborate.proofs.binds.bind.Goals as goal

pub loop-i-init : goal.loop-i-init
loop-i-init c = (filling-none c.args.kinds.now (ids_in c.args.lookup.now.table.now) c.args.known.now c.args.lookup.now.numbers.now (entries c.args.lookup.now.list.now) c.args.out.now c.args.known.now c.requires.3 (tells_first c.args.known.now c.requires.3), refl, refl, omega arith, omega arith)

pub returns-then-kind-eq14 : goal.returns-then-kind-eq14
returns-then-kind-eq14 c = record { fills = fills c.args.kinds.now (ids_in c.args.lookup.now.table.now) c.args.known.now c.args.lookup.now.numbers.now (entries c.args.lookup.now.list.now) c.args.out.now c.loop-i.known c.loop-i.out c.loop-i.s c.loop-i.i c.loop-i.invariant.0 (λ text ss ns main. end_step text (table c.args.kinds.now ss ns) (entries c.args.lookup.now.list.now) main c.loop-i.i c.loop-i-test.true c.if-kind-eq14.true (open_relation c.loop-i.s) c.loop-i.s.n); most = (omega (arith, c.loop-i.invariant.3, c.loop-i.auto.i-end), omega (arith, c.loop-i.invariant.4, c.loop-i.auto.i-end)) }

pub name-requires : goal.name-requires
name-requires c = let l = c.loop-i-test.true in (omega (arith, l, c.requires.0), omega (arith, c.loop-i.invariant.3, l, c.requires.0), omega (arith, c.loop-i.invariant.4, c.loop-i.auto.i-end, c.requires.0), omega (arith, c.requires.2 c.loop-i.i, c.requires.1, c.loop-i.invariant.1), c.requires.4)

pub returns-in_err-s : goal.returns-in_err-s
returns-in_err-s c = record { fills = rw c.from_residual.ensures (fills-off c.args.kinds.now (ids_in c.args.lookup.now.table.now) c.args.known.now c.args.lookup.now.numbers.now (entries c.args.lookup.now.list.now) c.args.out.now c.loop-i.known c.loop-i.out c.loop-i.s c.loop-i.i c.loop-i-test.true c.loop-i.invariant.0 c.name.result c.name.new.known c.name.new.out (c.name.ensures.by_index _ c.loop-i.invariant.0.symbols) c.if-kind-eq0.true c.in_err-s.was _); most = rw c.from_residual.ensures tt }

pub loop-i-preserved-then-kind-eq0 : goal.loop-i-preserved-then-kind-eq0
loop-i-preserved-then-kind-eq0 c = let b = within c.loop-i.s _ _ c.name.ensures.counts c.in_ok-s.was in (filling-on c.args.kinds.now (ids_in c.args.lookup.now.table.now) c.args.known.now c.args.lookup.now.numbers.now (entries c.args.lookup.now.list.now) c.args.out.now c.loop-i.known c.loop-i.out c.loop-i.s c.loop-i.i c.loop-i-test.true c.loop-i.invariant.0 c.name.result c.name.new.known c.name.new.out (c.name.ensures.by_index _ c.loop-i.invariant.0.symbols) c.if-kind-eq0.true _ c.in_ok-s.was, c.name.auto.known ∙ c.loop-i.invariant.1, c.name.auto.out ∙ c.loop-i.invariant.2, omega (arith, b.0, c.loop-i.invariant.3), omega (arith, b.1, c.loop-i.invariant.4))

pub loop-i-preserved : goal.loop-i-preserved
loop-i-preserved c = let b = within-next (get_or c.args.kinds.now c.loop-i.i 0) c.loop-i.s _ c.passed-s.ensures in (filling-next c.args.kinds.now (ids_in c.args.lookup.now.table.now) c.args.known.now c.args.lookup.now.numbers.now (entries c.args.lookup.now.list.now) c.args.out.now c.loop-i.known c.loop-i.out c.loop-i.s c.loop-i.i c.loop-i-test.true c.loop-i.invariant.0 c.if-kind-eq0.false c.if-kind-eq14.false _ c.passed-s.ensures, c.loop-i.invariant.1, c.loop-i.invariant.2, omega (arith, b.0, c.loop-i.invariant.3), omega (arith, b.1, c.loop-i.invariant.4))

pub returns : goal.returns
returns c = record { fills = fills c.args.kinds.now (ids_in c.args.lookup.now.table.now) c.args.known.now c.args.lookup.now.numbers.now (entries c.args.lookup.now.list.now) c.args.out.now c.loop-i.known c.loop-i.out c.loop-i.s c.loop-i.i c.loop-i.invariant.0 (λ text ss ns main. past_end text (table c.args.kinds.now ss ns) (entries c.args.lookup.now.list.now) main c.loop-i.i c.loop-i-test.false (open_relation c.loop-i.s) c.loop-i.s.n); most = (omega (arith, c.loop-i.invariant.3, c.loop-i.auto.i-end), omega (arith, c.loop-i.invariant.4, c.loop-i.auto.i-end)) }
