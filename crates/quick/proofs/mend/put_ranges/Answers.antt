use native.Mathlib.Omega.{arith}
use Prim.Native.Nat.{◌+◌, ◌%◌}
use mathlib.Core.Path.{refl, ◌∙◌}
use lib.ListN.{set, length-set}
use Rattle.parts.specs.Table.{relation_at, number_at}
use Rattle.quick.proofs.mend.Laws.{ranges-begin, ranges-end, ranges-over, ranges-room, ranges_more}
use Rattle.quick.proofs.mend.put_ranges.Goals as goal

pub loop-i-init : goal.loop-i-init
loop-i-init c = (refl, ranges-begin (λ i. number_at c.args.symbols.now i % 256) c.args.symbols.now c.args.n c.args.out.now)

pub loop-i-preserved-then-symbols-i-eq0 : goal.loop-i-preserved-then-symbols-i-eq0
loop-i-preserved-then-symbols-i-eq0 c = let symbols = c.args.symbols.now in
    (c.loop-i.invariant.0, ranges-over (λ i. number_at symbols i % 256) symbols c.args.n c.args.out.now c.loop-i.out c.loop-i.i c.loop-i.at c.loop-i-test.true c.loop-i.invariant.1 c.if-symbols-i-eq0.true)

pub bounds-out-at : goal.bounds-out-at
bounds-out-at c = let symbols = c.args.symbols.now in
    omega (arith, c.loop-i.invariant.0, c.requires.1, ranges-room (λ i. number_at symbols i % 256) symbols c.args.n c.args.out.now c.loop-i.out c.loop-i.i c.loop-i.at c.loop-i-test.true c.loop-i.invariant.1 c.if-symbols-i-eq0.false)

pub overflow_add-out-in-loop-i : goal.overflow_add-out-in-loop-i
overflow_add-out-in-loop-i c = let symbols = c.args.symbols.now in
    record { fits = omega (arith, c.loop-i.invariant.0, c.requires.1, ranges-room (λ i. number_at symbols i % 256) symbols c.args.n c.args.out.now c.loop-i.out c.loop-i.i c.loop-i.at c.loop-i-test.true c.loop-i.invariant.1 c.if-symbols-i-eq0.false) }

pub bounds-out-at-in-loop-i : goal.bounds-out-at-in-loop-i
bounds-out-at-in-loop-i c = let symbols = c.args.symbols.now in
    omega (arith, c.loop-i.invariant.0, c.requires.1, ranges-room (λ i. number_at symbols i % 256) symbols c.args.n c.args.out.now c.loop-i.out c.loop-i.i c.loop-i.at c.loop-i-test.true c.loop-i.invariant.1 c.if-symbols-i-eq0.false, length-set c.loop-i.out c.loop-i.at 1)

pub bounds-out-at-in-loop-i-2 : goal.bounds-out-at-in-loop-i-2
bounds-out-at-in-loop-i-2 c = let symbols = c.args.symbols.now in
    omega (arith, c.loop-i.invariant.0, c.requires.1, ranges-room (λ i. number_at symbols i % 256) symbols c.args.n c.args.out.now c.loop-i.out c.loop-i.i c.loop-i.at c.loop-i-test.true c.loop-i.invariant.1 c.if-symbols-i-eq0.false, length-set c.loop-i.out c.loop-i.at 1, length-set (set c.loop-i.out c.loop-i.at 1) (c.loop-i.at + 1) (number_at symbols c.loop-i.i % 256))

pub loop-i-preserved : goal.loop-i-preserved
loop-i-preserved c = let symbols = c.args.symbols.now in
    (length-set (set (set c.loop-i.out c.loop-i.at 1) (c.loop-i.at + 1) (number_at symbols c.loop-i.i % 256)) (c.loop-i.at + 2) (relation_at symbols c.loop-i.i % 256) ∙ length-set (set c.loop-i.out c.loop-i.at 1) (c.loop-i.at + 1) (number_at symbols c.loop-i.i % 256) ∙ length-set c.loop-i.out c.loop-i.at 1 ∙ c.loop-i.invariant.0, ranges_more (λ i. number_at symbols i % 256) symbols c.args.n c.args.out.now c.loop-i.out c.loop-i.i c.loop-i.at c.loop-i-test.true c.loop-i.invariant.1 c.if-symbols-i-eq0.false)

pub returns : goal.returns
returns c = let h = ranges-end (λ i. number_at c.args.symbols.now i % 256) c.args.symbols.now c.args.n c.args.out.now c.loop-i.out c.loop-i.i c.loop-i.at c.loop-i-test.false c.loop-i.invariant.1 in record { value = h.0; out_after = h.1 }
