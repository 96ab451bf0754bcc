use native.Mathlib.Omega.{arith}
use mathlib.Core.Path.{refl, ◌∙◌}
use Rattle.rewriter.specs.Applying.{conditions_by}
use Rattle.copier.proofs.Turns.{state-start, state-room, state-again, state-end}
use Rattle.rewriter.proofs.guard.write_guard.Goals as goal

pub loop-m-init : goal.loop-m-init
loop-m-init c = (state-start c.args.out.now c.args.to.at c.args.mask (conditions_by c.args.applying.now) c.args.variable c.args.to.next, refl)

pub condition-requires : goal.condition-requires
condition-requires c = omega (arith, c.loop-m.invariant.0.2, c.loop-m-test.true, c.requires.2)

pub write_turn-w-requires : goal.write_turn-w-requires
write_turn-w-requires c = state-room c.args.out.now c.args.to.at c.args.mask (conditions_by c.args.applying.now) c.args.variable c.args.to.next c.loop-m.out c.loop-m.w.at c.loop-m.m c.loop-m.k c.loop-m.w.next c.loop-m.invariant.0 c.loop-m-test.true c.condition.result.now c.condition.ensures c.requires.0 c.requires.1

pub overflow_add-k : goal.overflow_add-k
overflow_add-k c = omega (arith, c.loop-m.invariant.0.2, c.loop-m-test.true, c.requires.2)

pub loop-m-smaller : goal.loop-m-smaller
loop-m-smaller c = omega (arith, c.loop-m.invariant.0.2, c.loop-m-test.true)

pub loop-m-preserved : goal.loop-m-preserved
loop-m-preserved c = (state-again c.args.out.now c.args.to.at c.args.mask (conditions_by c.args.applying.now) c.args.variable c.args.to.next c.loop-m.out c.loop-m.w.at c.loop-m.m c.loop-m.k c.loop-m.w.next c.loop-m.invariant.0 c.loop-m-test.true c.condition.result.now c.condition.ensures _ _ _ (c.write_turn-w.ensures.at_value, c.write_turn-w.ensures.out_after), c.write_turn-w.auto.out ∙ c.loop-m.invariant.1)

pub returns : goal.returns
returns c = let h = state-end c.args.out.now c.args.to.at c.args.mask (conditions_by c.args.applying.now) c.args.variable c.args.to.next c.loop-m.out c.loop-m.w.at c.loop-m.m c.loop-m.k c.loop-m.w.next c.loop-m.invariant.0 c.loop-m-test.false in record { at_value = h.0; out_after = h.1 }
