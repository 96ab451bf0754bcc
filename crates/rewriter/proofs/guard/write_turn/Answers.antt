use native.Mathlib.Omega.{arith}
use Rattle.copier.proofs.Turns.{turn-not, turn-first, turn-second, turn-done}
use Rattle.scans.specs.declared.Bindings.{Bindings}
use mathlib.Core.Path.{ap}
use Rattle.rewriter.proofs.guard.write_turn.Goals as goal

pub returns-then-mask-ne1 : goal.returns-then-mask-ne1
returns-then-mask-ne1 c = let h = turn-not c.args.out.now c.args.condition.now c.args.to.at c.args.mask c.args.variable c.args.to.next c.if-mask-ne1.true in record { at_value = h.0; out_after = h.1 }

pub put_unless-p-requires : goal.put_unless-p-requires
put_unless-p-requires c = turn-first c.args.condition.now c.args.mask c.args.variable c.args.to.next c.if-mask-ne1.false c.args.to.at c.requires.0

pub copy_condition-at-requires : goal.copy_condition-at-requires
copy_condition-at-requires c = turn-second c.args.condition.now c.args.mask c.args.variable c.args.to.next c.if-mask-ne1.false c.args.out.now c.args.to.at _ _ (c.put_unless-p.ensures.value, c.put_unless-p.ensures.out_after) c.requires.0 c.requires.1

pub overflow_add-result : goal.overflow_add-result
overflow_add-result c = omega (arith, ap (λ (x : Bindings). x.count) c.tally-bindings.ensures, (turn-second c.args.condition.now c.args.mask c.args.variable c.args.to.next c.if-mask-ne1.false c.args.out.now c.args.to.at c.put_unless-p.new.out c.put_unless-p.result (c.put_unless-p.ensures.value, c.put_unless-p.ensures.out_after) c.requires.0 c.requires.1).1)

pub returns : goal.returns
returns c = let h = turn-done c.args.condition.now c.args.mask c.args.variable c.args.to.next c.if-mask-ne1.false c.args.out.now c.args.to.at _ _ (c.put_unless-p.ensures.value, c.put_unless-p.ensures.out_after) _ _ _ (c.copy_condition-at.ensures.value, c.copy_condition-at.ensures.out_after) (ap (λ (x : Bindings). x.count) c.tally-bindings.ensures) in record { at_value = h.0; out_after = h.1 }
