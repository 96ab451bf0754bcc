use mathlib.Core.Path.{ap, ◌∙◌}
use Rattle.copier.proofs.Sets.{left_end}
use Rattle.program.specs.Text as T
use Rattle.program.proofs.text.Laws.{line-end, item_room, gap-room, item-left}
use Rattle.program.proofs.text.bytes.Goals as goal

pub decimal-to-requires : goal.decimal-to-requires
decimal-to-requires c = let pre = c.requires in let items = c.args.items.now in
    item_room T.decimal items c.loop-i.i 0 c.loop-i-test.true (T.decimal c.from.result) (ap T.decimal c.from.ensures) c.args.out.now (T.line T.decimal items) c.loop-i.out c.args.at c.loop-i.to c.loop-i.invariant.0 (pre)

pub put-to-requires : goal.put-to-requires
put-to-requires c = let pre = c.requires in let items = c.args.items.now in
    gap-room T.decimal items c.loop-i.i 0 c.loop-i-test.true (T.decimal c.from.result) (ap T.decimal c.from.ensures) c.args.out.now (T.line T.decimal items) c.loop-i.out c.args.at c.loop-i.to c.loop-i.invariant.0 (pre) _ _ (c.decimal-to.ensures.value, c.decimal-to.ensures.out_after)

pub loop-i-preserved : goal.loop-i-preserved
loop-i-preserved c = let items = c.args.items.now in
    (item-left T.decimal items c.loop-i.i 0 c.loop-i-test.true (T.decimal c.from.result) (ap T.decimal c.from.ensures) c.args.out.now (T.line T.decimal items) c.loop-i.out c.args.at c.loop-i.to c.loop-i.invariant.0 _ _ _ _ _ (c.decimal-to.ensures.value, c.decimal-to.ensures.out_after) c.gap.ensures (c.put-to.ensures.value, c.put-to.ensures.out_after), c.put-to.auto.out ∙ c.decimal-to.auto.out ∙ c.loop-i.invariant.1)

pub returns : goal.returns
returns c = let items = c.args.items.now in record { value = (left_end c.args.out.now c.args.at (T.line T.decimal items) c.loop-i.out c.loop-i.to _ (line-end T.decimal items c.loop-i.i c.loop-i-test.false) c.loop-i.invariant.0).0; out_after = (left_end c.args.out.now c.args.at (T.line T.decimal items) c.loop-i.out c.loop-i.to _ (line-end T.decimal items c.loop-i.i c.loop-i-test.false) c.loop-i.invariant.0).1 }
