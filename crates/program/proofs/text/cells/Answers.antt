use mathlib.Core.Path.{ap, ◌∙◌}
use lib.IntN.{pos}
use mir.Syntax.{w64}
use mir.Facts.{to_z-of_z}
use Rattle.copier.proofs.Sets.{left_end}
use Rattle.program.specs.Text as T
use Rattle.program.proofs.text.Laws.{line-end, item_room, gap-room, item-left}
use Rattle.program.proofs.text.cells.Goals as goal

pub signed-to-requires : goal.signed-to-requires
signed-to-requires c = let pre = c.requires in let items = c.args.items.now in
    item_room T.signed items c.loop-i.i (pos 0) c.loop-i-test.true _ (ap T.signed (to_z-of_z {w = w64} (record { sfits = c.item-1.given }))) c.args.out.now (T.line T.signed items) c.loop-i.out c.args.at c.loop-i.to c.loop-i.invariant.0 (pre)

pub put-to-requires : goal.put-to-requires
put-to-requires c = let pre = c.requires in let items = c.args.items.now in
    gap-room T.signed items c.loop-i.i (pos 0) c.loop-i-test.true _ (ap T.signed (to_z-of_z {w = w64} (record { sfits = c.item-1.given }))) c.args.out.now (T.line T.signed items) c.loop-i.out c.args.at c.loop-i.to c.loop-i.invariant.0 (pre) _ _ (c.signed-to.ensures.value, c.signed-to.ensures.out_after)

pub loop-i-preserved : goal.loop-i-preserved
loop-i-preserved c = let items = c.args.items.now in
    (item-left T.signed items c.loop-i.i (pos 0) c.loop-i-test.true _ (ap T.signed (to_z-of_z {w = w64} (record { sfits = c.item-1.given }))) c.args.out.now (T.line T.signed items) c.loop-i.out c.args.at c.loop-i.to c.loop-i.invariant.0 _ _ _ _ _ (c.signed-to.ensures.value, c.signed-to.ensures.out_after) c.gap.ensures (c.put-to.ensures.value, c.put-to.ensures.out_after), c.put-to.auto.out ∙ c.signed-to.auto.out ∙ c.loop-i.invariant.1)

pub returns : goal.returns
returns c = let items = c.args.items.now in record { value = (left_end c.args.out.now c.args.at (T.line T.signed items) c.loop-i.out c.loop-i.to _ (line-end T.signed items c.loop-i.i c.loop-i-test.false) c.loop-i.invariant.0).0; out_after = (left_end c.args.out.now c.args.at (T.line T.signed items) c.loop-i.out c.loop-i.to _ (line-end T.signed items c.loop-i.i c.loop-i-test.false) c.loop-i.invariant.0).1 }
