use mathlib.Core.Path.{refl, ◌∙◌}
use mir.Syntax.{w32, w64}
use mir.Val.{SFits, to_z, of_z}
use mir.Facts.{to_z-of_z}
use lib.ListN.{get_or}
use Rattle.numbers.proofs.Laws.{value_none, is_number, value-some}
use Rattle.odometer.proofs.Listing.{no_number, cell-attribute, cell-nothing, cell-value}
use Rattle.odometer.proofs.listed_cell.Goals as goal

pub returns-then-v-lt256 : goal.returns-then-v-lt256
returns-then-v-lt256 c = let env = c.args.env.now in
    let fits : SFits w32 c.value.result = record { sfits = c.value.type_inv } in
    cell-attribute c.args.memo.now c.args.list.now env c.args.values.now c.args.i c.args.row.now _ c.size_at-v.result c.size_at.result (get_or env c.size_at-v.result 0) (to_z w32 (of_z w32 c.value.result)) (to_z w64 (of_z w64 c.from.result)) c.size_at-v.ensures.value c.if-v-lt256.true c.requires.0 refl c.size_at.ensures.value (to_z-of_z fits ∙ c.value.ensures) (to_z-of_z {w = w64} (record { sfits = c.from.type_inv }) ∙ c.from.ensures) refl

pub returns-then-x-le0 : goal.returns-then-x-le0
returns-then-x-le0 c = let values = c.args.values.now in
    cell-nothing c.args.memo.now c.args.list.now c.args.env.now values c.args.i c.args.row.now _ c.side-x.result _ c.side-x.ensures.result_value (no_number c.args.list.now c.requires.3) (value_none c.side-x.result c.side-x.ensures.small c.if-x-le0.true)

pub cell-requires : goal.cell-requires
cell-requires c = (c.side-x.ensures.small, is_number c.side-x.result c.side-x.ensures.small c.if-x-le0.false)

pub returns : goal.returns
returns c = let values = c.args.values.now in
    cell-value c.args.memo.now c.args.list.now c.args.env.now values c.args.i c.args.row.now _ c.side-x.result _ c.side-x.ensures.result_value (no_number c.args.list.now c.requires.3) _ (value-some c.side-x.result (is_number c.side-x.result c.side-x.ensures.small c.if-x-le0.false)) (to_z-of_z {w = w64} (record { sfits = c.cell.type_inv }) ∙ c.cell.ensures) refl
