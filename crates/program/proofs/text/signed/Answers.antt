use mathlib.Core.List.{[], ◌∷◌}
use mathlib.Core.Path.{ap, ◌∙◌}
use mir.Facts.{to_z-of_z}
use Rattle.program.specs.Text as T
use Rattle.copier.proofs.Sets.{wrote_as, room_as}
use Rattle.program.proofs.text.Sign.{plain-sign, minus-sign}
use Rattle.program.proofs.text.Laws.{first-room, then-room, then-wrote}
use Rattle.program.proofs.text.signed.Goals as goal

pub decimal-requires : goal.decimal-requires
decimal-requires c = let pre = c.requires in let z = c.args.z in
    room_as c.args.at _ (T.signed z) (plain-sign z _ (c.below_zero-below.ensures ∙ ap T.below_zero (to_z-of_z c.ranges.z)) _ c.if-below-eq0.true (c.above_zero.ensures ∙ ap T.above_zero (to_z-of_z c.ranges.z))) (pre)

pub returns-then-below-eq0 : goal.returns-then-below-eq0
returns-then-below-eq0 c = let z = c.args.z in record { value = (wrote_as c.args.out.now c.args.at _ (T.signed z) _ _ (plain-sign z _ (c.below_zero-below.ensures ∙ ap T.below_zero (to_z-of_z c.ranges.z)) _ c.if-below-eq0.true (c.above_zero.ensures ∙ ap T.above_zero (to_z-of_z c.ranges.z))) (c.decimal.ensures.value, c.decimal.ensures.out_after)).0; out_after = (wrote_as c.args.out.now c.args.at _ (T.signed z) _ _ (plain-sign z _ (c.below_zero-below.ensures ∙ ap T.below_zero (to_z-of_z c.ranges.z)) _ c.if-below-eq0.true (c.above_zero.ensures ∙ ap T.above_zero (to_z-of_z c.ranges.z))) (c.decimal.ensures.value, c.decimal.ensures.out_after)).1 }

pub put-to-requires : goal.put-to-requires
put-to-requires c = let pre = c.requires in let z = c.args.z in
    first-room (T.signed z) (45 ∷ []) (T.decimal c.below_zero-below.result) (minus-sign z c.below_zero-below.result (c.below_zero-below.ensures ∙ ap T.below_zero (to_z-of_z c.ranges.z)) c.if-below-eq0.false) c.args.at (pre)

pub decimal-requires-2 : goal.decimal-requires-2
decimal-requires-2 c = let pre = c.requires in let z = c.args.z in
    then-room (T.signed z) (45 ∷ []) (T.decimal c.below_zero-below.result) (minus-sign z c.below_zero-below.result (c.below_zero-below.ensures ∙ ap T.below_zero (to_z-of_z c.ranges.z)) c.if-below-eq0.false) c.args.at _ (pre) c.put-to.ensures.value

pub returns : goal.returns
returns c = let z = c.args.z in record { value = (then-wrote (T.signed z) (45 ∷ []) (T.decimal c.below_zero-below.result) (minus-sign z c.below_zero-below.result (c.below_zero-below.ensures ∙ ap T.below_zero (to_z-of_z c.ranges.z)) c.if-below-eq0.false) c.args.out.now c.args.at _ _ _ _ (c.put-to.ensures.value, c.put-to.ensures.out_after) (c.decimal-2.ensures.value, c.decimal-2.ensures.out_after)).0; out_after = (then-wrote (T.signed z) (45 ∷ []) (T.decimal c.below_zero-below.result) (minus-sign z c.below_zero-below.result (c.below_zero-below.ensures ∙ ap T.below_zero (to_z-of_z c.ranges.z)) c.if-below-eq0.false) c.args.out.now c.args.at _ _ _ _ (c.put-to.ensures.value, c.put-to.ensures.out_after) (c.decimal-2.ensures.value, c.decimal-2.ensures.out_after)).1 }
