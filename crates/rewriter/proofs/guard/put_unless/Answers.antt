use mathlib.Core.List.{[], ◌∷◌}
use Rattle.copier.proofs.Sets.{wrote_as, wrote_nothing, room_as}
use Rattle.copier.proofs.Turns.{nothing_is, something-is}
use Rattle.rewriter.proofs.guard.put_unless.Goals as goal

pub returns-then-mask-eq0 : goal.returns-then-mask-eq0
returns-then-mask-eq0 c = let h = wrote_nothing c.args.out.now c.args.at _ (nothing_is c.args.mask (c.args.b ∷ []) c.if-mask-eq0.true) in record { value = h.0; out_after = h.1 }

pub put-requires : goal.put-requires
put-requires c = room_as c.args.at _ _ (something-is c.args.mask (c.args.b ∷ []) c.if-mask-eq0.false) c.requires

pub returns : goal.returns
returns c = let h = wrote_as c.args.out.now c.args.at _ _ _ _ (something-is c.args.mask (c.args.b ∷ []) c.if-mask-eq0.false) (c.put.ensures.value, c.put.ensures.out_after) in record { value = h.0; out_after = h.1 }
