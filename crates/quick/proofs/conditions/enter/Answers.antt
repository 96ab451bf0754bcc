use native.Mathlib.Omega.{arith}
use Rattle.quick.proofs.conditions.Joining.{entered}
use Rattle.quick.proofs.conditions.enter.Goals as goal

pub returns : goal.returns
returns c = let good = c.well_formed in entered c.args.symbols.now _ c.args.made.now c.args.to c.args.x c.low.result c.args.relation c.from.result c.requires.symbols_len.0 c.requires.symbols_len.1 c.requires.symbols_len.2 c.requires.to_bound.1 c.low.ensures c.from.ensures (omega (arith, good)) c.bind.ensures.slotted c.bind.ensures.by_index
