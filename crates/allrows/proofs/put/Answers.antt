use Rattle.allrows.proofs.Steps.{put_is}
use mathlib.Core.Path.{refl}
use Rattle.allrows.proofs.put.Goals as goal

pub returns : goal.returns
returns c = put_is c.args.walks.now c.args.variable c.args.walk _ _ c.from-i.ensures refl _ _ _ _ _ c.store.ensures c.store-2.ensures c.store-3.ensures c.store-4.ensures c.store-5.ensures
