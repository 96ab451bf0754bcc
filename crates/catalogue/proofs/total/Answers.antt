use mathlib.Core.Path.{refl}
use Rattle.catalogue.proofs.Reading.{total-past}
use Rattle.catalogue.proofs.total.Goals as goal

pub returns-then-n-lt-RELATIONS : goal.returns-then-n-lt-RELATIONS
returns-then-n-lt-RELATIONS c = total-past c.args.catalogue.now c.count-n.result _ _ c.count-n.ensures c.if-n-lt-RELATIONS.true refl c.base.ensures.value
