use native.Mathlib.Omega.{arith}
use Rattle.rewriter.specs.Applying.{conditions_by}
use Rattle.permitted.proofs.Table.{given-listed}
use Rattle.permitted.proofs.Granting.give_new.Goals as goal

pub returns : goal.returns
returns c = let x = c.args.grant in
    given-listed c.args.self.now.catalogue.now c.args.self.now.values.now (conditions_by c.args.self.now.applying) x.relation x.mask x.variable x.next c.list-end.result c.key.result c.args.walks.now _ _ c.whole-all.result x.low c.requires.some (omega arith) c.key.ensures.0 c.requires.keyed (omega (arith, c.requires.room.list, c.requires.keyed.least)) c.list-end.ensures.listed c.list-end.ensures.lower_bound.0 c.list-end.ensures.lower_bound.1 c.whole-all.ensures.value c.enter.ensures
