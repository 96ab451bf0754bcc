use native.Mathlib.Omega.{arith}
use Rattle.rewriter.specs.Applying.{conditions_by}
use Rattle.permitted.proofs.Table.{given-whole}
use Rattle.permitted.proofs.Granting.give.Goals as goal

pub returns : goal.returns
returns c = let x = c.args.grant in
    given-whole c.args.self.now.catalogue.now c.args.self.now.values.now (conditions_by c.args.self.now.applying) x.relation x.mask x.variable x.next c.args.walks.now _ c.whole-all.result x.low (omega (arith, c.if-grant-ne0.false)) c.requires.keyed (omega (arith, c.requires.room.list, c.requires.keyed.least)) c.whole-all.ensures.value c.enter.ensures
