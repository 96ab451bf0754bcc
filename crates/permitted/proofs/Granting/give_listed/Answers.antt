use native.Mathlib.Omega.{arith}
use Rattle.rewriter.specs.Applying.{conditions_by}
use Rattle.permitted.proofs.Table.{given-shared}
use Rattle.permitted.proofs.Granting.give_listed.Goals as goal

pub returns : goal.returns
returns c = let x = c.args.grant in let there = c.in-Some.ensures in
    given-shared c.args.self.now.catalogue.now c.args.self.now.values.now (conditions_by c.args.self.now.applying) x.relation x.mask c.in-Some.other x.variable x.next c.key-key.result c.args.walks.now _ c.walk_of-walk.result there.0 x.low c.requires.some (omega arith) c.key-key.ensures.0 c.requires.keyed (omega (arith, c.requires.room.list, c.requires.keyed.least)) there.1 c.walk_of-walk.ensures.value c.enter.ensures
