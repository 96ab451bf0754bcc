use borrow.Author.Tests.{eqb-true}
use Rattle.conjuncts.proofs.Joining.{true-there}
use Rattle.conjuncts.proofs.always.Goals as goal

pub returns-then-level-ne0 : goal.returns-then-level-ne0
returns-then-level-ne0 c = λ h. true-there c.args.q.now c.args.place c.args.level c.byte.result c.if-level-ne0.true c.byte.ensures (eqb-true c.byte.result 16 h)
