use Rattle.permitted.proofs.Lists.{number-last, number-first}
use Rattle.permitted.proofs.number.Goals as goal

pub returns-then-latest : goal.returns-then-latest
returns-then-latest c = number-last c.args.latest c.args.n c.args.i c.if-latest.true c.requires.0

pub returns-else-latest : goal.returns-else-latest
returns-else-latest c = number-first c.args.latest c.args.n c.args.i c.if-latest.false c.requires.0
