use Rattle.std.proofs.Common.{rules}
use Rattle.numbers.specs.Memo.{knows}
use Rattle.numbers.proofs.knows.Goals as goal

pub returns-then-contains : goal.returns-then-contains
unfolding knows
returns-then-contains c = search rules

pub returns-else-contains : goal.returns-else-contains
unfolding knows
returns-else-contains c = search rules
