use Rattle.std.proofs.Common.{arith}
use Rattle.scans.proofs.Lists.{fresh-marked, fresh-first}
use Rattle.scans.proofs.mark.Goals as goal

pub returns-then-seen-i-eq1 : goal.returns-then-seen-i-eq1
returns-then-seen-i-eq1 c = fresh-marked c.args.seen.now c.args.variable c.from-i.result c.from-i.ensures c.if-seen-i-eq1.true

pub returns : goal.returns
returns c = fresh-first c.args.seen.now c.args.variable c.from-i.result c.from-i.ensures c.if-seen-i-eq1.false (omega arith)
