use mathlib.Core.Path.{sym}
use Rattle.quick.proofs.mend.Laws.{number_bound, number-later}
use Rattle.quick.proofs.mend.number.Goals as goal

pub returns-then-i-n : goal.returns-then-i-n
returns-then-i-n c = sym (number_bound c.args.symbols.now c.args.n c.args.unused c.args.v c.if-i-n.true)

pub returns : goal.returns
returns c = sym (number-later c.args.symbols.now c.args.n c.args.unused c.args.v c.if-i-n.false)
