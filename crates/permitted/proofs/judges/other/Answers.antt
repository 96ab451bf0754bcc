use mathlib.Core.Path.{sym, ap}
use mathlib.Core.Bool.{not}
use borrow.Author.Tests.{eq-eqb, ne_eqb}
use Rattle.permitted.proofs.judges.other.Goals as goal

pub returns-then-end-eq0 : goal.returns-then-end-eq0
returns-then-end-eq0 c = sym (ap not (eq-eqb c.args.end 0 c.if-end-eq0.true))

pub returns-else-end-eq0 : goal.returns-else-end-eq0
returns-else-end-eq0 c = sym (ap not (ne_eqb c.args.end 0 c.if-end-eq0.false))
