use native.Mathlib.Omega.{arith}
use mathlib.Core.Path.{sym, ap, subst}
use lib.ListN.{length}
use Rattle.permitted.specs.Marked.{Bits}
use Rattle.permitted.proofs.judges.Steps.{marked_from}
use Rattle.permitted.proofs.judges.Judging.judge_leaf.Goals as goal

pub returns-then-mark_compared : goal.returns-then-mark_compared
returns-then-mark_compared c = c.mark_compared.ensures.marked c.if-mark_compared.true c.args.self.now.walks.now

pub judge_each-requires : goal.judge_each-requires
judge_each-requires c = (c.requires.0, omega (arith, c.requires.1, ap length (c.mark_compared.ensures.marks_unchanged c.if-mark_compared.false)), subst Bits (sym (c.mark_compared.ensures.marks_unchanged c.if-mark_compared.false)) c.requires.2)

pub returns : goal.returns
returns c = marked_from (c.mark_compared.ensures.marks_unchanged c.if-mark_compared.false) c.judge_each.ensures
