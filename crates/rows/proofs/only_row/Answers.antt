use Rattle.std.proofs.Common.{arith}
use Rattle.rows.proofs.Laws.{only-over, only-laid}
use Rattle.rows.proofs.only_row.Goals as goal

pub returns-then-capacity-eq0 : goal.returns-then-capacity-eq0
returns-then-capacity-eq0 c = only-over c.args.answer.now c.args.row.now (omega (arith, c.capacity.ensures, c.if-capacity-eq0.true))

pub returns : goal.returns
returns c = only-laid c.args.answer.now c.args.row.now _ (omega (arith, c.capacity.ensures, c.if-capacity-eq0.false)) (grind (arith, c.copy_from_slice.ensures.after))
