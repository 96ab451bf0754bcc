use Rattle.std.proofs.Common.{ap, arith, rules, tests}
use mir.Syntax.{w64}
use mir.Val.{of_z}
use Rattle.rows.proofs.Compared.{same-lengths, same-cells, same-differs, agree-on}
use Rattle.rows.proofs.same.Goals as goal

pub returns-then-x-y : goal.returns-then-x-y
returns-then-x-y c = same-lengths c.args.x.now c.args.y.now c.if-x-y.true

pub loop-i-init : goal.loop-i-init
loop-i-init c = λ j l. absurd (omega (arith, l))

pub returns-then-a-b : goal.returns-then-a-b
returns-then-a-b c = same-differs c.args.x.now c.args.y.now c.if-x-y.false c.loop-i.i (λ e. c.if-a-b.true (ap (of_z w64) e))

pub loop-i-preserved : goal.loop-i-preserved
loop-i-preserved c = agree-on c.args.x.now c.args.y.now c.loop-i.i c.loop-i.invariant (search (rules, tests))

pub returns : goal.returns
returns c = same-cells c.args.x.now c.args.y.now c.if-x-y.false (λ j l. c.loop-i.invariant j (omega (arith, l, c.loop-i-test.false)))
