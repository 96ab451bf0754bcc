use Rattle.guards.proofs.uses.Adds.{add_none, add-other, add-past, add-bit}
use Rattle.guards.proofs.uses.add.Goals as goal

pub returns-in_default : goal.returns-in_default
returns-in_default c = add_none c.args.mask c.args.used c.args.variable c.in_default.is

pub returns-then-used-variable : goal.returns-then-used-variable
returns-then-used-variable c = add-other c.args.mask c.args.used c.args.variable _ _ c.in-Some.is c.if-used-variable.true

pub returns-then-used-ge16 : goal.returns-then-used-ge16
returns-then-used-ge16 c = add-past c.args.mask c.args.used c.args.variable _ _ c.in-Some.is c.if-used-ge16.true

pub returns : goal.returns
returns c = λ a h. rw c.from.ensures (add-bit c.args.mask c.args.used c.args.variable _ _ c.in-Some.is c.if-used-variable.false c.if-used-ge16.false a h)
