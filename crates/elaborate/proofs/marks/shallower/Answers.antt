use Rattle.elaborate.proofs.marks.Walks.{shallower-low, shallower-high}
use Rattle.elaborate.proofs.marks.shallower.Goals as goal

pub returns-then-d-le2 : goal.returns-then-d-le2
returns-then-d-le2 c = shallower-low c.args.d c.if-d-le2.true

pub returns-else-d-le2 : goal.returns-else-d-le2
returns-else-d-le2 c = shallower-high c.args.d c.if-d-le2.false
