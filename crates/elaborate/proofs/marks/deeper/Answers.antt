use Rattle.elaborate.proofs.marks.Walks.{deeper-pos}
use Rattle.elaborate.proofs.marks.deeper.Goals as goal

pub returns-else-d-eq0 : goal.returns-else-d-eq0
returns-else-d-eq0 c = deeper-pos c.args.d c.if-d-eq0.false
