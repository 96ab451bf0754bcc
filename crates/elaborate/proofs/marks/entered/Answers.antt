use Rattle.elaborate.proofs.marks.Walks.{enter-pos}
use Rattle.elaborate.proofs.marks.entered.Goals as goal

pub returns-else-d-eq0 : goal.returns-else-d-eq0
returns-else-d-eq0 c = enter-pos c.args.d c.if-d-eq0.false
