use Rattle.decide.proofs.seeks.Cursors.{every-row}
use Rattle.decide.proofs.seeks.prepare.Goals as goal

pub returns : goal.returns
returns c = λ ws f. every-row c.args.t.now c.args.start c.args.variable ws c.args.values.now c.args.memo.now c.args.env.now c.args.chains.now
