use Rattle.rewriter.specs.Applying.{conditions_by}
use Rattle.permitted.proofs.Lists.{turn-no, turn-yes}
use Rattle.permitted.proofs.Granting.turn.Goals as goal

pub returns-then-mask-ne1 : goal.returns-then-mask-ne1
returns-then-mask-ne1 c = turn-no c.args.self.now.catalogue.now c.args.self.now.values.now (conditions_by c.args.self.now.applying) c.args.relation c.args.mask c.args.k _ c.args.marks.now c.if-mask-ne1.true c.requires.2

pub judge-requires : goal.judge-requires
judge-requires c = (c.requires.1, c.requires.2, c.requires.3)

pub returns : goal.returns
returns c = turn-yes c.args.self.now.catalogue.now c.args.self.now.values.now (conditions_by c.args.self.now.applying) c.args.relation c.args.mask c.args.k _ _ c.args.marks.now _ c.if-mask-ne1.false c.condition-q.ensures c.judge.ensures
