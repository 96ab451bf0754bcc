use Rattle.names.specs.Search.{is_named}
use Rattle.names.proofs.Walk as walk
use Rattle.names.proofs.Sought.find.Goals as goal

pub returns-then-is_at-clause-value : goal.returns-then-is_at-clause-value
returns-then-is_at-clause-value c = λ w s. walk.seek_found c.args.list.now c.loop-at.at (is_named c.args.self.kind c.args.self.relation w) c.is_at.result _ c.loop-at-test.true (c.is_at.ensures.value w s) (c.loop-at.invariant w s) c.if-is_at.true

pub loop-at-preserved : goal.loop-at-preserved
loop-at-preserved c = λ w s. walk.seek-on c.args.list.now c.loop-at.at c.byte.result c.place.result c.loop-at-test.true c.byte.ensures c.place.ensures.value (is_named c.args.self.kind c.args.self.relation w) c.is_at.result (c.is_at.ensures.value w s) _ (c.loop-at.invariant w s) c.if-is_at.false

pub returns-clause-value : goal.returns-clause-value
returns-clause-value c = λ w s. walk.seek-end c.args.list.now c.loop-at.at (is_named c.args.self.kind c.args.self.relation w) _ c.loop-at-test.false (c.loop-at.invariant w s)
