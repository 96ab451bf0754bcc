use Rattle.branches.proofs.Operands.{compares}
use Rattle.branches.proofs.comparison_at.Goals as goal

pub returns : goal.returns
returns c = compares c.args.memo.now c.args.q.now c.args.level _ c.if-level-eq0.false c.condition_record.ensures c.args.z.now _ _ _ _ _ _ c.in_ok-left.left c.in_ok-right.right c.in-Compare.is c.byte.ensures c.record_length-a.ensures.value c.size_at.ensures.value c.tail.ensures c.tail-2.ensures c.in_ok-left.ensures c.in_ok-right.ensures c.if-operator-eq0.false
