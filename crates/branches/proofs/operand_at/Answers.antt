use Rattle.std.proofs.Common.{arith}
use Rattle.branches.proofs.Operands.{constant-means, attribute-means, aggregate-side}
use Rattle.branches.proofs.operand_at.Goals as goal

pub returns-in-Constant : goal.returns-in-Constant
returns-in-Constant c = constant-means c.args.memo.now c.args.q.now c.args.level _ c.if-level-eq0.false c.term_record.ensures c.number_of.result _ _ _ _ _ _ c.in-Constant.is c.half.ensures c.half-in-Constant.ensures c.number_of.ensures

pub returns-in-Attribute : goal.returns-in-Attribute
returns-in-Attribute c = attribute-means c.args.memo.now c.args.q.now c.args.level _ c.if-level-eq0.false c.term_record.ensures c.attribute_of.result _ _ (omega arith) c.in-Attribute.is c.attribute_of.ensures

pub returns-in-Aggregate : goal.returns-in-Aggregate
returns-in-Aggregate c = aggregate-side c.args.memo.now c.args.q.now c.args.level _ c.if-level-eq0.false c.term_record.ensures c.aggregate_of.result _ _ _ _ c.in-Aggregate.is c.aggregate_of.ensures
