use native.Mathlib.Omega.{arith}
use mathlib.Core.Path.{refl}
use Prim.Native.Nat.{◌+◌}
use Rattle.model.proofs.Tests.{clash}
use Rattle.odometer.proofs.Listing.{put-before, put-attribute, put-aggregate}
use Rattle.odometer.proofs.list_target.Goals as goal

pub returns-then-level-eq0 : goal.returns-then-level-eq0
returns-then-level-eq0 c = record { e_value = λ g. clash g; by_index = λ k h. refl }

pub returns-then-not-knows : goal.returns-then-not-knows
returns-then-not-knows c = record { e_value = λ g. clash g; by_index = λ k h. refl }

pub returns-in-Attribute : goal.returns-in-Attribute
returns-in-Attribute c = record { e_value = (λ g. put-attribute c.args.memo.now c.args.list.now _ c.args.i c.from.result c.from-in-Attribute.result c.put.ensures c.args.q.now c.args.level _ c.requires.0 c.if-level-eq0.false c.term_record.ensures _ _ (omega arith) c.in-Attribute.is c.from.ensures c.from-in-Attribute.ensures); by_index = put-before c.args.memo.now c.args.list.now _ c.args.i c.from.result c.from-in-Attribute.result c.put.ensures }

pub returns-else-not-knows : goal.returns-else-not-knows
returns-else-not-knows c = record { e_value = (λ g. put-aggregate c.args.memo.now c.args.list.now _ c.args.i (c.from-in-Aggregate.result + 256) 0 c.put-in-Aggregate.ensures c.args.q.now c.args.level _ c.requires.0 c.if-level-eq0.false c.term_record.ensures _ _ _ _ c.from-in-Aggregate.result c.knows.result (omega arith) c.in-Aggregate.is c.knows.ensures c.if-not-knows.false-raw c.from-in-Aggregate.ensures refl refl); by_index = put-before c.args.memo.now c.args.list.now _ c.args.i (c.from-in-Aggregate.result + 256) 0 c.put-in-Aggregate.ensures }

pub returns-in-Constant : goal.returns-in-Constant
returns-in-Constant c = record { e_value = λ g. clash g; by_index = λ k h. refl }
