use native.Mathlib.Omega.{arith}
use mathlib.Core.Path.{refl}
use Rattle.kinds.proofs.Entries.{children-small}
use Rattle.sizes.specs.Parts.{ranges_at}
use Rattle.conjuncts.proofs.Stages.{zero_settled, attribute-settled, leaf-settled, all_settled, one-settled, two-settled}
use Rattle.conjuncts.proofs.+stage.Goals as goal

pub returns-then-level-eq0 : goal.returns-then-level-eq0
returns-then-level-eq0 t c = record { upper_bound = omega arith; settled = zero_settled c.args.level _ _ (ranges_at c.args.ranges c.args.q.now) c.if-level-eq0.true }

pub returns-then-kind-eq33 : goal.returns-then-kind-eq33
returns-then-kind-eq33 t c = let q = c.args.q.now in record { upper_bound = c.range_of.ensures.upper_bound; settled = attribute-settled q c.args.z.now (ranges_at c.args.ranges q) c.args.place c.args.level _ c.if-level-eq0.false c.byte-kind.ensures _ _ c.if-kind-eq33.true c.byte.ensures c.range_of.ensures.q_value }

pub overflow_add-n : goal.overflow_add-n
overflow_add-n t c = omega (arith, children-small c.byte-kind.result, c.child_counts-children.ensures.0, c.child_counts-children.ensures.1)

pub returns-then-n-eq0 : goal.returns-then-n-eq0
returns-then-n-eq0 t c = let q = c.args.q.now in record { upper_bound = omega arith; settled = leaf-settled q c.args.z.now (ranges_at c.args.ranges q) c.args.place c.args.level _ c.if-level-eq0.false c.byte-kind.ensures _ c.if-kind-eq33.false _ _ c.child_counts-children.ensures.0 c.child_counts-children.ensures.1 refl c.if-n-eq0.true }

pub returns-then-a-ranges : goal.returns-then-a-ranges
returns-then-a-ranges t c = record { upper_bound = omega (arith, c.if-a-ranges.true); settled = all_settled _ c.args.ranges c.args.level c.args.q.now _ _ c.if-a-ranges.true }

pub returns-then-n-eq1 : goal.returns-then-n-eq1
returns-then-n-eq1 t c = let q = c.args.q.now in record { upper_bound = c.stage-a.ensures.upper_bound; settled = one-settled q c.args.z.now (ranges_at c.args.ranges q) c.args.place c.args.level _ c.if-level-eq0.false c.byte-kind.ensures _ c.if-kind-eq33.false _ _ c.child_counts-children.ensures.0 c.child_counts-children.ensures.1 refl _ _ _ c.record_length.ensures.value refl c.stage-a.ensures.settled c.if-n-eq1.true }

pub returns : goal.returns
returns t c = let q = c.args.q.now in let ranges = c.args.ranges in record { upper_bound = omega (arith, c.max.ensures, c.stage-a.ensures.upper_bound, c.stage.ensures.upper_bound); settled = two-settled q c.args.z.now (ranges_at ranges q) c.args.place c.args.level _ c.if-level-eq0.false c.byte-kind.ensures _ c.if-kind-eq33.false _ _ c.child_counts-children.ensures.0 c.child_counts-children.ensures.1 refl _ _ _ c.record_length.ensures.value refl c.stage-a.ensures.settled _ _ _ _ c.size_at.ensures.value refl c.stage.ensures.settled (omega (arith, c.max.ensures)) (omega (arith, c.max.ensures)) }
