use borrow.Author.Tests.{eq-eqb, ne_eqb}
use lib.Dec.{eqb}
use native.Mathlib.Omega.{arith}
use mathlib.Core.Path.{refl, ◌∙◌}
use lib.ListN.{length-replicate}
use Rattle.permitted.proofs.judges.Steps.{bits-on, blank-bits, marked-same}
use Rattle.permitted.proofs.judges.Conditions.{true-is, not_is, and_is, and-not, or_is, or-not, under_first, both-marked, in_order, swapped}
use Prim.Native.Nat.{ℕ}
use Rattle.permitted.proofs.judges.Judging.+judge_at_judge_both_judge_two.Goals as goal

pub judge_at-judge_leaf-requires : goal.judge_at-judge_leaf-requires
judge_at-judge_leaf-requires t c = c.requires

pub judge_at-returns-then-task-eq0 : goal.judge_at-returns-then-task-eq0
judge_at-returns-then-task-eq0 t c = c.judge_leaf.ensures

pub judge_at-mark_if-requires : goal.judge_at-mark_if-requires
judge_at-mark_if-requires t c = c.requires.1

pub judge_at-judge_at-requires : goal.judge_at-judge_at-requires
judge_at-judge_at-requires t c = (omega (arith, c.decreases, c.if-task-eq0.false), (omega (arith, c.requires.0), c.requires.1, c.requires.2))

pub judge_at-judge_both-requires : goal.judge_at-judge_both-requires
judge_at-judge_both-requires t c = (omega (arith, c.decreases, c.if-task-eq0.false), (omega (arith, c.requires.0), c.requires.1, c.requires.2))

pub judge_at-judge_two-requires : goal.judge_at-judge_two-requires
judge_at-judge_two-requires t c = (omega (arith, c.decreases, c.if-task-eq0.false), (omega (arith, c.requires.0), c.requires.1, c.requires.2))

pub judge_at-judge_two-requires-then-task-eq0-3 : goal.judge_at-judge_two-requires-then-task-eq0-3
judge_at-judge_two-requires-then-task-eq0-3 t c = (omega (arith, c.decreases, c.if-task-eq0.false), (omega (arith, c.requires.0), c.requires.1, c.requires.2))

pub judge_at-judge_both-requires-else-task-eq0-3 : goal.judge_at-judge_both-requires-else-task-eq0-3
judge_at-judge_both-requires-else-task-eq0-3 t c = (omega (arith, c.decreases, c.if-task-eq0.false), (omega (arith, c.requires.0), c.requires.1, c.requires.2))

pub judge_at-judge_leaf-requires-in-False : goal.judge_at-judge_leaf-requires-in-False
judge_at-judge_leaf-requires-in-False t c = c.requires

pub judge_at-returns-in-True : goal.judge_at-returns-in-True
judge_at-returns-in-True t c = marked-same c.mark_if.ensures refl (λ i h. true-is c.args.q.now c.args.z.now c.args.self.now.walks.now c.args.self.now.values.now c.args.self.now.memo.now c.args.self.now.walk c.args.task.level _ c.if-task-eq0.false c.condition_record.ensures c.in-True.is (eqb c.args.task.end 0) i)

pub judge_at-returns-in-Not : goal.judge_at-returns-in-Not
judge_at-returns-in-Not t c = let memo = c.args.self.now.memo.now in let q = c.args.q.now in let vs = c.args.self.now.values.now in let walks = c.args.self.now.walks.now in let z = c.args.z.now in let walk = c.args.self.now.walk in
    marked-same c.judge_at.ensures refl (λ i h. under_first q z walks vs memo walk _ _ _ _ _ _ _ _ c.other-end.ensures c.byte.ensures c.record_length-a.ensures.value c.tail-x.ensures c.tail_sizes-y.ensures ∙ not_is q z walks vs memo walk c.args.task.level _ c.if-task-eq0.false c.condition_record.ensures c.in-Not.is (eqb c.args.task.end 0) i)

pub judge_at-returns-then-task-eq0-2 : goal.judge_at-returns-then-task-eq0-2
judge_at-returns-then-task-eq0-2 t c = marked-same c.judge_both.ensures refl (λ i h. and_is c.args.q.now c.args.z.now c.args.self.now.walks.now c.args.self.now.values.now c.args.self.now.memo.now c.args.self.now.walk c.args.task.level _ c.if-task-eq0.false c.condition_record.ensures c.in-And.is (eqb c.args.task.end 0) (eq-eqb c.args.task.end 0 c.if-task-eq0-2.true) i)

pub judge_at-returns-else-task-eq0-2 : goal.judge_at-returns-else-task-eq0-2
judge_at-returns-else-task-eq0-2 t c = marked-same c.judge_two.ensures refl (λ i h. and-not c.args.q.now c.args.z.now c.args.self.now.walks.now c.args.self.now.values.now c.args.self.now.memo.now c.args.self.now.walk c.args.task.level _ c.if-task-eq0.false c.condition_record.ensures c.in-And.is (eqb c.args.task.end 0) (ne_eqb c.args.task.end 0 c.if-task-eq0-2.false) i)

pub judge_at-returns-then-task-eq0-3 : goal.judge_at-returns-then-task-eq0-3
judge_at-returns-then-task-eq0-3 t c = marked-same c.judge_two-then-task-eq0-3.ensures refl (λ i h. or_is c.args.q.now c.args.z.now c.args.self.now.walks.now c.args.self.now.values.now c.args.self.now.memo.now c.args.self.now.walk c.args.task.level _ c.if-task-eq0.false c.condition_record.ensures c.in-Or.is (eqb c.args.task.end 0) (eq-eqb c.args.task.end 0 c.if-task-eq0-3.true) i)

pub judge_at-returns-else-task-eq0-3 : goal.judge_at-returns-else-task-eq0-3
judge_at-returns-else-task-eq0-3 t c = marked-same c.judge_both-else-task-eq0-3.ensures refl (λ i h. or-not c.args.q.now c.args.z.now c.args.self.now.walks.now c.args.self.now.values.now c.args.self.now.memo.now c.args.self.now.walk c.args.task.level _ c.if-task-eq0.false c.condition_record.ensures c.in-Or.is (eqb c.args.task.end 0) (ne_eqb c.args.task.end 0 c.if-task-eq0-3.false) i)

pub judge_at-returns-in-False : goal.judge_at-returns-in-False
judge_at-returns-in-False t c = c.judge_leaf-in-False.ensures

pub judge_both-judge_two-requires : goal.judge_both-judge_two-requires
judge_both-judge_two-requires t c = (omega (arith, c.decreases), (c.requires.0, omega (arith, c.args.self.now.few, length-replicate {A = ℕ} 1024 0), blank-bits 1024))

pub judge_both-mark_others-requires : goal.judge_both-mark_others-requires
judge_both-mark_others-requires t c = (omega (arith, c.args.self.now.few, length-replicate {A = ℕ} 1024 0, c.judge_two.ensures.size), c.requires.1, c.requires.2)

pub judge_both-returns : goal.judge_both-returns
judge_both-returns t c = both-marked c.args.q.now c.args.z.now c.args.self.now.walks.now c.args.self.now.values.now c.args.self.now.memo.now c.args.self.now.walk c.args.task.level _ (eqb c.args.task.end 0) _ 1024 _ c.args.marks.now _ c.other-end.ensures c.judge_two.ensures c.mark_others.ensures

pub judge_two-judge_at-requires : goal.judge_two-judge_at-requires
judge_two-judge_at-requires t c = (omega (arith, c.decreases), (omega (arith, c.requires.0), c.requires.1, c.requires.2))

pub judge_two-judge_at-requires-then-byte-eq21 : goal.judge_two-judge_at-requires-then-byte-eq21
judge_two-judge_at-requires-then-byte-eq21 t c = (omega (arith, c.decreases), (omega (arith, c.requires.0), omega (arith, c.requires.1, c.judge_at.ensures.size), bits-on c.requires.2 c.judge_at.ensures))

pub judge_two-returns-then-byte-eq21 : goal.judge_two-returns-then-byte-eq21
judge_two-returns-then-byte-eq21 t c = swapped c.args.q.now c.args.z.now c.args.self.now.walks.now c.args.self.now.values.now c.args.self.now.memo.now c.args.self.now.walk c.args.task.level (eqb c.args.task.end 0) _ _ _ _ _ _ _ _ c.byte.ensures c.record_length-a.ensures.value c.size_at.ensures.value c.tail-x.ensures c.tail_sizes-y.ensures c.tail-u.ensures c.tail_sizes-v.ensures c.args.marks.now _ _ c.judge_at.ensures c.judge_at-then-byte-eq21.ensures

pub judge_two-judge_at-requires-2 : goal.judge_two-judge_at-requires-2
judge_two-judge_at-requires-2 t c = (omega (arith, c.decreases), (omega (arith, c.requires.0), c.requires.1, c.requires.2))

pub judge_two-judge_at-requires-3 : goal.judge_two-judge_at-requires-3
judge_two-judge_at-requires-3 t c = (omega (arith, c.decreases), (omega (arith, c.requires.0), omega (arith, c.requires.1, c.judge_at-2.ensures.size), bits-on c.requires.2 c.judge_at-2.ensures))

pub judge_two-returns : goal.judge_two-returns
judge_two-returns t c = in_order c.args.q.now c.args.z.now c.args.self.now.walks.now c.args.self.now.values.now c.args.self.now.memo.now c.args.self.now.walk c.args.task.level (eqb c.args.task.end 0) _ _ _ _ _ _ _ _ c.byte.ensures c.record_length-a.ensures.value c.size_at.ensures.value c.tail-x.ensures c.tail_sizes-y.ensures c.tail-u.ensures c.tail_sizes-v.ensures c.args.marks.now _ _ c.judge_at-2.ensures c.judge_at-3.ensures
