use lib.ListN.{length}
use Rattle.walks.specs.Walks.{rows_by}
use Rattle.walks.specs.Assigned.{assigned}
use Rattle.aggregates.proofs.Steps.{none_left, none-left_t, not_is, some_is, and_is, or_is, compare-is, no-aggregate, no-term, aggregate-is, term_is}
use borrow.Author.Rules.{rules}
use native.Mathlib.Omega.{arith}
use mathlib.Core.Path.{refl, ap, ◌∙◌}
use Rattle.aggregates.proofs.+condition_term.Goals as goal

pub condition-returns-then-level-eq0 : goal.condition-returns-then-level-eq0
condition-returns-then-level-eq0 t c = let vs = c.args.values.now in record { memo_after = none_left (rows_by c.args.walks.now vs) (assigned vs c.args.env.now) c.args.q.now c.args.z.now c.args.memo.now c.args.level c.if-level-eq0.true; env_unchanged = search rules }

pub condition-condition-requires-in-And-2 : goal.condition-condition-requires-in-And-2
condition-condition-requires-in-And-2 t c = (omega (arith, c.decreases, c.if-level-eq0.false), omega (arith, c.requires, ap length c.condition-in-And.ensures.env_unchanged))

pub condition-condition-requires-in-Or-2 : goal.condition-condition-requires-in-Or-2
condition-condition-requires-in-Or-2 t c = (omega (arith, c.decreases, c.if-level-eq0.false), omega (arith, c.requires, ap length c.condition-in-Or.ensures.env_unchanged))

pub condition-term-requires-in-Compare : goal.condition-term-requires-in-Compare
condition-term-requires-in-Compare t c = (omega (arith, c.decreases, c.if-level-eq0.false), omega (arith, c.requires, ap length c.term.ensures.env_unchanged))

pub condition-returns-in-Not : goal.condition-returns-in-Not
condition-returns-in-Not t c = let vs = c.args.values.now in record { memo_after = not_is (rows_by c.args.walks.now vs) (assigned vs c.args.env.now) c.args.q.now c.args.z.now c.args.memo.now c.args.level _ _ _ c.if-level-eq0.false c.byte.ensures c.record_length-a.ensures.value c.condition_record.ensures _ _ c.tail-x.ensures c.tail_sizes-y.ensures _ c.in-Not.is c.condition.ensures.memo_after; env_unchanged = c.condition.ensures.env_unchanged }

pub condition-returns-in-And : goal.condition-returns-in-And
condition-returns-in-And t c = let vs = c.args.values.now in record { memo_after = and_is (rows_by c.args.walks.now vs) (assigned vs c.args.env.now) c.args.q.now c.args.z.now c.args.memo.now c.args.level _ _ _ c.if-level-eq0.false c.byte.ensures c.record_length-a.ensures.value c.condition_record.ensures _ _ c.tail-x.ensures c.tail_sizes-y.ensures _ _ _ _ c.size_at.ensures.value refl c.tail-u.ensures c.tail_sizes-v.ensures _ _ _ (ap (assigned vs) c.condition-in-And.ensures.env_unchanged) c.condition-in-And.ensures.memo_after c.condition-in-And-2.ensures.memo_after c.in-And.is; env_unchanged = c.condition-in-And-2.ensures.env_unchanged ∙ c.condition-in-And.ensures.env_unchanged }

pub condition-returns-in-Or : goal.condition-returns-in-Or
condition-returns-in-Or t c = let vs = c.args.values.now in record { memo_after = or_is (rows_by c.args.walks.now vs) (assigned vs c.args.env.now) c.args.q.now c.args.z.now c.args.memo.now c.args.level _ _ _ c.if-level-eq0.false c.byte.ensures c.record_length-a.ensures.value c.condition_record.ensures _ _ c.tail-x.ensures c.tail_sizes-y.ensures _ _ _ _ c.size_at.ensures.value refl c.tail-u.ensures c.tail_sizes-v.ensures _ _ _ (ap (assigned vs) c.condition-in-Or.ensures.env_unchanged) c.condition-in-Or.ensures.memo_after c.condition-in-Or-2.ensures.memo_after c.in-Or.is; env_unchanged = c.condition-in-Or-2.ensures.env_unchanged ∙ c.condition-in-Or.ensures.env_unchanged }

pub condition-returns-in-Compare : goal.condition-returns-in-Compare
condition-returns-in-Compare t c = let vs = c.args.values.now in record { memo_after = compare-is (rows_by c.args.walks.now vs) (assigned vs c.args.env.now) c.args.q.now c.args.z.now c.args.memo.now c.args.level _ _ _ c.if-level-eq0.false c.byte.ensures c.record_length-a.ensures.value c.condition_record.ensures _ _ c.tail-x.ensures c.tail_sizes-y.ensures _ _ _ _ c.size_at.ensures.value refl c.tail-u.ensures c.tail_sizes-v.ensures _ _ _ (ap (assigned vs) c.term.ensures.env_unchanged) _ c.in-Compare.is c.term.ensures.memo_after c.term-in-Compare.ensures.memo_after; env_unchanged = c.term-in-Compare.ensures.env_unchanged ∙ c.term.ensures.env_unchanged }

pub condition-returns-in-Some : goal.condition-returns-in-Some
condition-returns-in-Some t c = let vs = c.args.values.now in record { memo_after = some_is (rows_by c.args.walks.now vs) (assigned vs c.args.env.now) c.args.q.now c.args.z.now c.args.memo.now c.args.level _ _ _ c.if-level-eq0.false c.byte.ensures c.record_length-a.ensures.value c.condition_record.ensures _ _ c.tail-x.ensures c.tail_sizes-y.ensures _ _ _ c.in-Some.is c.condition-in-Some.ensures.memo_after; env_unchanged = c.condition-in-Some.ensures.env_unchanged }

pub condition-returns-in-True : goal.condition-returns-in-True
condition-returns-in-True t c = let vs = c.args.values.now in record { memo_after = no-aggregate (rows_by c.args.walks.now vs) (assigned vs c.args.env.now) c.args.q.now c.args.z.now c.args.memo.now c.args.level _ c.if-level-eq0.false c.condition_record.ensures c.in-True.in-True-own.keys6; env_unchanged = search rules }

pub term-returns-then-level-eq0 : goal.term-returns-then-level-eq0
term-returns-then-level-eq0 t c = let vs = c.args.values.now in record { memo_after = none-left_t (rows_by c.args.walks.now vs) (assigned vs c.args.env.now) c.args.q.now c.args.z.now c.args.memo.now c.args.level c.if-level-eq0.true; env_unchanged = search rules }

pub term-returns : goal.term-returns
term-returns t c = let ws = c.args.walks.now in let env = c.args.env.now in let q = c.args.q.now in let vs = c.args.values.now in let z = c.args.z.now in let level = c.args.level in record { memo_after = aggregate-is (rows_by ws vs) (assigned vs env) q z c.args.memo.now level _ _ _ c.if-level-eq0.false c.byte.ensures c.record_length-a.ensures.value c.term_record.ensures _ _ c.tail.ensures c.tail_sizes.ensures _ _ _ _ _ _ _ c.in-Aggregate.is c.condition.ensures.memo_after (term_is level q z ws vs _ env _ _ c.condition.ensures.env_unchanged c.value-x.ensures.result_value) c.remember.ensures; env_unchanged = c.value-x.ensures.env_unchanged ∙ c.condition.ensures.env_unchanged }

pub term-returns-in_default : goal.term-returns-in_default
term-returns-in_default t c = let vs = c.args.values.now in record { memo_after = no-term (rows_by c.args.walks.now vs) (assigned vs c.args.env.now) c.args.q.now c.args.z.now c.args.memo.now c.args.level _ c.if-level-eq0.false c.term_record.ensures c.in_default.not-Aggregate; env_unchanged = search rules }
