use mathlib.Core.Path.{◌∙◌}
use Rattle.walks.specs.Walks.{rows_by}
use Rattle.walks.specs.Assigned.{assigned}
use Rattle.aggregates.proofs.Steps.{none-left_t, no-term, aggregate-is, term_is}
use borrow.Author.Rules.{rules}
use Rattle.aggregates.proofs.target_term.Goals as goal

pub returns-then-level-eq0 : goal.returns-then-level-eq0
returns-then-level-eq0 c = let vs = c.args.values.now in record { memo_after = none-left_t (rows_by c.args.walks.now vs) (assigned vs c.args.env.now) c.args.q.now c.args.z.now c.args.memo.now c.args.level c.if-level-eq0.true; env_unchanged = search rules }

pub returns : goal.returns
returns c = let ws = c.args.walks.now in let env = c.args.env.now in let q = c.args.q.now in let vs = c.args.values.now in let z = c.args.z.now in let level = c.args.level in record { memo_after = aggregate-is (rows_by ws vs) (assigned vs env) q z c.args.memo.now level _ _ _ c.if-level-eq0.false c.byte.ensures c.record_length-a.ensures.value c.term_record.ensures _ _ c.tail.ensures c.tail_sizes.ensures _ _ _ _ _ _ _ c.in-Aggregate.is c.condition.ensures.memo_after (term_is level q z ws vs _ env _ _ c.condition.ensures.env_unchanged c.value-x.ensures.result_value) c.remember.ensures; env_unchanged = c.value-x.ensures.env_unchanged ∙ c.condition.ensures.env_unchanged }

pub returns-in_default : goal.returns-in_default
returns-in_default c = let vs = c.args.values.now in record { memo_after = no-term (rows_by c.args.walks.now vs) (assigned vs c.args.env.now) c.args.q.now c.args.z.now c.args.memo.now c.args.level _ c.if-level-eq0.false c.term_record.ensures c.in_default.not-Aggregate; env_unchanged = search rules }
