use Rattle.aggregates.proofs.Taking.{nonzero}
use Rattle.model.proofs.Tests.{not-no}
use native.Mathlib.Omega.{arith}
use mathlib.Core.Path.{refl, sym, ◌∙◌, subst}
use Prim.Native.Nat.{ℕ, ◌-◌}
use Rattle.numbers.specs.Numbers.{Accumulates}
use Rattle.evaluator.specs.Evaluation.{values_on}
use Rattle.numbers.proofs.Laws.{ends}
use Rattle.evaluator.proofs.Steps.{known_is, aggregate-is}
use Rattle.aggregates.proofs.value.Goals as goal

pub recall-requires : goal.recall-requires
recall-requires c = sym c.knows.ensures ∙ c.if-knows.true

pub returns-then-knows : goal.returns-then-knows
returns-then-knows c = record { result_value = c.recall.ensures.result_value ∙ (known_is c.args.walks.now c.args.values.now c.args.memo.now c.args.env.now c.args.q.now c.args.z.now c.args.level _ _ _ (nonzero _ (c.compiled.ensures (not-no _ c.if-not-compiled.false-raw)).0) refl refl c.term_record.ensures _ _ _ _ _ _ c.in-Aggregate.is c.knows.ensures c.if-knows.true refl); small = c.recall.ensures.small; env_unchanged = refl }

pub overflow_sub-column : goal.overflow_sub-column
overflow_sub-column c = (c.compiled.ensures (not-no _ c.if-not-compiled.false-raw)).0

pub gather-taken-requires : goal.gather-taken-requires
gather-taken-requires c = let pre = c.requires in (pre, omega (arith, (c.compiled.ensures (not-no _ c.if-not-compiled.false-raw)).1), omega arith)

pub returns : goal.returns
returns c = record { result_value = ends _ _ c.finish.result _ (subst (λ (a : ℕ). Accumulates c.gather-taken.result (values_on (c.args.level - 1) c.tail-x.result.now c.tail_sizes-y.result.now c.args.walks.now c.args.values.now c.args.memo.now c.args.env.now c.in-Aggregate.variable a)) c.from.ensures c.gather-taken.ensures.accumulates) c.finish.ensures.result_value ∙ (aggregate-is c.args.walks.now c.args.values.now c.args.memo.now c.args.env.now c.args.q.now c.args.z.now c.args.level _ _ _ (nonzero _ (c.compiled.ensures (not-no _ c.if-not-compiled.false-raw)).0) c.byte.ensures c.record_length-n.ensures.value c.term_record.ensures _ _ c.tail-x.ensures c.tail_sizes-y.ensures _ _ _ _ _ _ c.in-Aggregate.is c.knows.ensures c.if-knows.false refl); small = c.finish.ensures.small; env_unchanged = c.gather-taken.ensures.env_unchanged }
