use native.Mathlib.Omega.{arith}
use mathlib.Core.Path.{refl, ◌∙◌}
use Rattle.model.proofs.Tests.{clash, not-no}
use Rattle.odometer.proofs.Listing.{list-none, list-more}
use Rattle.odometer.proofs.+list_targets.Goals as goal

pub returns-then-left-eq0 : goal.returns-then-left-eq0
returns-then-left-eq0 t c = record { e_value = (λ g. list-none c.args.memo.now c.args.q.now c.args.z.now c.args.left c.args.level c.args.i _ c.if-left-eq0.true); by_index = λ k h. refl }

pub list_target-requires : goal.list_target-requires
list_target-requires t c = (omega (arith, c.requires.0, c.if-left-eq0.false), omega (arith, c.requires.1, c.if-left-eq0.false))

pub returns-then-not-list_target : goal.returns-then-not-list_target
returns-then-not-list_target t c = record { e_value = (λ g. clash g); by_index = c.list_target.ensures.by_index }

pub overflow_sub-left : goal.overflow_sub-left
overflow_sub-left t c = omega (arith, c.if-left-eq0.false)

pub overflow_add-i : goal.overflow_add-i
overflow_add-i t c = omega (arith, c.requires.1)

pub list_targets-requires : goal.list_targets-requires
list_targets-requires t c = (omega (arith, c.decreases, c.if-left-eq0.false), (omega (arith, c.requires.0, c.if-left-eq0.false, c.list_target.auto.list), omega (arith, c.requires.1, c.if-left-eq0.false)))

pub returns : goal.returns
returns t c = record { e_value = (λ g. list-more c.args.memo.now c.args.q.now c.args.z.now c.args.left c.args.level c.args.i c.list_target.new.list c.list_targets.new.list _ _ _ c.if-left-eq0.false (c.list_target.ensures.e_value (not-no c.list_target.result c.if-not-list_target.false-raw)) c.size_at-n.ensures.value c.tail-u.ensures c.tail_sizes-v.ensures c.list_targets.ensures.by_index (c.list_targets.ensures.e_value g)); by_index = λ k h. c.list_targets.ensures.by_index k (omega arith) ∙ c.list_target.ensures.by_index k h }
