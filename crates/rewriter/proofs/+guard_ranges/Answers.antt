use native.Mathlib.Omega.{arith}
use mathlib.Core.Path.{refl}
use Rattle.rewriter.specs.Applying.{masks_by, conditions_by}
use Rattle.queries.proofs.Steps.{none_left, other-here, range-here}
use Rattle.rewriter.proofs.Sequences.{pair-first, pair-second, pair-did, no-guards, guard-first}
use Rattle.rewriter.proofs.+guard_ranges.Goals as goal

pub returns-then-left-eq0 : goal.returns-then-left-eq0
returns-then-left-eq0 t c = let h = no-guards (masks_by c.args.applying.now) (conditions_by c.args.applying.now) _ (none_left c.args.left c.args.q.now c.if-left-eq0.true) c.args.out.now c.args.to.at c.args.to.next in record { after = h.0; out_after = h.1 }

pub returns-in_default : goal.returns-in_default
returns-in_default t c = let h = no-guards (masks_by c.args.applying.now) (conditions_by c.args.applying.now) _ (other-here c.args.left c.args.q.now c.if-left-eq0.false c.head_record.result c.head_record.ensures c.in_default.is) c.args.out.now c.args.to.at c.args.to.next in record { after = h.0; out_after = h.1 }

pub write_guard-w-requires : goal.write_guard-w-requires
write_guard-w-requires t c = let g = pair-first _ _ _ _ _ _ _ (guard-first _ _ _ _ (range-here c.args.left c.args.q.now c.if-left-eq0.false c.head_record.result c.head_record.ensures _ _ c.in-Range.is _ _ refl refl) (masks_by c.args.applying.now) (conditions_by c.args.applying.now) _ c.args.to.next c.mask.ensures.value) c.args.to.at c.requires in (g.0, g.1, c.mask.ensures.upper_bound)

pub guard_ranges-requires : goal.guard_ranges-requires
guard_ranges-requires t c = (omega (arith, c.decreases, c.if-left-eq0.false), pair-second _ _ _ _ _ _ _ (guard-first _ _ _ _ (range-here c.args.left c.args.q.now c.if-left-eq0.false c.head_record.result c.head_record.ensures _ _ c.in-Range.is _ _ c.record_length.ensures.value c.tail-rest.ensures) (masks_by c.args.applying.now) (conditions_by c.args.applying.now) _ c.args.to.next c.mask.ensures.value) c.args.to.at c.args.out.now _ _ _ (c.write_guard-w.ensures.at_value, c.write_guard-w.ensures.out_after) c.requires)

pub returns : goal.returns
returns t c = let h = pair-did _ _ _ _ _ _ _ (guard-first _ _ _ _ (range-here c.args.left c.args.q.now c.if-left-eq0.false c.head_record.result c.head_record.ensures _ _ c.in-Range.is _ _ c.record_length.ensures.value c.tail-rest.ensures) (masks_by c.args.applying.now) (conditions_by c.args.applying.now) _ c.args.to.next c.mask.ensures.value) c.args.to.at c.args.out.now _ _ _ (c.write_guard-w.ensures.at_value, c.write_guard-w.ensures.out_after) _ _ _ (c.guard_ranges.ensures.after, c.guard_ranges.ensures.out_after) in record { after = h.0; out_after = h.1 }
