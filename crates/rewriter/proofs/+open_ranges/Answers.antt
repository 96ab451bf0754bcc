use native.Mathlib.Omega.{arith}
use mathlib.Core.Path.{refl}
use Rattle.rewriter.specs.Applying.{masks_by}
use Rattle.queries.proofs.Steps.{none_left, other-here, range-here}
use Rattle.rewriter.proofs.Sequences.{two-first, two-second, two-wrote, no-openings, opening-last}
use Rattle.copier.proofs.Sets.{wrote_nothing}
use Rattle.rewriter.proofs.+open_ranges.Goals as goal

pub returns-then-left-eq0 : goal.returns-then-left-eq0
returns-then-left-eq0 t c = let h = wrote_nothing c.args.out.now c.args.at _ (no-openings (masks_by c.args.applying.now) _ (none_left c.args.left c.args.q.now c.if-left-eq0.true)) in record { value = h.0; out_after = h.1 }

pub returns-in_default : goal.returns-in_default
returns-in_default t c = let h = wrote_nothing c.args.out.now c.args.at _ (no-openings (masks_by c.args.applying.now) _ (other-here c.args.left c.args.q.now c.if-left-eq0.false c.head_record.result c.head_record.ensures c.in_default.is)) in record { value = h.0; out_after = h.1 }

pub open_ranges-p-requires : goal.open_ranges-p-requires
open_ranges-p-requires t c = (omega (arith, c.decreases, c.if-left-eq0.false), two-first _ _ _ (opening-last _ _ _ _ (range-here c.args.left c.args.q.now c.if-left-eq0.false c.head_record.result c.head_record.ensures _ _ c.in-Range.is _ _ c.record_length.ensures.value c.tail-rest.ensures) (masks_by c.args.applying.now) _ refl) c.args.at c.requires)

pub open_guard-requires : goal.open_guard-requires
open_guard-requires t c = two-second _ _ _ (opening-last _ _ _ _ (range-here c.args.left c.args.q.now c.if-left-eq0.false c.head_record.result c.head_record.ensures _ _ c.in-Range.is _ _ c.record_length.ensures.value c.tail-rest.ensures) (masks_by c.args.applying.now) _ c.mask.ensures.value) c.args.at c.requires c.args.out.now _ _ (c.open_ranges-p.ensures.value, c.open_ranges-p.ensures.out_after)

pub returns : goal.returns
returns t c = let h = two-wrote _ _ _ (opening-last _ _ _ _ (range-here c.args.left c.args.q.now c.if-left-eq0.false c.head_record.result c.head_record.ensures _ _ c.in-Range.is _ _ c.record_length.ensures.value c.tail-rest.ensures) (masks_by c.args.applying.now) _ c.mask.ensures.value) c.args.out.now c.args.at _ _ (c.open_ranges-p.ensures.value, c.open_ranges-p.ensures.out_after) _ _ (c.open_guard.ensures.value, c.open_guard.ensures.out_after) in record { value = h.0; out_after = h.1 }
