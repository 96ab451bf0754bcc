use native.Mathlib.Omega.{arith}
use mathlib.Core.Path.{refl}
use Rattle.queries.proofs.Steps.{none_left, other-here, range-here}
use Rattle.rewriter.proofs.Sequences.{two-first, two-second, two-wrote, no-ranges, range-first}
use Rattle.copier.proofs.Sets.{wrote_nothing}
use Rattle.rewriter.proofs.+ranges.Goals as goal

pub returns-then-left-eq0 : goal.returns-then-left-eq0
returns-then-left-eq0 t c = let h = wrote_nothing c.args.out.now c.args.at _ (no-ranges _ (none_left c.args.left c.args.q.now c.if-left-eq0.true)) in record { value = h.0; out_after = h.1 }

pub returns-in_default : goal.returns-in_default
returns-in_default t c = let h = wrote_nothing c.args.out.now c.args.at _ (no-ranges _ (other-here c.args.left c.args.q.now c.if-left-eq0.false c.head_record.result c.head_record.ensures c.in_default.is)) in record { value = h.0; out_after = h.1 }

pub put_record-p-requires : goal.put_record-p-requires
put_record-p-requires t c = two-first _ _ _ (range-first _ _ _ _ (range-here c.args.left c.args.q.now c.if-left-eq0.false c.head_record.result c.head_record.ensures _ _ c.in-Range.is _ _ refl refl)) c.args.at c.requires

pub ranges-requires : goal.ranges-requires
ranges-requires t c = (omega (arith, c.decreases, c.if-left-eq0.false), two-second _ _ _ (range-first _ _ _ _ (range-here c.args.left c.args.q.now c.if-left-eq0.false c.head_record.result c.head_record.ensures _ _ c.in-Range.is _ _ c.record_length.ensures.value c.tail.ensures)) c.args.at c.requires c.args.out.now _ _ (c.put_record-p.ensures.value, c.put_record-p.ensures.out_after))

pub returns : goal.returns
returns t c = let h = two-wrote _ _ _ (range-first _ _ _ _ (range-here c.args.left c.args.q.now c.if-left-eq0.false c.head_record.result c.head_record.ensures _ _ c.in-Range.is _ _ c.record_length.ensures.value c.tail.ensures)) c.args.out.now c.args.at _ _ (c.put_record-p.ensures.value, c.put_record-p.ensures.out_after) _ _ (c.ranges-2.ensures.value, c.ranges-2.ensures.out_after) in record { value = h.0; out_after = h.1 }
