use Rattle.std.proofs.Common.{List, ℕ, refl, sym, ap, subst, ◌∙◌}
use Rattle.scans.specs.declared.Records.{Records}
use Rattle.scans.specs.Flat.{flat}
use Rattle.scans.proofs.Walk.{flat-over}
use Rattle.copier.specs.Copied.{copied_record, copied_bytes}
use Rattle.copier.proofs.Sets.{Left, left_end}
use Rattle.rewriter.proofs.guard.Copies.{copy-room, copy-turn, copy_start}
use Rattle.rewriter.proofs.guard.copy_condition.Goals as goal

pub loop-bytes-init : goal.loop-bytes-init
loop-bytes-init c = let q = c.args.condition.now in let v = c.args.variable in let n = c.args.next in let out = c.args.out.now in let at = c.args.at in
    let e = ap (λ (r : Records). r.rest.now) c.into_iter-bytes-iterator.ensures.into_iter_gives ∙ c.of-bytes-items.ensures in
    (subst (λ (s : List ℕ). Left out at (copied_bytes q v n) out at (flat (copied_record q v n) s)) (sym e) (copy_start out q v n at), refl)

pub put_record-to-requires : goal.put_record-to-requires
put_record-to-requires c =
    copy-room c.args.condition.now c.args.variable c.args.next c.loop-bytes.bytes-iterator.rest.now c.next.new.self.rest.now c.in-Some.bytes.now c.in-Some.ensures.steps _ c.renamed.result c.read-item.ensures c.renamed.ensures c.args.out.now c.args.at c.loop-bytes.out c.loop-bytes.to c.loop-bytes.invariant.0 c.requires.0

pub loop-bytes-preserved : goal.loop-bytes-preserved
loop-bytes-preserved c =
    (copy-turn c.args.condition.now c.args.variable c.args.next c.loop-bytes.bytes-iterator.rest.now c.next.new.self.rest.now c.in-Some.bytes.now c.in-Some.ensures.steps _ c.renamed.result c.read-item.ensures c.renamed.ensures c.args.out.now c.args.at c.loop-bytes.out c.loop-bytes.to c.loop-bytes.invariant.0 _ _ (c.put_record-to.ensures.value, c.put_record-to.ensures.out_after), c.put_record-to.auto.out ∙ c.loop-bytes.invariant.1)

pub returns : goal.returns
returns c = let condition = c.args.condition.now in let n = c.args.next in let v = c.args.variable in
    let h = left_end c.args.out.now c.args.at (copied_bytes condition v n) c.loop-bytes.out c.loop-bytes.to _ (flat-over (copied_record condition v n) c.loop-bytes.bytes-iterator.rest.now c.in-None.ensures.steps.0) c.loop-bytes.invariant.0 in record { value = h.0; out_after = h.1 }
