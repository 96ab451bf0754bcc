use Rattle.model.specs.Catalogue.{catalogue_of, shape_of}
use Rattle.permits.proofs.Grants.{begins, no-permit, permit-unread, permit-long, permit-binds, permit-all}
use Rattle.scans.specs.declared.Bindings.{Bindings}
use mathlib.Core.Path.{ap}
use Rattle.permits.proofs.permit.Goals as goal

pub returns-in_default : goal.returns-in_default
returns-in_default c = no-permit (shape_of (catalogue_of c.args.catalogue.now)) c.args.permits.now c.tail-here.result.now c.args.at c.permit_record.result c.tail-here.ensures c.permit_record.ensures c.in_default.is

pub returns-in_err-r : goal.returns-in_err-r
returns-in_err-r c = let list = c.args.permits.now in
    rw c.from_residual.ensures (permit-unread c.args.catalogue.now list c.requires.0 c.args.at c.requires.1 _ _ (begins list c.tail-here.result.now c.args.at c.tail-here.ensures c.permit_record.result c.permit_record.ensures _ _ c.in-Permit.is) c.record_length-own.result c.record_length-own.ensures.value c.tail-here.result.now c.tail-bytes.result.now c.tail-here.ensures c.tail-bytes.ensures c.condition.result c.condition.ensures c.in_err-r.was)

pub returns-then-own-n : goal.returns-then-own-n
returns-then-own-n c = let list = c.args.permits.now in
    permit-long c.args.catalogue.now list c.requires.0 c.args.at c.requires.1 _ _ (begins list c.tail-here.result.now c.args.at c.tail-here.ensures c.permit_record.result c.permit_record.ensures _ _ c.in-Permit.is) c.record_length-own.result c.record_length-own.ensures.value c.tail-here.result.now c.tail-bytes.result.now c.tail-here.ensures c.tail-bytes.ensures c.condition.result c.condition.ensures _ _ c.in_ok-r.was c.if-own-n.true

pub returns-then-bound-gt-PERMIT_BOUND : goal.returns-then-bound-gt-PERMIT_BOUND
returns-then-bound-gt-PERMIT_BOUND c = let list = c.args.permits.now in
    permit-binds c.args.catalogue.now list c.requires.0 c.args.at c.requires.1 _ _ (begins list c.tail-here.result.now c.args.at c.tail-here.ensures c.permit_record.result c.permit_record.ensures _ _ c.in-Permit.is) c.record_length-own.result c.record_length-own.ensures.value c.tail-here.result.now c.tail-bytes.result.now c.tail-here.ensures c.tail-bytes.ensures c.condition.result c.condition.ensures _ _ c.in_ok-r.was c.part-c.result.now c.part-c.ensures c.tally-bound.result.count (ap (λ (x : Bindings). x.count) c.tally-bound.ensures) c.if-bound-gt-PERMIT_BOUND.true

pub returns : goal.returns
returns c = let list = c.args.permits.now in
    permit-all c.args.catalogue.now list c.requires.0 c.args.at c.requires.1 _ _ (begins list c.tail-here.result.now c.args.at c.tail-here.ensures c.permit_record.result c.permit_record.ensures _ _ c.in-Permit.is) c.record_length-own.result c.record_length-own.ensures.value c.tail-here.result.now c.tail-bytes.result.now c.tail-here.ensures c.tail-bytes.ensures c.condition.result c.condition.ensures _ _ c.in_ok-r.was c.part-c.result.now c.part-c.ensures c.tally-bound.result.count (ap (λ (x : Bindings). x.count) c.tally-bound.ensures) c.if-bound-gt-PERMIT_BOUND.false c.if-own-n.false _ c.stored.ensures _ c.named.ensures _ (ap (λ (x : Bindings). x.once) c.tally-bound.ensures)
