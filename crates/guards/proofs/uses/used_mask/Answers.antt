use Rattle.std.proofs.Common.{ap, ◌∙◌}
use Rattle.scans.specs.declared.Records.{Records}
use Rattle.guards.proofs.uses.Adds.{used_start, used-on, used-end}
use Rattle.guards.proofs.uses.used_mask.Goals as goal

pub loop-record-init : goal.loop-record-init
loop-record-init c = λ a h.
    let e = ap (λ (r : Records). r.rest.now) c.into_iter-record-iterator.ensures.into_iter_gives ∙ c.of-record-items.ensures in
    rw e (used_start _ a)

pub loop-record-preserved : goal.loop-record-preserved
loop-record-preserved c = λ a h. used-on c.loop-record.record-iterator.rest.now c.next.new.self.rest.now c.in-Some.record.now c.in-Some.ensures.steps c.usage.result c.usage.ensures c.args.variable a c.loop-record.mask c.add-mask.result _ (c.add-mask.ensures a h) (c.loop-record.invariant a h)

pub returns : goal.returns
returns c = λ a h. used-end c.loop-record.record-iterator.rest.now c.in-None.ensures.steps.0 c.args.variable a c.loop-record.mask _ (c.loop-record.invariant a h)
