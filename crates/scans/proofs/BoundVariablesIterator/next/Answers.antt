use Rattle.std.proofs.Common.{length, sym, ◌∙◌, ap, arith}
use Rattle.scans.specs.Flat.{binding_of}
use Rattle.scans.proofs.Walk.{flat-over, binding-on, no_binding-on}
use Rattle.scans.proofs.BoundVariablesIterator.next.Goals as goal

pub returns-in-Some-read-clause-steps : goal.returns-in-Some-read-clause-steps
returns-in-Some-read-clause-steps c =
    sym c.loop-bytes.invariant ∙ binding-on c.loop-bytes.self.records.rest.now c.next.new.self.rest.now c.in-Some.bytes.now _ c.in-Some.ensures.steps c.in-Some-read.ensures

pub returns-in-Some-read-clause-goes : goal.returns-in-Some-read-clause-goes
returns-in-Some-read-clause-goes c =
    let e = sym c.loop-bytes.invariant ∙ binding-on c.loop-bytes.self.records.rest.now c.next.new.self.rest.now c.in-Some.bytes.now _ c.in-Some.ensures.steps c.in-Some-read.ensures in
    record { on = λ h. (tt, tt, omega (arith, ap length e)); keeps = tt; rests = λ h. tt }

pub loop-bytes-preserved : goal.loop-bytes-preserved
loop-bytes-preserved c =
    no_binding-on c.loop-bytes.self.records.rest.now c.next.new.self.rest.now c.in-Some.bytes.now c.in-Some.ensures.steps c.in_default-read.ensures ∙ c.loop-bytes.invariant

pub returns-clause-steps : goal.returns-clause-steps
returns-clause-steps c = (sym c.loop-bytes.invariant ∙ flat-over binding_of _ c.in_default.ensures.steps.0, flat-over binding_of _ c.in_default.ensures.steps.1)
