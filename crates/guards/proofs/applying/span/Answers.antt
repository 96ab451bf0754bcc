use Rattle.std.proofs.Common.{length, get_or, rules, tests, arith, ap, refl, ◌-◌}
use Rattle.std.proofs.lemmas.List.{length-drop}
use Rattle.kinds.specs.Tables.{record_length}
use Rattle.kinds.proofs.Entries.{length-small}
use Rattle.scans.proofs.Walk.{parts-on, parts-over}
use Rattle.permits.proofs.Walk.{span-on, span-found, span-within, span_none}
use Rattle.guards.proofs.applying.span.Goals as goal

pub returns-then-is_empty-clause-value : goal.returns-then-is_empty-clause-value
returns-then-is_empty-clause-value c = span_none c.args.q.now (search (rules, tests))

pub overflow_sub-at : goal.overflow_sub-at
overflow_sub-at c =
    let p = parts-on c.loop-record.record-iterator.rest.now c.next.new.self.rest.now c.in-Some.record.now c.in-Some.ensures.steps in
    omega (arith, ap length p.1, c.loop-record.invariant.within)

pub returns-then-kind-eq64-clause-value : goal.returns-then-kind-eq64-clause-value
returns-then-kind-eq64-clause-value c =
    let s = c.loop-record.record-iterator.rest.now in
    let p = parts-on s c.next.new.self.rest.now c.in-Some.record.now c.in-Some.ensures.steps in
    omega (arith, ap length p.1, span-found s c.next.new.self.rest.now c.in-Some.record.now c.byte-kind.result c.in-Some.ensures.steps c.byte-kind.ensures (length c.args.q.now - length s) _ (c.loop-record.invariant.left p.0) c.if-kind-eq64.true)

pub loop-record-preserved : goal.loop-record-preserved
loop-record-preserved c =
    let s = c.loop-record.record-iterator.rest.now in let t = c.next.new.self.rest.now in let x = c.in-Some.record.now in let q = c.args.q.now in
    let p = parts-on s t x c.in-Some.ensures.steps in
    let w = span-within s t x c.byte-kind.result c.in-Some.ensures.steps c.byte-kind.ensures (length q - length s) _ (c.loop-record.invariant.left p.0) _ (length q) refl (length-small c.byte-kind.result).1 (λ _. omega (arith, c.loop-record.invariant.within)) in
    let on = span-on s t x c.byte-kind.result c.in-Some.ensures.steps c.byte-kind.ensures (length q - length s) _ (c.loop-record.invariant.left p.0) (record_length c.byte-kind.result) c.if-kind-eq64.false refl in
    record {
      within = omega (arith, ap length p.2, length-drop (record_length (get_or s 0 0)) s, c.loop-record.invariant.within);
      left = λ k. omega (arith, on, w.1 k, c.loop-record.invariant.within);
      last = λ k e. (omega (arith, on, ap length p.1, span_none t e), omega (arith, ap length p.1, p.0, c.loop-record.invariant.within));
    }

pub overflow_add-result : goal.overflow_add-result
overflow_add-result c =
    let q = c.args.q.now in
    let l = c.loop-record.invariant.last (search (rules, tests)) (parts-over c.loop-record.record-iterator.rest.now c.in-None.ensures.steps.0) in
    search (rules, l.1, c.record_length.ensures.lower_bound.1)

pub returns-clause-value : goal.returns-clause-value
returns-clause-value c =
    let l = c.loop-record.invariant.last (search (rules, tests)) (parts-over c.loop-record.record-iterator.rest.now c.in-None.ensures.steps.0) in
    omega (arith, l.0, c.record_length.ensures.value)

pub returns-clause-upper_bound : goal.returns-clause-upper_bound
returns-clause-upper_bound c =
    let l = c.loop-record.invariant.last (search (rules, tests)) (parts-over c.loop-record.record-iterator.rest.now c.in-None.ensures.steps.0) in
    omega (arith, l.1, c.record_length.ensures.lower_bound.1)
