use Prim.Native.Nat.{◌+◌, ◌-◌}
use native.Mathlib.Omega.{arith}
use mathlib.Core.Path.{sym, ap, ◌∙◌}
use lib.ListN.{length, length-drop}
use Rattle.grammar.specs.Sizes.{condition_size, term_size, after, many, head_size}
use Rattle.grammar.proofs.Pending.{next, turn, stop, halt, end, no-head, no-leaf, head-whole, head-is, leaf-whole, leaf-is}
use Rattle.grammar.proofs.Bounds.{condition-within, many-within, head-takes, term-takes, part-within, part-takes}
use Rattle.kinds.specs.Places.{is_condition, is_term}
use Rattle.grammar.proofs.+conditions_head_term.Goals as goal

pub conditions-returns-in_err-m : goal.conditions-returns-in_err-m
conditions-returns-in_err-m t c = let q = c.args.q.now in
    c.from_residual.ensures ∙ halt q c.tail-rest.result.now c.loop-pending.at c.loop-pending.pending c.head.result (many condition_size c.args.n q) c.tail-rest.ensures c.in_err-m.was c.loop-pending.invariant.0 c.loop-pending-test.true c.head.ensures

pub conditions-overflow_add-at : goal.conditions-overflow_add-at
conditions-overflow_add-at t c = let h = part-takes head_size c.args.q.now c.tail-rest.result.now c.loop-pending.at c.in_ok-m.m c.head.result c.tail-rest.ensures c.head.ensures c.in_ok-m.was head-takes in omega (arith, c.loop-pending.invariant.1)

pub conditions-loop-pending-smaller : goal.conditions-loop-pending-smaller
conditions-loop-pending-smaller t c = let h = part-takes head_size c.args.q.now c.tail-rest.result.now c.loop-pending.at c.in_ok-m.m c.head.result c.tail-rest.ensures c.head.ensures c.in_ok-m.was head-takes in omega (arith, c.loop-pending.invariant.1)

pub conditions-loop-pending-preserved : goal.conditions-loop-pending-preserved
conditions-loop-pending-preserved t c = let q = c.args.q.now in
    let h = part-takes head_size q c.tail-rest.result.now c.loop-pending.at c.in_ok-m.m c.head.result c.tail-rest.ensures c.head.ensures c.in_ok-m.was head-takes in (turn q c.tail-rest.result.now c.loop-pending.at c.loop-pending.pending c.in_ok-m.m c.head.result (many condition_size c.args.n q) c.tail-rest.ensures c.in_ok-m.was c.byte.result c.children.result c.loop-pending.invariant.0 c.loop-pending-test.true c.head.ensures c.byte.ensures c.children.ensures.0, omega (arith, c.loop-pending.invariant.1), omega (arith, c.loop-pending.invariant.2))

pub conditions-returns : goal.conditions-returns
conditions-returns t c = let q = c.args.q.now in
    end condition_size q c.loop-pending.at c.loop-pending.pending (many condition_size c.args.n q) c.loop-pending.invariant.0 c.loop-pending-test.false

pub head-returns-then-not-is_condition : goal.head-returns-then-not-is_condition
head-returns-then-not-is_condition t c = no-head c.args.q.now c.is_condition.result (c.is_condition.ensures ∙ ap is_condition c.condition_record.ensures) c.if-not-is_condition.true-raw

pub head-loop-init : goal.head-loop-init
head-loop-init t c = let q = c.args.q.now in
    let h = head-whole q c.is_condition.result c.byte-k.result c.record_length-at.result c.byte-k.ensures c.record_length-at.ensures.value c.if-not-is_condition.false-raw (c.is_condition.ensures ∙ ap is_condition c.condition_record.ensures) in (head-is q c.is_condition.result c.byte-k.result c.record_length-at.result c.byte-k.ensures c.record_length-at.ensures.value c.if-not-is_condition.false-raw (c.is_condition.ensures ∙ ap is_condition c.condition_record.ensures) (c.child_counts-end.result.terms - 0) (omega arith), h.1, h.0)

pub head-returns-in_err-at : goal.head-returns-in_err-at
head-returns-in_err-at t c = let q = c.args.q.now in
    c.from_residual.ensures ∙ stop q c.tail.result.now c.loop.at (c.child_counts-end.result.terms - c.loop.counter) c.term.result (head_size q) c.tail.ensures c.in_err-at.was term_size c.loop.invariant.0 (omega arith) c.term.ensures

pub head-overflow_add-at : goal.head-overflow_add-at
head-overflow_add-at t c = let h = part-takes term_size c.args.q.now c.tail.result.now c.loop.at c.in_ok-at.field-0 c.term.result c.tail.ensures c.term.ensures c.in_ok-at.was term-takes in omega (arith, c.loop.invariant.1)

pub head-loop-preserved : goal.head-loop-preserved
head-loop-preserved t c = let q = c.args.q.now in
    let h = part-takes term_size q c.tail.result.now c.loop.at c.in_ok-at.field-0 c.term.result c.tail.ensures c.term.ensures c.in_ok-at.was term-takes in (next q c.tail.result.now c.loop.at (c.child_counts-end.result.terms - c.loop.counter) c.in_ok-at.field-0 c.term.result (head_size q) c.tail.ensures c.in_ok-at.was term_size (c.child_counts-end.result.terms - (c.loop.counter + 1)) (omega arith) c.loop.invariant.0 c.term.ensures, omega (arith, c.loop.invariant.1), omega (arith, c.loop.invariant.2))

pub head-returns : goal.head-returns
head-returns t c = let q = c.args.q.now in
    end term_size q c.loop.at (c.child_counts-end.result.terms - c.loop.counter) (head_size q) c.loop.invariant.0 (omega arith)

pub term-returns-then-not-is_term : goal.term-returns-then-not-is_term
term-returns-then-not-is_term t c = no-leaf c.args.q.now c.is_term.result (c.is_term.ensures ∙ ap is_term c.term_record.ensures) c.if-not-is_term.true-raw

pub term-conditions-requires : goal.term-conditions-requires
term-conditions-requires t c = let q = c.args.q.now in
    let h = leaf-whole q c.is_term.result c.byte-k.result c.record_length-a.result c.byte-k.ensures c.record_length-a.ensures.value c.if-not-is_term.false-raw (c.is_term.ensures ∙ ap is_term c.term_record.ensures) in (omega (arith, ap length c.tail.ensures, length-drop c.record_length-a.result q), tt)

pub term-returns-in_err-n : goal.term-returns-in_err-n
term-returns-in_err-n t c = c.from_residual.ensures ∙ ap (after c.record_length-a.result) (sym c.in_err-n.was) ∙ leaf-is c.args.q.now c.is_term.result c.byte-k.result c.record_length-a.result c.byte-k.ensures c.record_length-a.ensures.value c.if-not-is_term.false-raw (c.is_term.ensures ∙ ap is_term c.term_record.ensures) c.child_counts.result.conditions c.tail.result.now c.conditions.result c.child_counts.ensures.0 c.tail.ensures c.conditions.ensures

pub term-overflow_add-result : goal.term-overflow_add-result
term-overflow_add-result t c = let h = leaf-whole c.args.q.now c.is_term.result c.byte-k.result c.record_length-a.result c.byte-k.ensures c.record_length-a.ensures.value c.if-not-is_term.false-raw (c.is_term.ensures ∙ ap is_term c.term_record.ensures) in omega (arith, part-within (λ q. many condition_size c.child_counts.result.conditions q) c.args.q.now c.tail.result.now c.record_length-a.result c.in_ok-n.n c.conditions.result c.tail.ensures c.conditions.ensures c.in_ok-n.was (many-within condition_size condition-within c.child_counts.result.conditions))

pub term-returns : goal.term-returns
term-returns t c = ap (after c.record_length-a.result) (sym c.in_ok-n.was) ∙ leaf-is c.args.q.now c.is_term.result c.byte-k.result c.record_length-a.result c.byte-k.ensures c.record_length-a.ensures.value c.if-not-is_term.false-raw (c.is_term.ensures ∙ ap is_term c.term_record.ensures) c.child_counts.result.conditions c.tail.result.now c.conditions.result c.child_counts.ensures.0 c.tail.ensures c.conditions.ensures

pub head-term-requires : goal.head-term-requires
head-term-requires t c = (omega (arith, c.loop.invariant.1, c.loop.invariant.2, ap length c.tail.ensures, length-drop c.loop.at c.args.q.now), tt)
