use native.Mathlib.Omega.{arith}
use mathlib.Core.Path.{◌∙◌}
use Rattle.grammar.proofs.Whole.{no-ranges, no_targets, two-fit, none-targeted, no-condition, three-fit, more_bytes, no-byte-more}
use Rattle.grammar.proofs.query.Goals as goal

pub returns-in_err-n : goal.returns-in_err-n
returns-in_err-n c = c.from_residual.ensures ∙ no-ranges c.args.q.now c.ranges-2.result c.ranges-2.ensures c.in_err-n.was

pub returns-in_err-m : goal.returns-in_err-m
returns-in_err-m c = c.from_residual-in_err-m.ensures ∙ no_targets c.args.q.now c.ranges-2.result c.ranges-2.ensures c.in_ok-n.n c.in_ok-n.a c.in_ok-n.was c.tail.result.now c.targets.result c.tail.ensures c.targets.ensures c.in_err-m.was

pub returns-then-m-eq0 : goal.returns-then-m-eq0
returns-then-m-eq0 c = none-targeted c.args.q.now c.ranges-2.result c.ranges-2.ensures c.in_ok-n.n c.in_ok-n.a c.in_ok-n.was c.tail.result.now c.targets.result c.tail.ensures c.targets.ensures c.in_ok-m.m c.in_ok-m.b c.in_ok-m.was (omega arith)

pub overflow_add-a : goal.overflow_add-a
overflow_add-a c = omega (arith, two-fit c.args.q.now c.ranges-2.result c.ranges-2.ensures c.in_ok-n.n c.in_ok-n.a c.in_ok-n.was c.tail.result.now c.targets.result c.tail.ensures c.targets.ensures c.in_ok-m.m c.in_ok-m.b c.in_ok-m.was)

pub returns-in_err-c : goal.returns-in_err-c
returns-in_err-c c = c.from_residual-in_err-c.ensures ∙ no-condition c.args.q.now c.ranges-2.result c.ranges-2.ensures c.in_ok-n.n c.in_ok-n.a c.in_ok-n.was c.tail.result.now c.targets.result c.tail.ensures c.targets.ensures c.in_ok-m.m c.in_ok-m.b c.in_ok-m.was (λ z. omega (arith, z, c.if-m-eq0.false)) c.tail-2.result.now c.condition.result c.tail-2.ensures c.condition.ensures c.in_err-c.was

pub overflow_add-a-2 : goal.overflow_add-a-2
overflow_add-a-2 c = omega (arith, two-fit c.args.q.now c.ranges-2.result c.ranges-2.ensures c.in_ok-n.n c.in_ok-n.a c.in_ok-n.was c.tail.result.now c.targets.result c.tail.ensures c.targets.ensures c.in_ok-m.m c.in_ok-m.b c.in_ok-m.was)

pub overflow_add-a-3 : goal.overflow_add-a-3
overflow_add-a-3 c = omega (arith, three-fit c.args.q.now c.ranges-2.result c.ranges-2.ensures c.in_ok-n.n c.in_ok-n.a c.in_ok-n.was c.tail.result.now c.targets.result c.tail.ensures c.targets.ensures c.in_ok-m.m c.in_ok-m.b c.in_ok-m.was (λ z. omega (arith, z, c.if-m-eq0.false)) c.tail-2.result.now c.condition.result c.tail-2.ensures c.condition.ensures c.in_ok-c.c c.in_ok-c.was)

pub returns-then-a-b : goal.returns-then-a-b
returns-then-a-b c = more_bytes c.args.q.now c.ranges-2.result c.ranges-2.ensures c.in_ok-n.n c.in_ok-n.a c.in_ok-n.was c.tail.result.now c.targets.result c.tail.ensures c.targets.ensures c.in_ok-m.m c.in_ok-m.b c.in_ok-m.was (λ z. omega (arith, z, c.if-m-eq0.false)) c.tail-2.result.now c.condition.result c.tail-2.ensures c.condition.ensures c.in_ok-c.c c.in_ok-c.was c.if-a-b.true

pub returns : goal.returns
returns c = no-byte-more c.args.q.now c.ranges-2.result c.ranges-2.ensures c.in_ok-n.n c.in_ok-n.a c.in_ok-n.was c.tail.result.now c.targets.result c.tail.ensures c.targets.ensures c.in_ok-m.m c.in_ok-m.b c.in_ok-m.was (λ z. omega (arith, z, c.if-m-eq0.false)) c.tail-2.result.now c.condition.result c.tail-2.ensures c.condition.ensures c.in_ok-c.c c.in_ok-c.was c.if-a-b.false
