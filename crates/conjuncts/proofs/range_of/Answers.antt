use Rattle.std.proofs.Common.{◌≡◌, ℕ, ◌+◌, ◌-◌, false, drop, arith, refl}
use mathlib.Core.Path.{subst}
use Rattle.model.specs.Lists.{contains}
use Rattle.model.specs.Syntax.{variables}
use Rattle.sizes.specs.Parts.{ranges_at}
use Rattle.conjuncts.proofs.Stages.{none_from, none_before}
use Rattle.conjuncts.proofs.range_of.Goals as goal

pub loop-i-init : goal.loop-i-init
loop-i-init c = none_from c.args.variable _ c.args.ranges c.args.q.now refl

pub loop-i-preserved : goal.loop-i-preserved
loop-i-preserved c = none_before c.args.variable _ c.args.ranges _ c.args.q.now c.loop-i-test.true c.loop-i.auto.i c.byte.ensures c.if-byte-variable.false c.loop-i.invariant

pub returns-then-byte-variable-clause-q_value : goal.returns-then-byte-variable-clause-q_value
returns-then-byte-variable-clause-q_value c = let e : c.loop-i.i - 1 + 1 ≡ c.loop-i.i = omega arith in rw e c.loop-i.invariant

pub returns-clause-q_value : goal.returns-clause-q_value
returns-clause-q_value c = let e : c.loop-i.i ≡ 0 = omega arith in subst (λ (n : ℕ). contains c.args.variable (variables (drop n (ranges_at c.args.ranges c.args.q.now))) ≡ false) e c.loop-i.invariant
