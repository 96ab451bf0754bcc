use mathlib.Core.Path.{◌≡◌, refl, sym, ap, ◌∙◌}
use native.Mathlib.Omega.{arith}
use Prim.Native.Nat.{ℕ, ◌≤◌}
use mathlib.Core.Bool.{not, ◌||◌}
use Rattle.model.specs.Lists.{all, below}
use Rattle.model.specs.Permits.{bit}
use Rattle.permits.proofs.Loops as loops
use Rattle.permits.specs.Applying as spec
use Rattle.guards.proofs.applying.all_used.Goals as goal

the_end : (a : ℕ) → a ≤ 16 → 16 ≤ a → 16 ≡ a
the_end a h k = omega arith

pub loop-a-init : goal.loop-a-init
unfolding all below
loop-a-init c = refl

pub returns-then-not-as_wanted : goal.returns-then-not-as_wanted
unfolding spec.all_used
returns-then-not-as_wanted c = loops.below-stopped (λ (x : ℕ). not (bit c.args.used x) || spec.agree c.args.wanted (bit c.args.mask x)) c.loop-a.a 16 c.as_wanted.result c.loop-a-test.true c.as_wanted.ensures c.if-not-as_wanted.true-raw

pub loop-a-preserved : goal.loop-a-preserved
loop-a-preserved c = loops.below_on (λ (x : ℕ). not (bit c.args.used x) || spec.agree c.args.wanted (bit c.args.mask x)) c.loop-a.a c.as_wanted.result c.loop-a.invariant c.as_wanted.ensures c.if-not-as_wanted.false-raw

pub returns : goal.returns
unfolding spec.all_used
returns c = sym (ap (λ (m : ℕ). all (λ (x : ℕ). not (bit c.args.used x) || spec.agree c.args.wanted (bit c.args.mask x)) (below m)) (the_end c.loop-a.a (omega arith) c.loop-a-test.false) ∙ c.loop-a.invariant)
