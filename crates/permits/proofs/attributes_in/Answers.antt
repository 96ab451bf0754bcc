use mathlib.Core.Path.{◌≡◌, refl, sym, ap, ◌∙◌}
use native.Mathlib.Omega.{arith}
use Prim.Native.Nat.{ℕ, ◌≤◌}
use mathlib.Core.Bool.{not, ◌||◌}
use Rattle.model.specs.Lists.{all, below}
use Rattle.model.specs.Permits.{bit}
use Rattle.permits.proofs.Loops as loops
use Rattle.permits.specs.Masks as spec
use lib.Dec.{ltb}
use Rattle.permits.proofs.attributes_in.Goals as goal

the_end : (a : ℕ) → a ≤ 16 → 16 ≤ a → 16 ≡ a
the_end a h k = omega arith

pub loop-a-init : goal.loop-a-init
unfolding all below
loop-a-init c = refl

pub returns-then-not-has_if_known : goal.returns-then-not-has_if_known
unfolding spec.attributes_in
returns-then-not-has_if_known c = loops.below-stopped (λ (x : ℕ). not (bit c.args.mask x) || ltb x c.args.attributes) c.loop-a.a 16 c.has_if_known.result c.loop-a-test.true c.has_if_known.ensures c.if-not-has_if_known.true-raw

pub loop-a-preserved : goal.loop-a-preserved
loop-a-preserved c = loops.below_on (λ (x : ℕ). not (bit c.args.mask x) || ltb x c.args.attributes) c.loop-a.a c.has_if_known.result c.loop-a.invariant c.has_if_known.ensures c.if-not-has_if_known.false-raw

pub returns : goal.returns
unfolding spec.attributes_in
returns c = sym (ap (λ (m : ℕ). all (λ (x : ℕ). not (bit c.args.mask x) || ltb x c.args.attributes) (below m)) (the_end c.loop-a.a (omega arith) c.loop-a-test.false) ∙ c.loop-a.invariant)
