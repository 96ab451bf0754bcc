use mathlib.Core.Path.{◌≡◌}
use Prim.Native.Nat.{ℕ}
use mathlib.Core.Bool.{true, not, ◌||◌}
use Rattle.model.specs.Lists.{all, below}
use Rattle.model.specs.Permits.{bit}
use Rattle.permits.specs.Applying as spec
use Rattle.guards.proofs.applying.all_used.Given as goal

abbrev pub invariant-loop-a : goal.invariant-loop-a
invariant-loop-a l = all (λ (x : ℕ). not (bit l.used x) || spec.agree l.wanted (bit l.mask x)) (below l.a) ≡ true
