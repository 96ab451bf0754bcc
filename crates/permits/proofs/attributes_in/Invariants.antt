use mathlib.Core.Path.{◌≡◌}
use Prim.Native.Nat.{ℕ}
use mathlib.Core.Bool.{true, not, ◌||◌}
use Rattle.model.specs.Lists.{all, below}
use Rattle.model.specs.Permits.{bit}
use lib.Dec.{ltb}
use Rattle.permits.proofs.attributes_in.Given as goal

abbrev pub invariant-loop-a : goal.invariant-loop-a
invariant-loop-a l = all (λ (x : ℕ). not (bit l.mask x) || ltb x l.attributes) (below l.a) ≡ true
