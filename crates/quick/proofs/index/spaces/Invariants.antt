use mathlib.Core.Path.{◌≡◌}
use Prim.Native.Nat.{◌≤◌}
use lib.Dec.{eqb}
use lib.ListN.{drop}
use Rattle.model.specs.Lists.{all}
use Rattle.quick.proofs.index.spaces.Given as goal

abbrev pub invariant-loop-i : goal.invariant-loop-i
invariant-loop-i l = l.n ≤ l.i → all (λ b. eqb b 32) (drop l.i l.name) ≡ all (λ b. eqb b 32) (drop l.n l.name)
