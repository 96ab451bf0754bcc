use Prim.Native.Nat.{◌≤◌}
use Rattle.plain.proofs.Asked.chained.Given as goal

abbrev pub invariant-loop-i : goal.invariant-loop-i
invariant-loop-i l = (l.n ≤ l.i) × (l.i ≤ 5)
