use Prim.Native.Nat.{◌≤◌}
use Rattle.quick.proofs.index.Letters.{Letters}
use Rattle.quick.proofs.index.spelled.Given as goal

abbrev pub invariant-loop-i : goal.invariant-loop-i
invariant-loop-i l = Letters l.name l.i l.code × (1 ≤ l.code)
