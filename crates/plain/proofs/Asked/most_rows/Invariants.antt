use Prim.Native.Nat.{◌≤◌}
use Rattle.plain.proofs.Asked.most_rows.Given as goal

abbrev pub invariant-loop-i : goal.invariant-loop-i
invariant-loop-i l = l.n ≤ 1024
