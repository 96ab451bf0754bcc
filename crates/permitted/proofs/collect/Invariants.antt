use Prim.Native.Nat.{◌+◌, ◌≤◌}
use Rattle.permitted.specs.Given.{number_at, Listed}
use Rattle.permitted.proofs.Lists.{marked}
use Rattle.permitted.proofs.collect.Given as goal

abbrev pub invariant-loop-i : goal.invariant-loop-i
invariant-loop-i l = (l.start ≤ l.at) × (l.at ≤ l.start + l.i) × Listed (marked l.marks (number_at l.latest l.n) l.i) l.start l.at l.initial.walks l.walks
