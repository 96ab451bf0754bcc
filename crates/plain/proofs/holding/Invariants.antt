use Rattle.std.proofs.Common.{◌≤◌}
use Rattle.plain.proofs.holding.Given as goal

abbrev pub invariant-loop-record : goal.invariant-loop-record
invariant-loop-record l = l.n ≤ 1001
