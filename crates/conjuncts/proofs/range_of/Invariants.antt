use Rattle.std.proofs.Common.{◌≡◌, false, drop}
use Rattle.model.specs.Lists.{contains}
use Rattle.model.specs.Syntax.{variables}
use Rattle.sizes.specs.Parts.{ranges_at}
use Rattle.conjuncts.proofs.range_of.Given as goal

abbrev pub invariant-loop-i : goal.invariant-loop-i
invariant-loop-i l = contains l.variable (variables (drop l.i (ranges_at l.ranges l.q))) ≡ false
