use Prim.Native.Nat.{◌+◌, ◌*◌}
use Rattle.rewriter.proofs.+condition_conditions_term_terms_under.Given as goal

abbrev pub decreases-condition : goal.decreases-condition
decreases-condition l = 2 * l.level

abbrev pub decreases-conditions : goal.decreases-conditions
decreases-conditions l = 2 * l.level + 1

abbrev pub decreases-term : goal.decreases-term
decreases-term l = 2 * l.level

abbrev pub decreases-terms : goal.decreases-terms
decreases-terms l = 2 * l.level + 1

abbrev pub decreases-under : goal.decreases-under
decreases-under l = 2 * l.level + 1
