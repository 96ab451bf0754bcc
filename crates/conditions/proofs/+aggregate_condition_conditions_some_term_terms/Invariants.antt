use Prim.Native.Nat.{◌+◌, ◌*◌}
use Rattle.conditions.proofs.+aggregate_condition_conditions_some_term_terms.Given as goal

abbrev pub decreases-aggregate : goal.decreases-aggregate
decreases-aggregate l = 2 * l.under.level + 1

abbrev pub decreases-condition_at : goal.decreases-condition_at
decreases-condition_at l = 2 * l.level

abbrev pub decreases-conditions : goal.decreases-conditions
decreases-conditions l = 2 * l.level + 1

abbrev pub decreases-some : goal.decreases-some
decreases-some l = 2 * l.under.level + 1

abbrev pub decreases-term_at : goal.decreases-term_at
decreases-term_at l = 2 * l.level

abbrev pub decreases-terms : goal.decreases-terms
decreases-terms l = 2 * l.level + 1
