use Rattle.aggregates.proofs.+condition_term.Given as goal

abbrev pub decreases-condition : goal.decreases-condition
decreases-condition l = l.level

abbrev pub decreases-term : goal.decreases-term
decreases-term l = l.level
