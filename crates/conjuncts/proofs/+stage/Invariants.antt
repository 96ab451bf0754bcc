use Rattle.conjuncts.proofs.+stage.Given as goal

abbrev pub decreases-stage : goal.decreases-stage
decreases-stage l = l.level
