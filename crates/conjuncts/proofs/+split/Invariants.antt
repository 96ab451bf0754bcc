use Rattle.conjuncts.proofs.+split.Given as goal

abbrev pub decreases-split : goal.decreases-split
decreases-split l = l.spot.level
