use Rattle.aggregates.proofs.+targets.Given as goal

abbrev pub decreases-targets : goal.decreases-targets
decreases-targets l = l.left.targets
