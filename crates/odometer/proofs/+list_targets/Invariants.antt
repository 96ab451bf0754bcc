use Rattle.odometer.proofs.+list_targets.Given as goal

abbrev pub decreases-list_targets : goal.decreases-list_targets
decreases-list_targets l = l.left
