use Rattle.guards.proofs.+standing.Given as goal

abbrev pub decreases-standing : goal.decreases-standing
decreases-standing l = l.left
