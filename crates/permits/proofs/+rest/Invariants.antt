use Rattle.permits.proofs.+rest.Given as goal

abbrev pub decreases-rest : goal.decreases-rest
decreases-rest l = l.left
