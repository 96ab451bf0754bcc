use Rattle.guards.proofs.+fill_places.Given as goal

abbrev pub decreases-fill_places : goal.decreases-fill_places
decreases-fill_places l = l.left
