use Rattle.branches.proofs.+compile.Given as goal

abbrev pub decreases-compile : goal.decreases-compile
decreases-compile l = l.spot.level
