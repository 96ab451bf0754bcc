use Rattle.rewriter.proofs.+ranges.Given as goal

abbrev pub decreases-ranges : goal.decreases-ranges
decreases-ranges l = l.left
