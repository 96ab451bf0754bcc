use Rattle.rewriter.proofs.+open_ranges.Given as goal

abbrev pub decreases-open_ranges : goal.decreases-open_ranges
decreases-open_ranges l = l.left
