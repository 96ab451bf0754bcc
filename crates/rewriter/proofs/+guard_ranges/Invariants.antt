use Rattle.rewriter.proofs.+guard_ranges.Given as goal

abbrev pub decreases-guard_ranges : goal.decreases-guard_ranges
decreases-guard_ranges l = l.left
