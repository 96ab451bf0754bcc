use Rattle.queries.proofs.+bind_ranges.Given as goal

abbrev pub decreases-bind_ranges : goal.decreases-bind_ranges
decreases-bind_ranges l = l.left
