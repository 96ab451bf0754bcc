use Rattle.std.proofs.Common.{rules}
use Rattle.tokens.proofs.Leading.{opens_less, opens_more, fronts}
use Rattle.tokens.proofs.first_piece.Goals as goal

pub returns-in-60 : goal.returns-in-60
returns-in-60 c = fronts _ c.args.s.now 60 c.in-60.len_at_least (search rules) (c.with_equal.ensures 60 opens_less)

pub returns-in-62 : goal.returns-in-62
returns-in-62 c = fronts _ c.args.s.now 62 c.in-62.len_at_least (search rules) (c.with_equal-in-62.ensures 62 opens_more)
