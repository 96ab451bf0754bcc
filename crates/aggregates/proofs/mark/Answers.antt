use Rattle.aggregates.proofs.Remembers.{mark-fits, mark-is}
use Rattle.aggregates.proofs.mark.Goals as goal

pub overflow_add-result : goal.overflow_add-result
overflow_add-result c = mark-fits c.args.x c.requires

pub returns : goal.returns
returns c = mark-is c.args.x c.requires
