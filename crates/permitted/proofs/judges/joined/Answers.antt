use mathlib.Core.Path.{◌∙◌}
use Rattle.permitted.proofs.judges.Steps.{byte-is, joined_is}
use Rattle.permitted.proofs.judges.joined.Goals as goal

pub returns : goal.returns
returns c = joined_is c.args.old c.from.result c.args.b c.requires (c.from.ensures ∙ byte-is c.args.b)
