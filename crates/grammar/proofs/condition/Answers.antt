use mathlib.Core.Path.{◌∙◌}
use Rattle.grammar.specs.Sizes.{condition_size}
use Rattle.grammar.proofs.Pending.{many-one}
use Rattle.grammar.proofs.condition.Goals as goal

pub returns : goal.returns
returns c = c.conditions.ensures ∙ many-one condition_size c.args.q.now
