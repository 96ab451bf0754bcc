use mathlib.Core.Path.{◌∙◌}
use Rattle.grammar.proofs.Whole.{too_long, within-limit, numbered}
use Rattle.grammar.proofs.query_within.Goals as goal

pub returns-then-limit-q : goal.returns-then-limit-q
returns-then-limit-q c = record { value = (numbered _ _ _ (too_long c.args.limit c.args.q.now c.if-limit-q.true)).0; result_value = (numbered _ _ _ (too_long c.args.limit c.args.q.now c.if-limit-q.true)).1 }

pub returns-else-limit-q : goal.returns-else-limit-q
returns-else-limit-q c = record { value = (numbered _ _ _ (c.query.ensures ∙ within-limit c.args.limit c.args.q.now c.if-limit-q.false)).0; result_value = (numbered _ _ _ (c.query.ensures ∙ within-limit c.args.limit c.args.q.now c.if-limit-q.false)).1 }
