use mathlib.Core.Path.{sym, ◌∙◌}
use Rattle.quick.proofs.lexis.Standing.{some, name-here, unreserved}
use Rattle.quick.proofs.lexis.Text.name.Goals as goal

pub returns : goal.returns
returns c = (c.word-s.ensures.end_bound.1 (some _ c.if-s-eq0.false), c.word-s.ensures.end_bound.0, λ given k. name-here given c.args.at c.word-s.result.end c.word-s.result.value (c.word-s.ensures.by_index given k (some _ c.if-s-eq0.false)) (unreserved _ (sym c.is_reserved.ensures ∙ c.if-is_reserved.false)))
