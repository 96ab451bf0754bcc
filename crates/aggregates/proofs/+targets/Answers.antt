use borrow.Author.Rules.{rules}
use mathlib.Core.Path.{ap, ◌∙◌}
use Rattle.walks.specs.Walks.{rows_by}
use Rattle.walks.specs.Assigned.{assigned}
use Rattle.aggregates.proofs.Steps.{targets-none, targets-more}
use Rattle.aggregates.proofs.+targets.Goals as goal

pub returns-then-n-eq0 : goal.returns-then-n-eq0
returns-then-n-eq0 t c = let vs = c.args.values.now in record { memo_after = targets-none (rows_by c.args.walks.now vs) (assigned vs c.args.env.now) c.args.q.now c.args.z.now c.args.memo.now c.args.left.targets c.args.left.level c.if-n-eq0.true; env_unchanged = search rules }

pub returns : goal.returns
returns t c = let vs = c.args.values.now in record { memo_after = targets-more (rows_by c.args.walks.now vs) (assigned vs c.args.env.now) c.args.q.now c.args.z.now c.args.memo.now c.args.left.targets c.args.left.level _ _ _ _ _ _ c.if-n-eq0.false c.target_term.ensures.memo_after c.size_at-size.ensures.value c.tail.ensures c.tail_sizes.ensures (ap (assigned vs) c.target_term.ensures.env_unchanged) c.targets.ensures.memo_after; env_unchanged = c.targets.ensures.env_unchanged ∙ c.target_term.ensures.env_unchanged }
