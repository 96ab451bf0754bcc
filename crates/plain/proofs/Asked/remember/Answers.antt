use mathlib.Core.Path.{◌∙◌}
use Rattle.plain.proofs.Memo.{remembered-is}
use Rattle.plain.proofs.Asked.remember.Goals as goal

pub returns : goal.returns
returns c = let a = c.args.self.now in
    record { memo_after = remembered-is a.layout a.level a.q.now a.z.now a.walks.now a.values.now c.args.env.now _ _ _ _ _ c.args.memo.now _ _ c.tail-x.ensures c.tail_sizes-y.ensures c.targets.ensures.memo_after c.targets.ensures.env_unchanged c.tail-u.ensures c.tail_sizes-v.ensures c.condition.ensures.memo_after; env_unchanged = c.condition.ensures.env_unchanged ∙ c.targets.ensures.env_unchanged }
