use mathlib.Core.Path.{refl, sym, ◌∙◌}
use Rattle.decide.proofs.Following.{branch-condition, branch-compared}
use Rattle.decide.proofs.Decider.branch.Goals as goal

pub returns-then-operator-eq0 : goal.returns-then-operator-eq0
returns-then-operator-eq0 c = let s = c.args.self.now in record { value = branch-condition s.t.now s.q.now s.z.now s.walks.now s.values.now s.memo.now c.args.env.now c.args.i c.size_at-operator.result c.size_at-operator.ensures.value _ _ _ _ _ c.if-operator-eq0.true c.size_at-place.ensures.value c.size_at-level.ensures.value c.tail-c.ensures c.tail_sizes-sizes.ensures c.condition.ensures.value; env_unchanged = c.condition.ensures.env_unchanged }

pub returns : goal.returns
returns c = let s = c.args.self.now in record { value = branch-compared s.t.now s.q.now s.z.now s.walks.now s.values.now s.memo.now c.args.env.now c.args.i c.size_at-operator.result c.size_at-operator.ensures.value c.side-a.result c.side-b.result _ c.if-operator-eq0.false (λ e. c.requires.2 (sym c.size_at-operator.ensures.value ∙ e)) c.side-a.ensures.result_value c.side-b.ensures.result_value c.compared.ensures; env_unchanged = refl }
