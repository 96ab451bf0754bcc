use Rattle.std.proofs.Common.{sym, ◌∙◌, arith}
use Rattle.decide.proofs.seeks.Keys.{tells-left, tells-right}
use Rattle.decide.proofs.seeks.key_at.Goals as goal

pub returns-then-a-v : goal.returns-then-a-v
returns-then-a-v c = (c.size_at-other.ensures.value, tells-left c.args.t.now c.args.i c.args.variable _ _ _ _ c.size_at.ensures.value c.if-size_at-ne1.false c.size_at-a.ensures.value c.size_at-b.ensures.value (omega (arith, c.ranges.variable)) (c.if-a-v.true ∙ c.from-v.ensures) (λ e. c.if-b-v.false (e ∙ sym c.from-v.ensures)) c.size_at-then-a-v.ensures.value, omega arith)

pub returns : goal.returns
returns c = (c.size_at-other.ensures.value, tells-right c.args.t.now c.args.i c.args.variable _ _ _ _ c.size_at.ensures.value c.if-size_at-ne1.false c.size_at-a.ensures.value c.size_at-b.ensures.value (omega (arith, c.ranges.variable)) (λ e. c.if-a-v.false (e ∙ sym c.from-v.ensures)) (c.if-b-v-2.false ∙ c.from-v.ensures) c.size_at-2.ensures.value, omega arith)
