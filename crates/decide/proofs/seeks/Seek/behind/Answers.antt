use Rattle.std.proofs.Common.{ℕ, ◌/◌, sym, ap, ◌∙◌, arith}
use Rattle.decide.proofs.seeks.Keys.{along-met}
use Rattle.decide.proofs.seeks.Seek.behind.Goals as goal

pub returns-clause-follows : goal.returns-clause-follows
returns-clause-follows c = λ v n a h. along-met c.args.self.now.t.now c.args.start _ v _ n a (omega (arith, c.if-start-lt2.false)) c.onward_from.ensures (h (ap (λ (i : ℕ). i / 8) (sym c.size_at.ensures.value) ∙ c.if-size_at-start.false))
