use Rattle.std.proofs.Common.{◌*ℤ◌, sym, ap, ◌∙◌}
use Rattle.decide.specs.Probe.{holds}
use Rattle.decide.specs.declared.probes.Operator.{Operator}
use Rattle.decide.proofs.probes.Tests.{unwanted, less-is}
use Rattle.decide.proofs.probes.Test.by.Goals as goal

pub returns-in-Less-clause-met : goal.returns-in-Less-clause-met
returns-in-Less-clause-met c = let n = c.args.x.numerator in let d = c.args.x.denominator in
    λ u. unwanted c.at_least.result u _ c.at_least.ensures.given.1 (c.at_least.ensures.inside u) ∙ sym (less-is (u *ℤ d) n) ∙ ap (λ (o : Operator). holds o (u *ℤ d) n) (sym c.in-Less.is)

pub returns-in-Greater-clause-met : goal.returns-in-Greater-clause-met
returns-in-Greater-clause-met c = let n = c.args.x.numerator in let d = c.args.x.denominator in
    λ u. unwanted c.at_most-in-Greater.result u _ c.at_most-in-Greater.ensures.given.1 (c.at_most-in-Greater.ensures.inside u) ∙ sym (less-is n (u *ℤ d)) ∙ ap (λ (o : Operator). holds o (u *ℤ d) n) (sym c.in-Greater.is)
