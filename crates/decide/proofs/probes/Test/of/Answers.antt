use Rattle.std.proofs.Common.{◌*ℤ◌, Bool, true, false, refl, sym, ap, ◌∙◌}
use Rattle.std.proofs.Math.Option.{some}
use Rattle.model.specs.Meaning.{whole}
use Rattle.numbers.specs.Numbers.{value_of}
use Rattle.numbers.proofs.Laws.{is_number}
use Rattle.decide.specs.Probe.{sided}
use Rattle.decide.proofs.probes.Tests.{number-meets}
use Rattle.decide.proofs.probes.Test.of.Goals as goal

pub returns-then-mirrored-clause-met : goal.returns-then-mirrored-clause-met
returns-then-mirrored-clause-met c = let x = c.args.x in let code = c.args.code in
    λ u. c.by.ensures.met u ∙ c.turned.ensures (u *ℤ x.denominator) x.numerator ∙ c.of-operator.ensures x.numerator (u *ℤ x.denominator) ∙ number-meets code true u x.numerator x.denominator x c.requires.1 (is_number x c.requires.1 c.if-x-le0.false) refl refl ∙ ap (λ (w : Bool). sided code w (some (whole u)) (value_of x)) (sym c.if-mirrored.true)

pub returns-clause-met : goal.returns-clause-met
returns-clause-met c = let x = c.args.x in let code = c.args.code in
    λ u. c.by-2.ensures.met u ∙ c.of-operator.ensures (u *ℤ x.denominator) x.numerator ∙ number-meets code false u x.numerator x.denominator x c.requires.1 (is_number x c.requires.1 c.if-x-le0.false) refl refl ∙ ap (λ (w : Bool). sided code w (some (whole u)) (value_of x)) (sym c.if-mirrored.false)
