use Rattle.catalogue.proofs.Reading.{check-10, check-11, check-none}
use native.Mathlib.Omega.{arith}
use mathlib.Core.Path.{sym, ◌∙◌}
use Rattle.catalogue.proofs.check.Goals as goal

pub returns-then-fails_10 : goal.returns-then-fails_10
returns-then-fails_10 c = sym (check-10 c.args.catalogue.now c.args.values.now (sym c.fails_10.ensures ∙ c.if-fails_10.true))

pub returns-then-values-total : goal.returns-then-values-total
returns-then-values-total c = sym (check-11 c.args.catalogue.now c.args.values.now (sym c.fails_10.ensures ∙ c.if-fails_10.false) (λ e. omega (arith, c.total.ensures)))

pub returns : goal.returns
returns c = sym (check-none c.args.catalogue.now c.args.values.now (sym c.fails_10.ensures ∙ c.if-fails_10.false) (omega (arith, c.total.ensures)))
