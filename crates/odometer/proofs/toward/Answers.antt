use lib.IntN.{pos}
use lib.Signed.{lt_z}
use mathlib.Core.Path.{◌∙◌, sym, ap}
use mir.Facts.{to_z-of_z}
use Rattle.odometer.proofs.Rounding.{negated_fits}
use Rattle.odometer.proofs.toward.Goals as goal

pub overflow_sub-result : goal.overflow_sub-result
overflow_sub-result c = negated_fits c.args.b c.ranges.b c.requires

pub returns-else-a-lt0 : goal.returns-else-a-lt0
returns-else-a-lt0 c = to_z-of_z c.ranges.b ∙ sym (rw (sym (ap (λ z. lt_z z (pos 0)) (to_z-of_z c.ranges.a)) ∙ c.if-a-lt0.false))
