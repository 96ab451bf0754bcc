use native.Mathlib.Omega.{arith}
use mir.Facts.{to_z-of_z}
use mathlib.Core.Path.{◌∙◌}
use Rattle.numbers.proofs.Signed.{fits64}
use Rattle.aggregates.proofs.Remembers.{numerator-none, numerator-some}
use Rattle.aggregates.proofs.numerator.Goals as goal

pub returns-then-x-le0 : goal.returns-then-x-le0
returns-then-x-le0 c = numerator-none c.args.x c.requires c.if-x-le0.true

pub returns-else-x-le0 : goal.returns-else-x-le0
returns-else-x-le0 c = to_z-of_z (fits64 c.args.x.numerator (omega (arith, c.requires.numerator))) ∙ numerator-some c.args.x c.requires c.if-x-le0.false
