use mir.Syntax.{w64}
use mir.Val.{of_z, to_z}
use lib.IntN.{ℤ, ◌*ℤ◌}
use mathlib.Core.Path.{ap, ◌∙◌}
use Rattle.numbers.proofs.Signed.{scaled-is}
use Rattle.decide.proofs.probes.scaled.Goals as goal

pub returns : goal.returns
returns c = ap (λ (x : ℤ). to_z w64 (of_z w64 (to_z w64 (of_z w64 x) *ℤ to_z w64 (of_z w64 c.args.d)))) c.from.ensures ∙ scaled-is c.args.a c.args.d c.ranges.a c.ranges.d c.requires
