use mathlib.Core.Path.{ap}
use native.Mathlib.Omega.{arith}
use Rattle.program.proofs.output.Parts.{refused-length}
use Rattle.program.proofs.output.refused.Goals as goal

pub labelled-requires : goal.labelled-requires
labelled-requires c = omega (arith, refused-length c.from-2.result)
