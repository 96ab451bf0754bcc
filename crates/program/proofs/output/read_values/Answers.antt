use native.Mathlib.Omega.{arith}
use mathlib.Core.Path.{◌∙◌}
use lib.ListN.{length-set}
use mir.Syntax.{w32}
use mir.Facts.{to_z-of_z}
use Rattle.program.proofs.output.Reading.{values-turn, values-end}
use Rattle.program.proofs.output.read_values.Goals as goal

pub loop-at-preserved : goal.loop-at-preserved
loop-at-preserved c = (values-turn c.args.file.now c.loop-at.values c.loop-at.i c.loop-at.at c.loop-at.invariant.0 c.loop-at-test.true (omega arith) _ (to_z-of_z {w = w32} (record { sfits = c.constant-value.type_inv }) ∙ c.constant-value.ensures.value), omega arith, omega arith, simp length-set c.loop-at.invariant.3)

pub returns : goal.returns
returns c = values-end c.args.file.now c.loop-at.values c.loop-at.i c.loop-at.at c.loop-at.invariant.0 c.loop-at.invariant.1 c.loop-at.invariant.2 (omega arith)
