use mathlib.Core.Path.{◌≡◌}
use mathlib.Core.List.{◌++◌}
use Prim.Native.Nat.{◌-◌, ◌*◌, ◌≤◌}
use lib.ListN.{length, take, drop}
use Rattle.program.specs.Output as O
use Rattle.program.proofs.output.read_values.Given as goal

abbrev pub invariant-loop-at : goal.invariant-loop-at
invariant-loop-at l = (take l.i l.values ++ O.numbers (drop l.at l.file) ≡ O.numbers l.file) × (l.at ≡ 4 * l.i) × (l.at ≤ length l.file) × (length l.values ≡ length l.initial.values)

abbrev pub decreases-loop-at : goal.decreases-loop-at
decreases-loop-at l = length l.file - l.at
