use mathlib.Core.Path.{◌≡◌}
use Prim.Native.Nat.{◌≤◌, ◌-◌}
use lib.ListN.{length, drop}
use Rattle.grammar.specs.Shapes.{ranges_part}
use Rattle.grammar.proofs.Parts.{beyond}
use Rattle.grammar.proofs.ranges.Given as goal

abbrev pub invariant-loop-at : goal.invariant-loop-at
invariant-loop-at l = (beyond l.n l.at (ranges_part (drop l.at l.q)) ≡ ranges_part l.q) × (l.at ≤ length l.q) × (l.n ≤ l.at)

abbrev pub decreases-loop-at : goal.decreases-loop-at
decreases-loop-at l = length l.q - l.at
