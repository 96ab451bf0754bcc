use mathlib.Core.Path.{◌≡◌}
use Prim.Native.Nat.{◌+◌, ◌*◌}
use Rattle.permitted.specs.Marked.{Marked}
use Rattle.permitted.proofs.judges.Steps.{tested}
use Rattle.permitted.proofs.judges.mark_passing.Given as goal

abbrev pub invariant-loop-i : goal.invariant-loop-i
invariant-loop-i l = (l.at ≡ l.from + l.i * l.width) × Marked (tested l.values l.from l.width l.above l.below l.wanted l.number l.scale) l.i l.initial.marks l.marks
