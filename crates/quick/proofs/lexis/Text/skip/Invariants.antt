use Prim.Native.Nat.{ℕ, ◌-◌, ◌≤◌}
use mathlib.Core.List.{List}
use Rattle.parts.specs.Parts.{Copied}
use Rattle.quick.specs.Lexis.{Blanks}
use Rattle.quick.proofs.lexis.Text.skip.Given as goal

abbrev pub invariant-loop-i : goal.invariant-loop-i
invariant-loop-i l = (l.at ≤ l.i) × (l.i ≤ 254) × ((given : List ℕ) → Copied l.self.bytes given → Blanks given l.at l.i)

abbrev pub decreases-loop-i : goal.decreases-loop-i
decreases-loop-i l = 254 - l.i
