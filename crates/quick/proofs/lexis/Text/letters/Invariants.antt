use Prim.Native.Nat.{ℕ, ◌+◌, ◌≤◌}
use mathlib.Core.List.{List}
use Rattle.parts.specs.Parts.{Copied}
use Rattle.quick.proofs.lexis.Stretches.{Sofar, most}
use Rattle.quick.proofs.lexis.Text.letters.Given as goal

abbrev pub invariant-loop-n : goal.invariant-loop-n
invariant-loop-n l = (l.at + l.n ≤ 254) × (l.value ≤ most 26 1 l.n) × ((given : List ℕ) → Copied l.self.bytes given → Sofar given 65 90 26 1 l.at (l.at + l.n) l.value)
