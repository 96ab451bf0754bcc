use mathlib.Core.Path.{◌≡◌}
use Prim.Native.Nat.{ℕ, ◌<◌}
use Rattle.parts.specs.Table.{code_at}
use Rattle.quick.proofs.symbols.find.Given as goal

abbrev pub invariant-loop-i : goal.invariant-loop-i
invariant-loop-i l = (j : ℕ) → j < l.i → code_at l.symbols j ≡ l.code → ⊥
