use Rattle.flat.specs.Flat.{main_of}
use Rattle.elaborate.specs.Places.{table, tokens_from}
use mathlib.Core.List.{List}
use Prim.Native.Nat.{ℕ}
use mathlib.Core.Path.{◌≡◌}
use Rattle.elaborate.proofs.marks.main_place.Given as goal

abbrev pub invariant-loop-i : goal.invariant-loop-i
invariant-loop-i l = ((text ss ns : List ℕ) → main_of (tokens_from text (table l.kinds ss ns) 0) ≡ main_of (tokens_from text (table l.kinds ss ns) l.i))
