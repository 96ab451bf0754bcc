use mathlib.Core.Path.{◌≡◌}
use Prim.Native.Nat.{◌+◌}
use lib.ListN.{length, drop}
use Rattle.quel.specs.Tokens.{is_letter, run}
use Rattle.elaborate.proofs.marks.letters.Given as goal

abbrev pub invariant-loop-i : goal.invariant-loop-i
invariant-loop-i l = l.i + length (run is_letter (drop l.i l.q)) ≡ length (run is_letter l.q)
