use mathlib.Core.Path.{◌≡◌}
use lib.ListN.{length}
use Rattle.parts.specs.Renumber.{used_before}
use Rattle.quick.specs.Mend.{Renumbered}
use Rattle.quick.proofs.mend.renumber.Given as goal

abbrev pub invariant-loop-i : goal.invariant-loop-i
invariant-loop-i l = (length l.symbols ≡ 160) × (l.count ≡ used_before l.initial.symbols l.i) × Renumbered l.initial.symbols l.symbols l.i
