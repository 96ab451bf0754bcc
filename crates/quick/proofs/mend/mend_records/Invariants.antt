use Prim.Native.Nat.{◌-◌}
use mathlib.Core.List.{[]}
use mathlib.Core.Path.{◌≡◌}
use lib.ListN.{length, take}
use Rattle.parts.specs.Renumber.{mended}
use Rattle.quick.specs.Mend.{new_number}
use Rattle.quick.proofs.mend.Laws.{halfway}
use Rattle.quick.proofs.mend.mend_records.Given as goal

abbrev pub invariant-loop-at : goal.invariant-loop-at
invariant-loop-at l = (length l.made ≡ 1024) × (halfway (new_number l.symbols l.n l.unused) [] l.at (take l.to l.made) ≡ mended (new_number l.symbols l.n l.unused) [] (take l.to l.initial.made))

abbrev pub decreases-loop-at : goal.decreases-loop-at
decreases-loop-at l = l.to - l.at
