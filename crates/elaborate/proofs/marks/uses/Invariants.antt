use mathlib.Core.Path.{◌≡◌}
use Prim.Native.Nat.{ℕ, ◌≤◌}
use mathlib.Core.List.{List}
use lib.ListN.{length}
use Rattle.elaborate.specs.Places.{table, name_in}
use Rattle.elaborate.specs.Numbers.{Numbered}
use Rattle.elaborate.specs.Lookup.{ids_in}
use Rattle.elaborate.proofs.marks.Marking.{Left}
use Rattle.elaborate.specs.Tables.{Clear}
use Rattle.elaborate.proofs.marks.uses.Given as goal

abbrev pub invariant-loop-i : goal.invariant-loop-i
invariant-loop-i l = ((text ss ns : List ℕ) → Numbered (name_in text l.kinds ss) (length l.kinds) (ids_in l.lookup.table.now) → Left text (table l.kinds ss ns) (ids_in l.lookup.table.now) l.from l.d l.i l.used) × (l.d ≤ l.i) × (length l.used ≡ length l.initial.used) × Clear l.used
