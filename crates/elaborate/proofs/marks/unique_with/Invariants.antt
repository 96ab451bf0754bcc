use mathlib.Core.Path.{◌≡◌}
use Prim.Native.Nat.{ℕ, ◌≤◌}
use mathlib.Core.List.{List}
use lib.ListN.{length}
use Rattle.elaborate.specs.Places.{name_in}
use Rattle.elaborate.specs.Numbers.{Numbered}
use Rattle.elaborate.specs.Lookup.{ids_in}
use Rattle.elaborate.proofs.marks.Bound.{Left}
use Rattle.elaborate.proofs.marks.unique_with.Given as goal

abbrev pub invariant-loop-i : goal.invariant-loop-i
invariant-loop-i l = ((text ss ns : List ℕ) → Numbered (name_in text l.kinds ss) (length l.kinds) (ids_in l.lookup.table.now) → Left text l.kinds ss ns (ids_in l.lookup.table.now) l.p l.i l.seen) × (l.p ≤ 2) × (length l.seen ≡ length l.initial.seen)
