use mathlib.Core.Path.{◌≡◌}
use Prim.Native.Nat.{◌*◌, ◌≤◌}
use lib.ListN.{length}
use Rattle.names.specs.Entries.{entries}
use Rattle.elaborate.specs.Lookup.{ids_in}
use Rattle.elaborate.proofs.binds.Laws.{Filling}
use Rattle.elaborate.proofs.binds.bind.Given as goal

abbrev pub invariant-loop-i : goal.invariant-loop-i
invariant-loop-i l = Filling l.kinds (ids_in l.lookup.table.now) l.initial.known l.lookup.numbers.now (entries l.lookup.list.now) l.initial.out l.known l.out l.s l.i × (length l.known ≡ length l.initial.known) × (length l.out ≡ length l.initial.out) × (l.s.n ≤ l.i) × (l.s.at ≤ 3 * l.i)
