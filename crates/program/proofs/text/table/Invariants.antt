use mathlib.Core.Path.{◌≡◌}
use Prim.Native.Nat.{◌+◌, ◌*◌, ◌-◌, ◌≤◌}
use lib.ListN.{length, drop}
use Rattle.copier.proofs.Sets.{Left}
use Rattle.program.specs.Text as T
use Rattle.program.proofs.text.table.Given as goal

abbrev pub invariant-loop : goal.invariant-loop
invariant-loop l = Left l.initial.out l.at (T.table l.rows l.columns l.answer) l.out l.to (T.table (l.rows - l.counter) l.columns (drop l.from l.answer)) × (l.from + (l.rows - l.counter) * l.columns ≤ length l.answer) × (length l.out ≡ length l.initial.out)
