use mathlib.Core.Path.{◌≡◌}
use Prim.Native.Nat.{◌≤◌}
use lib.ListN.{length}
use Rattle.walks.specs.Assigned.{assigned}
use Rattle.odometer.proofs.Listing.{Rest}
use Rattle.odometer.proofs.listed_cells.Given as goal

abbrev pub invariant-loop-i : goal.invariant-loop-i
invariant-loop-i l = Rest l.memo l.list l.n (assigned l.values l.env) l.initial.row l.row l.i × (l.i ≤ l.n) × (length l.row ≡ length l.initial.row)
