use mathlib.Core.Path.{◌≡◌}
use Prim.Native.Nat.{◌*◌}
use lib.ListN.{length}
use Rattle.waldumre_book.proofs.book.Walk.{From}
use Rattle.waldumre_book.proofs.book.enter.Given as goal

abbrev pub invariant-loop-i : goal.invariant-loop-i
invariant-loop-i l = From l.cells (3 * l.i) l.offers l.display × (length l.offers ≡ length l.initial.offers) × (length l.display ≡ length l.initial.display)
