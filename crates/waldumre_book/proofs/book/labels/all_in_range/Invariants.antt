use mathlib.Core.Path.{◌≡◌}
use Prim.Native.Nat.{◌*◌}
use lib.ListN.{drop}
use Rattle.model.specs.Lists.{all}
use Rattle.model.specs.Book.{rows_in, in_range}
use Rattle.waldumre_book.proofs.book.labels.all_in_range.Given as goal

abbrev pub invariant-loop-i : goal.invariant-loop-i
invariant-loop-i l = all in_range (rows_in l.cells) ≡ all in_range (rows_in (drop (3 * l.i) l.cells))
