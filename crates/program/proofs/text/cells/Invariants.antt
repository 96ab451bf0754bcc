use mathlib.Core.Path.{◌≡◌}
use lib.ListN.{length, drop}
use Rattle.copier.proofs.Sets.{Left}
use Rattle.program.specs.Text as T
use Rattle.program.proofs.text.cells.Given as goal

abbrev pub invariant-loop-i : goal.invariant-loop-i
invariant-loop-i l = Left l.initial.out l.at (T.line T.signed l.items) l.out l.to (T.line T.signed (drop l.i l.items)) × (length l.out ≡ length l.initial.out)
