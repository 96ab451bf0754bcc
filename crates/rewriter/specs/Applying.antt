-- What the permits' conditions and the table of those that apply stand for.
use Rattle.std.specs.Prelude.{ℕ, List}
use Rattle.rewriter.specs.Rewritten.{masks_in, part_in}
use Rattle.rewriter.specs.declared.Applying.{Applying}

-- by variable a mask of permits, 0 for none
abbrev pub masks_by : Applying → List ℕ
masks_by a = masks_in a.table.now

-- the bytes of each permit's condition
abbrev pub conditions_by : Applying → ℕ → List ℕ
conditions_by a = part_in a.permits.now a.table.now
