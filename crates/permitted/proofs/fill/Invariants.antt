use Rattle.std.proofs.Common.{◌≡◌, length}
use Rattle.rewriter.specs.Rewritten.{masks_in, part_in}
use Rattle.scans.specs.Flat.{flat_bindings, bindings_left}
use Rattle.permitted.specs.Given.{most_in}
use Rattle.permitted.proofs.Table.{Filling}
use Rattle.permitted.proofs.fill.Given as goal

abbrev pub invariant-loop-b : goal.invariant-loop-b
invariant-loop-b l = (length l.walks ≡ length l.initial.walks) × Filling l.catalogue l.values (part_in l.permits l.table) (masks_in l.table) (most_in l.initial.walks) (flat_bindings l.query) (bindings_left l.b-iterator) l.next l.walks
