use Rattle.std.proofs.Common.{◌≡◌}
use Rattle.scans.specs.Flat.{bindings_left}
use Rattle.allrows.specs.Filled.{filled_by}
use Rattle.allrows.proofs.fill.Given as goal

abbrev pub invariant-loop-b : goal.invariant-loop-b
invariant-loop-b l = filled_by l.catalogue (bindings_left l.b-iterator) l.walks ≡ filled_by l.catalogue (bindings_left l.initial.b-iterator) l.initial.walks
