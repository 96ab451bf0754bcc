use Rattle.std.proofs.Common.{◌≡◌, ◌+◌, ◌*◌, ◌≤◌, ◌&&◌, length}
use Rattle.model.specs.Lists.{all, total}
use Rattle.scans.specs.Flat.{flat_bindings, bindings_left}
use Rattle.rewriter.specs.Rewritten.{places_in, masks_in}
use Rattle.guards.specs.Filled.{masked}
use Rattle.guards.specs.Counted.{served_by, length_by, rewritten_length}
use Rattle.guards.proofs.enter_all.Given as goal

abbrev pub invariant-loop-b : goal.invariant-loop-b
invariant-loop-b l =
    record {
      served : (l.served && all (served_by l.query l.permits l.catalogue) (bindings_left l.b-iterator)) ≡ all (served_by l.query l.permits l.catalogue) (flat_bindings l.query);
      summed : l.length + total (length_by l.query l.permits l.catalogue (places_in l.initial.table)) (bindings_left l.b-iterator) ≡ rewritten_length l.query l.permits l.catalogue (places_in l.initial.table);
      small : l.length + 32776 * length (bindings_left l.b-iterator) ≤ 32777 * length l.query;
      masks : masked l.query l.permits l.catalogue (bindings_left l.b-iterator) (masks_in l.table) ≡ masked l.query l.permits l.catalogue (flat_bindings l.query) (masks_in l.initial.table);
      places : places_in l.table ≡ places_in l.initial.table;
    }
