use Rattle.std.proofs.Common.{◌≡◌, length}
use Rattle.scans.specs.Flat.{left_of, bindings_left}
use Rattle.scans.proofs.BoundVariablesIterator.next.Given as goal

abbrev pub invariant-loop-bytes : goal.invariant-loop-bytes
invariant-loop-bytes l = bindings_left l.self ≡ bindings_left l.initial.self

abbrev pub decreases-loop-bytes : goal.decreases-loop-bytes
decreases-loop-bytes l = length (left_of l.self.records)
