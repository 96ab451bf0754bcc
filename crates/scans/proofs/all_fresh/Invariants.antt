use Rattle.std.proofs.Common.{◌≡◌, length}
use Rattle.model.specs.Syntax.{variables}
use Rattle.scans.specs.Flat.{bindings_left, fresh}
use Rattle.scans.proofs.all_fresh.Given as goal

abbrev pub invariant-loop-b : goal.invariant-loop-b
invariant-loop-b l =
    (fresh l.seen (variables (bindings_left l.b-iterator)) ≡ fresh l.initial.seen (variables (bindings_left l.initial.b-iterator)))
    × (length l.seen ≡ 256)
