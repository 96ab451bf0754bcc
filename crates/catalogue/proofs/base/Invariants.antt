use Rattle.std.proofs.Common.{◌≡◌, ◌*◌, ◌≤◌}
use Rattle.catalogue.specs.Layout as L
use Rattle.catalogue.proofs.base.Given as goal

abbrev pub invariant-loop-i : goal.invariant-loop-i
invariant-loop-i l = record { passed : l.at ≡ L.base_of l.catalogue l.i; small : l.at ≤ 16711425 * l.i }
