use Rattle.std.proofs.Common.{◌≡◌, ℕ, ◌<◌, true}
use Rattle.catalogue.specs.Layout as L
use Rattle.catalogue.proofs.fails_10.Given as goal

abbrev pub invariant-loop-i : goal.invariant-loop-i
invariant-loop-i l = (r : ℕ) → r < l.i → L.known_of l.catalogue r ≡ true
