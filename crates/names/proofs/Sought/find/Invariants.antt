use mathlib.Core.Path.{◌≡◌}
use Prim.Native.Nat.{◌-◌}
use lib.ListN.{length}
use Rattle.quel.specs.Results.{Word}
use Rattle.tokens.specs.Codes.{Spelt}
use Rattle.names.specs.Search.{is_named, seek}
use lib.ListN.{drop}
use Rattle.names.proofs.Sought.find.Given as goal

abbrev pub invariant-loop-at : goal.invariant-loop-at
invariant-loop-at l = (w : Word) → Spelt w l.self.code → seek (is_named l.self.kind l.self.relation w) (drop l.at l.list) ≡ seek (is_named l.self.kind l.self.relation w) (drop l.from l.list)

abbrev pub decreases-loop-at : goal.decreases-loop-at
decreases-loop-at l = length l.list - l.at
