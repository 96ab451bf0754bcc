use Prim.Native.Nat.{◌≤◌}
use mathlib.Core.Path.{◌≡◌}
use lib.ListN.{length}
use Rattle.walks.specs.Assigned.{assigned}
use Rattle.decide.specs.Decider.{runs}
use Rattle.decide.proofs.Decider.run.Given as goal

abbrev pub invariant-loop-at : goal.invariant-loop-at
invariant-loop-at l = (runs l.self l.at (assigned l.self.values.now l.initial.env) ≡ runs l.self l.start (assigned l.self.values.now l.initial.env)) × (l.env ≡ l.initial.env) × (l.at ≤ l.start) × (length l.env ≡ length l.initial.env)

abbrev pub decreases-loop-at : goal.decreases-loop-at
decreases-loop-at l = l.at
