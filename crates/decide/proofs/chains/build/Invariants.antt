use mathlib.Core.Path.{◌≡◌}
use Prim.Native.Nat.{◌+◌, ◌≤◌}
use lib.ListN.{length}
use Rattle.decide.specs.Chains as C
use Rattle.decide.proofs.chains.Steps.{Linked}
use Rattle.decide.proofs.chains.build.Given as goal

abbrev pub invariant-loop-i : goal.invariant-loop-i
invariant-loop-i l = (l.i ≤ l.walk.count) × (length l.chains ≡ length l.initial.chains) × Linked (C.bucket_at l.values l.walks l.walk l.attribute) l.i l.walk.count l.at l.chains × C.Outside l.at (l.at + 1024 + l.walk.count) l.initial.chains l.chains
