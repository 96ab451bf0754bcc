use Rattle.std.proofs.Common.{ℕ, ◌≤◌, ◌<◌}
use Rattle.decide.specs.Linked as L
use Rattle.decide.proofs.chains.Chain.look.Given as goal

abbrev pub invariant-loop-j : goal.invariant-loop-j
invariant-loop-j l = (k : ℕ) → l.from ≤ k → k < l.j → L.Has l.self k → ⊥
