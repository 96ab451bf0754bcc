use Rattle.rewriter.specs.Rewritten.{places_in}
use mathlib.Core.Path.{◌≡◌}
use Prim.Native.Nat.{◌+◌, ◌*◌, ◌-◌, ◌≤◌}
use Rattle.guards.specs.Counted.{length_from}
use Rattle.guards.proofs.guard_length.Given as goal

abbrev pub invariant-loop-k : goal.invariant-loop-k
invariant-loop-k l = (l.n + length_from (places_in l.table) (8 - l.k) l.m l.k ≡ length_from (places_in l.table) 8 l.mask 0) × (l.n ≤ 4097 * l.k)
