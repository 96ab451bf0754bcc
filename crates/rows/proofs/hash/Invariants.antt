use Rattle.std.proofs.Common.{◌≡◌, ◌<◌, drop}
use Rattle.rows.specs.Chains.{hashed}
use Rattle.rows.proofs.hash.Given as goal

abbrev pub invariant-loop-x : goal.invariant-loop-x
invariant-loop-x l = record { so_far : hashed 0 l.row ≡ hashed l.h (drop l.x-index l.row); low : l.h < 4294967296 }
