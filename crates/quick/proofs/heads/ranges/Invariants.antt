use mathlib.Core.Path.{◌≡◌}
use Prim.Native.Nat.{ℕ, ◌-◌, ◌≤◌}
use mathlib.Core.List.{List}
use lib.ListN.{length}
use Rattle.names.specs.Entries.{entries}
use Rattle.parts.specs.Parts.{Copied}
use Rattle.parts.proofs.Heads.{Ranges}
use Rattle.quick.proofs.heads.ranges.Given as goal

abbrev pub invariant-loop-start : goal.invariant-loop-start
invariant-loop-start l = (l.at ≤ 254) × (length l.symbols ≡ 160) × ((given : List ℕ) → Copied l.source.text.bytes given → Ranges (entries l.source.list.now) given l.start l.at l.symbols l.to)

abbrev pub decreases-loop-start : goal.decreases-loop-start
decreases-loop-start l = 254 - l.at
