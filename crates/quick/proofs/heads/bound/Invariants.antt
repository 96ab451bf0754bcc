use mathlib.Core.Path.{◌≡◌}
use Prim.Native.Nat.{ℕ, ◌≤◌}
use mathlib.Core.List.{List}
use lib.ListN.{length}
use Rattle.quel.specs.Names.{Entry}
use Rattle.quel.specs.Elaboration.{Symbol}
use Rattle.parts.specs.Parts.{Copied}
use Rattle.parts.specs.Reads.{Heads}
use Rattle.parts.proofs.Heads.{Bound}
use Rattle.quick.proofs.heads.bound.Given as goal

abbrev pub invariant-loop-n : goal.invariant-loop-n
invariant-loop-n l = (l.at ≤ 254) × (l.initial.at ≤ l.at) × (length l.symbols ≡ 160) × ((given : List ℕ) (es : List Entry) (ss : List Symbol) → Copied l.source.text.bytes given → Heads l.initial.symbols ss → l.initial.n ≡ length ss → Bound es given l.relation ss l.initial.at l.at l.symbols l.n)
