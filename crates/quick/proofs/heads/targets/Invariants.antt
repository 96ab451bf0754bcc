use Prim.Native.Nat.{ℕ, ◌-◌, ◌≤◌}
use mathlib.Core.List.{List}
use Rattle.quel.specs.Results.{Word}
use Rattle.quel.specs.Elaboration.{Symbol}
use Rattle.names.specs.Entries.{entries}
use Rattle.parts.specs.Parts.{Copied}
use Rattle.parts.specs.Table.{Ready}
use Rattle.parts.proofs.Targets.{Targets}
use Rattle.quick.specs.Steps.{Lent}
use Rattle.quick.proofs.heads.targets.Given as goal

abbrev pub invariant-loop-start : goal.invariant-loop-start
invariant-loop-start l = (l.at ≤ 254) × (l.start ≤ l.at) × (l.to ≤ 980) × Lent l.source.list.now l.source.names.now l.symbols l.made × ((given : List ℕ) (ρ : List Symbol) (ws : List Word) → Copied l.source.text.bytes given → Ready l.initial.symbols ws ρ → Targets (entries l.source.list.now) ρ ws given l.start l.at l.initial.symbols l.symbols l.initial.made l.made 0 l.to)

abbrev pub decreases-loop-start : goal.decreases-loop-start
decreases-loop-start l = 254 - l.at
