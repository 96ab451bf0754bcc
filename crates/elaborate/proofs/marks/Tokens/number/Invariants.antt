use lib.ListN.{take, drop}
use mathlib.Core.Path.{◌≡◌}
use Prim.Native.Nat.{◌≤◌}
use lib.ListN.{length}
use Rattle.elaborate.specs.Places.{name_in}
use Rattle.elaborate.specs.Numbers.{Numbering}
use Rattle.elaborate.proofs.marks.Tokens.number.Given as goal

abbrev pub invariant-loop-i : goal.invariant-loop-i
invariant-loop-i l = Numbering (name_in l.self.text.now l.self.kinds.now l.self.starts.now) l.i (take 512 l.index) (drop 512 l.index) l.ids × (l.i ≤ length l.self.kinds.now) × (length l.index ≡ length l.initial.index) × (length l.ids ≡ length l.initial.ids)
