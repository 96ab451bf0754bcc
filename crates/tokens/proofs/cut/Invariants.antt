use Rattle.tokens.proofs.Cutting.{Held}
use lib.ListN.{length}
use Prim.Native.Nat.{◌-◌, ◌≤◌}
use mathlib.Core.Path.{◌≡◌}
use Rattle.tokens.proofs.cut.Given as goal

abbrev pub invariant-loop-at : goal.invariant-loop-at
invariant-loop-at l = Held l.text l.kinds l.starts l.numbers l.at l.n × (length l.text ≤ 2000) × (length l.kinds ≡ length l.initial.kinds) × (length l.starts ≡ length l.initial.starts) × (length l.numbers ≡ length l.initial.numbers)

abbrev pub decreases-loop-at : goal.decreases-loop-at
decreases-loop-at l = length l.text - l.at
