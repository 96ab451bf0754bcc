use Rattle.std.proofs.Common.{ℕ, ◌≡◌, ◌<◌, get_or, pos}
use Rattle.rows.proofs.same.Given as goal

abbrev pub invariant-loop-i : goal.invariant-loop-i
invariant-loop-i l = (j : ℕ) → j < l.i → get_or l.x j (pos 0) ≡ get_or l.y j (pos 0)
