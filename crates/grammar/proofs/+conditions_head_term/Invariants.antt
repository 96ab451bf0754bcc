use Prim.Native.Nat.{suc, ◌≤◌, ◌+◌, ◌-◌, ◌*◌}
use mathlib.Core.Path.{◌≡◌}
use lib.ListN.{length, drop}
use Rattle.grammar.specs.Sizes.{condition_size, term_size, after, many, head_size}
use Rattle.grammar.proofs.+conditions_head_term.Given as goal

abbrev pub decreases-conditions : goal.decreases-conditions
decreases-conditions l = suc (2 * length l.q.now)

abbrev pub decreases-head : goal.decreases-head
decreases-head l = 2 * length l.q.now

abbrev pub decreases-term : goal.decreases-term
decreases-term l = 2 * length l.q.now

abbrev pub invariant-conditions-loop-pending : goal.invariant-conditions-loop-pending
invariant-conditions-loop-pending l = (after l.at (many condition_size l.pending (drop l.at l.q)) ≡ many condition_size l.n l.q) × (l.at ≤ length l.q) × (l.pending ≤ 255 + l.at)

abbrev pub decreases-conditions-loop-pending : goal.decreases-conditions-loop-pending
decreases-conditions-loop-pending l = length l.q - l.at

abbrev pub invariant-head-loop : goal.invariant-head-loop
invariant-head-loop l = (after l.at (many term_size (l.end - l.counter) (drop l.at l.q)) ≡ head_size l.q) × (l.at ≤ length l.q) × (1 ≤ l.at)
