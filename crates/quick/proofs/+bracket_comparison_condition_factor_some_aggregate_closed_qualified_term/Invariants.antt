use Prim.Native.Nat.{◌+◌, ◌*◌, ◌-◌, ◌≤◌}
use mathlib.Core.Path.{◌≡◌}
use lib.ListN.{length}
use Rattle.quick.proofs.conditions.Joining.{Negs, Pended}
use Rattle.quick.proofs.+bracket_comparison_condition_factor_some_aggregate_closed_qualified_term.Given as goal

abbrev pub decreases-conditions::bracket : goal.decreases-conditions::bracket
decreases-conditions::bracket l = 16 * (255 - l.s.at) + 8

abbrev pub decreases-conditions::comparison : goal.decreases-conditions::comparison
decreases-conditions::comparison l = 16 * (255 - l.s.at) + 5

abbrev pub decreases-conditions::condition : goal.decreases-conditions::condition
decreases-conditions::condition l = 16 * (255 - l.s.at) + 7

abbrev pub decreases-conditions::factor : goal.decreases-conditions::factor
decreases-conditions::factor l = 16 * (255 - l.s.at) + 6

abbrev pub decreases-conditions::some : goal.decreases-conditions::some
decreases-conditions::some l = 16 * (255 - l.s.at)

abbrev pub decreases-terms::aggregate : goal.decreases-terms::aggregate
decreases-terms::aggregate l = 16 * (255 - l.s.at)

abbrev pub decreases-terms::closed : goal.decreases-terms::closed
decreases-terms::closed l = 16 * (255 - l.s.at)

abbrev pub decreases-terms::qualified : goal.decreases-terms::qualified
decreases-terms::qualified l = 16 * (255 - l.s.at) + 9

abbrev pub decreases-terms::term : goal.decreases-terms::term
decreases-terms::term l = 16 * (255 - l.s.at) + 4

abbrev pub invariant-conditions::condition-loop-c : goal.invariant-conditions::condition-loop-c
invariant-conditions::condition-loop-c l = (l.c.at ≤ 254) × (l.initial.c.at ≤ l.c.at) × (length l.symbols ≡ 160) × (length l.made ≡ 1024) × (l.start ≤ l.from) × (l.from ≤ l.c.to) × Pended l.source.text.bytes l.source.list.now l.initial.symbols l.symbols l.initial.made l.made l.initial.c.at l.c.at l.start l.from l.c.to

abbrev pub decreases-conditions::condition-loop-c : goal.decreases-conditions::condition-loop-c
decreases-conditions::condition-loop-c l = 255 - l.c.at

abbrev pub invariant-conditions::factor-loop-to : goal.invariant-conditions::factor-loop-to
invariant-conditions::factor-loop-to l = (l.at ≤ 254) × (l.initial.at ≤ l.at) × (l.initial.to ≤ l.to) × (l.symbols ≡ l.initial.symbols) × (length l.made ≡ 1024) × Negs l.source.text.bytes l.source.list.now l.initial.symbols l.initial.made l.made l.initial.at l.at l.initial.to l.to

abbrev pub decreases-conditions::factor-loop-to : goal.decreases-conditions::factor-loop-to
decreases-conditions::factor-loop-to l = 255 - l.at
