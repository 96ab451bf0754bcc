use mathlib.Core.Path.{◌≡◌}
use Prim.Native.Nat.{ℕ, ◌+◌, ◌*◌, ◌≤◌, ◌<◌}
use mathlib.Core.List.{List, [], ◌∷◌}
use lib.ListN.{length, get_or}
use Rattle.elaborate.specs.Places.{table, name_in, tokens_from}
use Rattle.names.specs.Entries.{entries}
use Rattle.quel.specs.Ahead.{at_rest}
use Rattle.quel.specs.Writing.{loop}
use Rattle.quel.specs.Elaboration.{Symbol}
use Rattle.elaborate.specs.Counts.{Counted}
use Rattle.elaborate.specs.Tables.{Named, Holds}
use Rattle.elaborate.specs.After.{ended, Going}
use Rattle.elaborate.specs.Lookup.{ids_in}
use Rattle.elaborate.proofs.loops.Laws.{Begun}
use Rattle.elaborate.proofs.loops.run.Given as goal

abbrev pub invariant-loop-i : goal.invariant-loop-i
invariant-loop-i l = ((text ks ss : List ℕ) (ρ : List Symbol) → Begun ks l.initial.counts l.initial.i l.i-end → Named (name_in text ks ss) (ids_in l.lookup.table.now) l.lookup.numbers.now → Holds (name_in text ks ss) (ids_in l.lookup.table.now) l.initial.known 0 0 ρ → Going text (table ks ss l.lookup.numbers.now) (entries l.lookup.list.now) (ids_in l.lookup.table.now) (λ z. ended l.initial.out l.initial.s.at (loop (entries l.lookup.list.now) z (tokens_from text (table ks ss l.lookup.numbers.now) l.initial.i) at_rest (ρ ∷ []) l.initial.s.n)) l.i l.s l.counts l.known l.out)
    × (length l.counts ≡ length l.initial.counts) × (length l.out ≡ length l.initial.out) × (length l.known ≡ length l.initial.known) × (l.i < l.i-end → l.s.reach.depth ≤ l.i) × (l.s.n ≤ l.initial.s.n + l.i) × (l.s.at ≤ l.initial.s.at + 8197 * l.i) × (l.i ≤ 4003) × (l.s.reach.crossing < 8192) × ((y : ℕ) → get_or l.known y 0 < 68719476736)
    × ((ks : List ℕ) → Begun ks l.initial.counts l.initial.i l.i-end → l.i < l.i-end → Counted ks l.counts l.i)
