use mathlib.Core.Path.{◌≡◌}
use lib.ListN.{length, set}
use Rattle.permitted.specs.Marked.{Marked, ran_on}
use Rattle.permitted.specs.Meets.{no_places}
use Rattle.permitted.proofs.judges.Judging.mark_rows.Given as goal

abbrev pub invariant-loop-i : goal.invariant-loop-i
invariant-loop-i l = (set l.env 0 (length l.values) ≡ no_places l.values) × (length l.env ≡ 256) × Marked (ran_on l.t l.start l.q l.z l.self.walks.now l.values l.self.memo.now l.walk) l.i l.initial.marks l.marks
