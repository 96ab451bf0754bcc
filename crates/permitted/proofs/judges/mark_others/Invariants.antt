use lib.ListN.{get_or}
use lib.Dec.{eqb}
use Rattle.permitted.specs.Marked.{Marked}
use Rattle.permitted.proofs.judges.mark_others.Given as goal

abbrev pub invariant-loop-i : goal.invariant-loop-i
invariant-loop-i l = Marked (λ i. eqb (get_or l.others i 0) 0) l.i l.initial.marks l.marks
