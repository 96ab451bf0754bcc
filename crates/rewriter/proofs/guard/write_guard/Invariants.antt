use mathlib.Core.Path.{◌≡◌}
use lib.ListN.{length}
use Rattle.rewriter.specs.Applying.{conditions_by}
use Rattle.copier.proofs.Turns.{State}
use Rattle.rewriter.proofs.guard.write_guard.Given as goal

abbrev pub invariant-loop-m : goal.invariant-loop-m
invariant-loop-m l = State l.initial.out l.fn.to.at l.mask (conditions_by l.applying) l.variable l.fn.to.next l.out l.w.at l.m l.k l.w.next × (length l.out ≡ length l.initial.out)

abbrev pub decreases-loop-m : goal.decreases-loop-m
decreases-loop-m l = l.m
