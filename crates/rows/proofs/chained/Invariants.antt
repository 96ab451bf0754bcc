use Prim.Native.Nat.{min}
use lib.ListN.{length}
use Rattle.rows.specs.Chains.{nexts_of}
use Rattle.rows.proofs.Links.{Passed}
use Rattle.rows.proofs.chained.Given as goal

abbrev pub invariant-loop-link : goal.invariant-loop-link
invariant-loop-link l = Passed l.row l.answer (length l.table) (min l.rows (nexts_of (length l.table))) l.link

abbrev pub decreases-loop-link : goal.decreases-loop-link
decreases-loop-link l = l.link
