use Rattle.reader.proofs.syntax.Turns.{Ran}
use Rattle.std.proofs.Common.{◌≡◌, length}
use Rattle.reader.proofs.syntax.run.Given as goal

abbrev pub invariant-loop-kind : goal.invariant-loop-kind
invariant-loop-kind l = record { ran : Ran l.kinds l.stack l.mode l.depth l.kind-index; kept : length l.stack ≡ length l.initial.stack }
