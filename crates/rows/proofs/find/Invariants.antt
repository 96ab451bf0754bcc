use Rattle.std.proofs.Common.{◌≡◌, ◌*◌, ◌≤◌, length}
use Rattle.model.proofs.Search.{NoneBelow}
use Rattle.rows.proofs.Compared.{same_at}
use Rattle.rows.proofs.find.Given as goal

abbrev pub invariant-loop-i : goal.invariant-loop-i
invariant-loop-i l = record { none : NoneBelow (same_at l.row l.answer) l.i; place : l.at ≡ l.i * length l.row; within : l.at ≤ length l.answer }
