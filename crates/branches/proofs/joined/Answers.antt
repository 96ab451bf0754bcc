use Rattle.std.proofs.Common.{arith, ◌∙◌, ◌+◌, ◌*◌, w32}
use mir.Facts.{to_z-of_z}
use Rattle.kinds.proofs.Signed.{read-as}
use Rattle.branches.proofs.joined.Goals as goal

pub returns : goal.returns
returns c = to_z-of_z {w = w32} (record { sfits = c.cast_signed.type_inv }) ∙ c.cast_signed.ensures ∙ read-as c.args.low 0 c.args.high 0 (c.args.low + 65536 * c.args.high) (omega arith) (omega arith)
