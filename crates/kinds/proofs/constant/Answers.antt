use Rattle.std.proofs.Common.{arith, ◌∙◌, w32}
use mir.Facts.{to_z-of_z}
use Rattle.kinds.proofs.Signed.{read-as}
use Rattle.kinds.proofs.constant.Goals as goal

pub returns-clause-value : goal.returns-clause-value
returns-clause-value c = to_z-of_z {w = w32} (record { sfits = c.from_le_bytes.type_inv }) ∙ c.from_le_bytes.ensures ∙ read-as c.args.a c.args.b c.args.c c.args.d _ (omega arith) (omega arith)
