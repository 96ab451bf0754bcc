use native.Mathlib.Omega.{arith}
use mathlib.Core.Path.{sym, ◌∙◌}
use borrow.Author.Tests.{le-ltb}
use Rattle.kinds.specs.Tables.{record_length}
use Rattle.kinds.proofs.Entries.{length-small}
use Rattle.kinds.proofs.cut.Goals as goal

pub returns-else-length-lt5 : goal.returns-else-length-lt5
returns-else-length-lt5 c = le-ltb c.args.length 5 c.if-length-lt5.false ∙ sym (le-ltb c.args.length (record_length c.args.kind) (omega (arith, (length-small c.args.kind).1, c.if-length-lt5.false)))
