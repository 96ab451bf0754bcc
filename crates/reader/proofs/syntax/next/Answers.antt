use Rattle.reader.specs.Machine.{sort_number}
use Rattle.reader.proofs.syntax.Turns.{no_mode}
use Rattle.reader.proofs.syntax.next.Goals as goal

pub returns-in_default-30-clause-value : goal.returns-in_default-30-clause-value
returns-in_default-30-clause-value c = no_mode c.args.mode (sort_number c.args.sort) c.in_default.is-0
