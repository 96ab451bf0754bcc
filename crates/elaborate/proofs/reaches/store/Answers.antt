use mathlib.Core.Path.{sym}
use lib.Seq.{set_out}
use Rattle.elaborate.proofs.reaches.store.Goals as goal

pub returns-else-x-known : goal.returns-else-x-known
returns-else-x-known c = sym (set_out c.args.known.now c.args.x c.args.e c.if-x-known.false)
