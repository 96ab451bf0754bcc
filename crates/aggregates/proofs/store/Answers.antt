use mathlib.Core.Path.{sym}
use lib.Seq.{set_out}
use Rattle.aggregates.proofs.store.Goals as goal

pub returns-else-i-memo : goal.returns-else-i-memo
returns-else-i-memo c = sym (set_out c.args.memo.now c.args.i c.args.x c.if-i-memo.false)
