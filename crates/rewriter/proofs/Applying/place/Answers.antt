use native.Mathlib.Omega.{arith}
use mathlib.Core.Path.{sym, ◌∙◌}
use lib.ListN.{take, length-take, get_or-eq_default}
use lib.Seq.{get_or-take}
use Rattle.rewriter.proofs.Applying.place.Goals as goal

pub returns-then-i-lt-PLACES : goal.returns-then-i-lt-PLACES
returns-then-i-lt-PLACES c = c.size_at.ensures.value ∙ sym (get_or-take 16 c.args.self.now.table.now c.args.i 0 c.if-i-lt-PLACES.true)

pub returns-else-i-lt-PLACES : goal.returns-else-i-lt-PLACES
returns-else-i-lt-PLACES c = sym (get_or-eq_default (take 16 c.args.self.now.table.now) 0 (omega (arith, length-take 16 c.args.self.now.table.now, c.if-i-lt-PLACES.false)))
