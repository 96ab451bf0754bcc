use mathlib.Core.Path.{sym, ◌∙◌}
use native.Mathlib.Omega.{arith}
use Rattle.guarded.proofs.Outcomes.{low-few, low-many}
use Rattle.guarded.proofs.answer_permitted.Goals as goal

pub answer_sized-requires : goal.answer_sized-requires
answer_sized-requires c = record { passed = (c.requires.0, c.requires.1, c.requires.2); room = (omega arith, omega arith, low-few c.args.catalogue.now c.args.query.now c.requires.1 (sym c.few.ensures ∙ c.if-few.true)) }

pub answer_sized-requires-2 : goal.answer_sized-requires-2
answer_sized-requires-2 c = record { passed = (c.requires.0, c.requires.1, c.requires.2); room = (omega arith, omega arith, low-many c.args.catalogue.now c.args.query.now c.requires.1) }
