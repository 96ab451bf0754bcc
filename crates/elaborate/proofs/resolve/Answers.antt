use mathlib.Core.Path.{sym, ◌∙◌}
use Rattle.names.specs.Entries.{entries}
use Rattle.elaborate.specs.Places.{table}
use Rattle.elaborate.specs.Answers.{records_of}
use Rattle.elaborate.proofs.Answers.{twice-refused}
use Rattle.elaborate.proofs.Laws.{twice}
use borrow.Author.Tests.{not-false}
use Rattle.elaborate.proofs.resolve.Goals as goal

pub returns-then-not-unique : goal.returns-then-not-unique
returns-then-not-unique c = let kinds = c.args.kinds.now in let list = c.args.lookup.now.list.now in let numbers = c.args.lookup.now.numbers.now in let out = c.args.out.now in λ text ss f g. twice-refused (records_of text (table kinds ss numbers) list) out out (twice text (table kinds ss numbers) (entries list) out c.unique.result (c.unique.ensures text ss numbers f) c.if-not-unique.true-raw)

pub write-requires : goal.write-requires
write-requires c = (c.requires.0, c.requires.1, c.requires.2, c.requires.3)

pub returns : goal.returns
returns c = let numbers = c.args.lookup.now.numbers.now in let e = not-false c.unique.result c.if-not-unique.false-raw in λ text ss f g. c.write.ensures text ss (record { named = g; once = sym (c.unique.ensures text ss numbers f) ∙ e })
