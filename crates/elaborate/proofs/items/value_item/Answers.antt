use Rattle.std.proofs.Common.{◌∙◌}
use Rattle.elaborate.proofs.items.Tests.{value_none, value-some}
use Rattle.names.specs.Entries.{entries}
use Rattle.quel.specs.Names.{value_named}
use Rattle.elaborate.proofs.items.value_item.Goals as goal

pub returns-in_err-a : goal.returns-in_err-a
returns-in_err-a c = λ z s. c.from_residual.ensures ∙ value_none (value_named (entries c.args.lookup.now.list.now) z) _ (c.meaning.ensures z s) c.in_err-a.was

pub returns : goal.returns
returns c = λ z s. value-some (value_named (entries c.args.lookup.now.list.now) z) _ _ _ _ _ (c.meaning.ensures z s) c.in_ok-a.was
