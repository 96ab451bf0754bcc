use mathlib.Core.Path.{sym, ap, ◌∙◌}
use Rattle.names.specs.Entries.{entries}
use Rattle.elaborate.proofs.items.Tests.{found_none, found_some}
use Rattle.quel.specs.Names.{relation_named}
use Rattle.quel.specs.Elaboration.{as_byte}
use Rattle.elaborate.specs.Actions.{some_by}
use Rattle.elaborate.proofs.items.some_item.Goals as goal

pub returns-in_err-r : goal.returns-in_err-r
returns-in_err-r c = λ z s. c.from_residual.ensures ∙ sym (ap (some_by (as_byte c.args.n)) (found_none (relation_named (entries c.args.lookup.now.list.now) z) _ (c.numbered.ensures z s) c.in_err-r.was))

pub returns : goal.returns
returns c = λ z s. sym (ap (some_by (as_byte c.args.n)) (found_some (relation_named (entries c.args.lookup.now.list.now) z) _ _ (c.numbered.ensures z s) c.in_ok-r.was))
