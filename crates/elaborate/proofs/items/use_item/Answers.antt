use mathlib.Core.Path.{sym, ap, ◌∙◌}
use Rattle.names.specs.Entries.{entries}
use Rattle.elaborate.proofs.items.Tests.{found_none, found_some}
use Rattle.quel.specs.Names.{attribute_named}
use Rattle.elaborate.specs.Actions.{use_by}
use Rattle.elaborate.proofs.items.use_item.Goals as goal

pub returns-in_err-known : goal.returns-in_err-known
returns-in_err-known c = λ z s. rw c.in_err-known.was c.from_residual.ensures

pub returns-in_err-variable : goal.returns-in_err-variable
returns-in_err-variable c = λ z s. rw (c.in_ok-known.was, c.in_err-variable.was) c.from_residual-in_err-variable.ensures

pub returns-in_err-a : goal.returns-in_err-a
returns-in_err-a c = λ z s. rw (c.in_ok-known.was, c.in_ok-variable.was) (c.from_residual-in_err-a.ensures ∙ sym (ap (use_by c.in_ok-variable.variable) (found_none (attribute_named (entries c.args.lookup.now.list.now) c.in_ok-known.known.relation z) _ (c.numbered.ensures z s) c.in_err-a.was)))

pub returns : goal.returns
returns c = λ z s. rw (c.in_ok-known.was, c.in_ok-variable.was) (sym (ap (use_by c.in_ok-variable.variable) (found_some (attribute_named (entries c.args.lookup.now.list.now) c.in_ok-known.known.relation z) _ _ (c.numbered.ensures z s) c.in_ok-a.was)))
