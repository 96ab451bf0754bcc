use mathlib.Core.Path.{sym, ap, ◌∙◌}
use Rattle.names.specs.Entries.{entries}
use Rattle.elaborate.proofs.items.Tests.{found_none, found_some}
use Rattle.quel.specs.Names.{attribute_named}
use Rattle.quel.specs.Elaboration.{as_byte}
use Rattle.elaborate.specs.Actions.{head_by}
use Rattle.elaborate.proofs.items.head_item.Goals as goal

pub returns-in_err-r : goal.returns-in_err-r
returns-in_err-r c = λ z s. rw c.in_err-r.was c.from_residual.ensures

pub returns-in_err-a : goal.returns-in_err-a
returns-in_err-a c = let r = c.in_ok-r.field-0.relation in
    λ z s. rw c.in_ok-r.was (c.from_residual-in_err-a.ensures ∙ sym (ap (head_by c.args.f (as_byte c.args.n) r) (found_none (attribute_named (entries c.args.lookup.now.list.now) r z) _ (c.numbered.ensures z s) c.in_err-a.was)))

pub returns : goal.returns
returns c = let r = c.in_ok-r.field-0.relation in
    λ z s. rw c.in_ok-r.was (sym (ap (head_by c.args.f (as_byte c.args.n) r) (found_some (attribute_named (entries c.args.lookup.now.list.now) r z) _ _ (c.numbered.ensures z s) c.in_ok-a.was)))
