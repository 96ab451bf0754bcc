use borrow.Author.Rules.{rules}
use mathlib.Core.Bool.{◌||◌}
use mathlib.Core.Path.{refl, sym, ◌∙◌}
use Prim.Native.Nat.{ℕ, ◌/◌}
use lib.Dec.{eqb}
use borrow.Author.Tests.{ne_eqb}
use Rattle.kinds.specs.Tables.{terms_of, of_kind}
use Rattle.model.specs.Kinds.{kind_of, find, child_terms}
use Rattle.kinds.proofs.Entries.{upper, row-entry, outside}
use Rattle.kinds.proofs.child_terms.Goals as goal

pub returns-then-kind-ge8 : goal.returns-then-kind-ge8
unfolding terms_of of_kind kind_of find
returns-then-kind-ge8 c = sym (upper 0 child_terms c.args.kind c.if-kind-ge8.true)

pub returns-in-1 : goal.returns-in-1
unfolding terms_of of_kind kind_of find
returns-in-1 c = c.entry.ensures ∙ row-entry 0 child_terms 2199023255552 1 tt c.args.kind c.in-1.is c.if-kind-ge8.false

pub returns-in_default : goal.returns-in_default
unfolding terms_of of_kind kind_of find
returns-in_default c = let k = c.args.kind in
    sym (outside (λ k. eqb (k / 16) 1) 0 child_terms k (rw (ne_eqb (k / 16) 1 c.in_default.in_default-own.rest.1) refl) tt)
