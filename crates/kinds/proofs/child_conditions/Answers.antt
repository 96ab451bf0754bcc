use borrow.Author.Rules.{rules}
use mathlib.Core.Bool.{◌||◌}
use mathlib.Core.Path.{refl, sym, ◌∙◌}
use Prim.Native.Nat.{ℕ, ◌/◌}
use lib.Dec.{eqb}
use borrow.Author.Tests.{ne_eqb}
use Rattle.kinds.specs.Tables.{conditions_of, of_kind}
use Rattle.model.specs.Kinds.{kind_of, find, child_conditions}
use Rattle.kinds.proofs.Entries.{upper, row-entry, outside}
use Rattle.kinds.proofs.child_conditions.Goals as goal

pub returns-then-kind-ge8 : goal.returns-then-kind-ge8
unfolding conditions_of of_kind kind_of find
returns-then-kind-ge8 c = sym (upper 0 child_conditions c.args.kind c.if-kind-ge8.true)

pub returns-in-1 : goal.returns-in-1
unfolding conditions_of of_kind kind_of find
returns-in-1 c = c.entry.ensures ∙ row-entry 0 child_conditions 281483600265216 1 tt c.args.kind c.in-1.is c.if-kind-ge8.false

pub returns-in-2 : goal.returns-in-2
unfolding conditions_of of_kind kind_of find
returns-in-2 c = c.entry-in-2.ensures ∙ row-entry 0 child_conditions 65536 2 tt c.args.kind c.in-2.is c.if-kind-ge8.false

pub returns-in-4 : goal.returns-in-4
unfolding conditions_of of_kind kind_of find
returns-in-4 c = c.entry-in-4.ensures ∙ row-entry 0 child_conditions 1 4 tt c.args.kind c.in-4.is c.if-kind-ge8.false

pub returns-in_default : goal.returns-in_default
unfolding conditions_of of_kind kind_of find
returns-in_default c = let k = c.args.kind in
    sym (outside (λ k. eqb (k / 16) 1 || eqb (k / 16) 2 || eqb (k / 16) 4) 0 child_conditions k (rw (ne_eqb (k / 16) 1 c.in_default.in_default-own.rest.0.0.1, ne_eqb (k / 16) 2 c.in_default.in_default-own.rest.0.1, ne_eqb (k / 16) 4 c.in_default.in_default-own.rest.1) refl) tt)
