use native.Mathlib.Omega.{arith}
use mathlib.Core.Path.{sym, subst}
use Prim.Native.Nat.{ℕ}
use Rattle.elaborate.specs.Places.{table, name_in}
use Rattle.names.specs.Entries.{entries}
use Rattle.quel.specs.Names.{relation_named}
use Rattle.tokens.specs.Codes.{Spelt}
use Rattle.elaborate.proofs.items.Tests.{found_none, found_some}
use Rattle.elaborate.proofs.binds.Laws.{known, unknown}
use Rattle.elaborate.proofs.binds.name.Goals as goal

pub returns-in-Some : goal.returns-in-Some
returns-in-Some c = record { by_index = λ marks cs. c.symbol.ensures.by_index marks c.args.lookup.now.numbers.now (entries c.args.lookup.now.list.now) cs; counts = c.symbol.ensures.counts }

pub returns-in_err-relation : goal.returns-in_err-relation
returns-in_err-relation c = let list = c.args.lookup.now.list.now in let i = c.args.i in record { by_index = λ marks cs. record { symbols = cs; binds = λ text ks ss ns main h e nm u tl. rw c.from_residual.ensures (unknown text (table ks ss ns) (entries list) main i h c.args.s cs c.args.out.now e c.in_default.is (found_none (relation_named (entries list) (name_in text ks ss i)) _ (c.numbered.ensures (name_in text ks ss i) (subst (λ (v : ℕ). Spelt (name_in text ks ss i) v) (sym c.code-code.ensures) (nm.spelt i))) c.in_err-relation.was)); stands = λ w f g. rw c.from_residual.ensures tt; tells = λ t. t }; counts = rw c.from_residual.ensures tt }

pub returns : goal.returns
returns c = let list = c.args.lookup.now.list.now in let i = c.args.i in record { by_index = λ marks cs. record { symbols = cs; binds = λ text ks ss ns main h e nm u tl. known text (table ks ss ns) (entries list) main i h c.args.s cs c.args.out.now e c.in_default.is _ (found_some (relation_named (entries list) (name_in text ks ss i)) _ _ (c.numbered.ensures (name_in text ks ss i) (subst (λ (v : ℕ). Spelt (name_in text ks ss i) v) (sym c.code-code.ensures) (nm.spelt i))) c.in_ok-relation.was); stands = λ w f g. g; tells = λ t. t }; counts = (omega arith, omega arith) }
