use native.Mathlib.Omega.{arith}
use mathlib.Core.Path.{refl, sym}
use mathlib.Core.Bool.{true}
use Rattle.elaborate.specs.Lookup.{ids_in}
use Rattle.elaborate.proofs.Laws.{no-relation, no_name, with-condition, with-true, most, place-most, stand-after, named, some-names, small}
use Rattle.names.specs.Entries.{entries}
use Rattle.elaborate.specs.Places.{table, name_in}
use Rattle.elaborate.proofs.records_with.Goals as goal

pub bind-requires : goal.bind-requires
bind-requires c = (c.requires.0, omega (arith, c.requires.2, c.uses.auto.used), c.requires.3, c.uses.ensures.clear, c.requires.5)

pub returns-in_err-s : goal.returns-in_err-s
returns-in_err-s c = let kinds = c.args.kinds.now in let numbers = c.args.lookup.now.numbers.now in let ids = ids_in c.args.lookup.now.table.now in λ text ss rd. rw c.from_residual.ensures (no-relation text (table kinds ss numbers) (entries c.args.lookup.now.list.now) c.args.out.now true (sym rd.once) refl c.main_place-first.result (c.main_place-first.ensures.by_index text ss numbers) _ _ _ (c.bind.ensures.fills.whole text ss numbers c.main_place-first.result rd.named (c.uses.ensures.by_index text ss numbers (record { same = rd.named.same; most = c.requires.3 }))) c.in_err-s.was)

pub run-requires : goal.run-requires
run-requires c = let kinds = c.args.kinds.now in let numbers = c.args.lookup.now.numbers.now in let ids = ids_in c.args.lookup.now.table.now in let m = most _ _ _ c.bind.ensures.most c.in_ok-s.was in record { end_bound = (c.requires.0, omega (arith, c.requires.1, c.count.auto.counts), c.main_place-first.ensures.upper_bound.1, c.main_place-first.ensures.upper_bound.0, omega (arith, m.0, c.requires.0), omega (arith, m.1, c.requires.0)); by_index = (λ x. omega (arith, c.requires.3 x, c.requires.0), λ x. omega (arith, c.requires.3 x, c.requires.2, c.bind.auto.known, c.uses.auto.used), small (named ids) ids c.bind.new.known _ (stand-after (named ids) ids c.bind.ensures.fills.symbols c.bind.new.known _ _ (c.bind.ensures.fills.stands (named ids) (some-names ids)) c.in_ok-s.was), c.requires.5) }

pub returns-in_err-at : goal.returns-in_err-at
returns-in_err-at c = let kinds = c.args.kinds.now in let numbers = c.args.lookup.now.numbers.now in let ids = ids_in c.args.lookup.now.table.now in λ text ss rd. rw c.from_residual-in_err-at.ensures (no_name text (table kinds ss numbers) (entries c.args.lookup.now.list.now) c.args.out.now true (sym rd.once) refl c.main_place-first.result (c.main_place-first.ensures.by_index text ss numbers) _ _ _ (c.bind.ensures.fills.whole text ss numbers c.main_place-first.result rd.named (c.uses.ensures.by_index text ss numbers (record { same = rd.named.same; most = c.requires.3 }))) _ c.in_ok-s.was _ _ (c.run.ensures.by_index_2 text kinds ss _ refl c.count.ensures rd.named (stand-after (name_in text kinds ss) ids c.bind.ensures.fills.symbols c.bind.new.known _ _ (c.bind.ensures.fills.stands (name_in text kinds ss) rd.named.same) c.in_ok-s.was)) c.in_err-at.was)

pub returns-then-qualified : goal.returns-then-qualified
returns-then-qualified c = let kinds = c.args.kinds.now in let numbers = c.args.lookup.now.numbers.now in let ids = ids_in c.args.lookup.now.table.now in λ text ss rd. with-condition text (table kinds ss numbers) (entries c.args.lookup.now.list.now) c.args.out.now true (sym rd.once) refl c.main_place-first.result (c.main_place-first.ensures.by_index text ss numbers) _ _ _ (c.bind.ensures.fills.whole text ss numbers c.main_place-first.result rd.named (c.uses.ensures.by_index text ss numbers (record { same = rd.named.same; most = c.requires.3 }))) _ c.in_ok-s.was _ _ (c.run.ensures.by_index_2 text kinds ss _ refl c.count.ensures rd.named (stand-after (name_in text kinds ss) ids c.bind.ensures.fills.symbols c.bind.new.known _ _ (c.bind.ensures.fills.stands (name_in text kinds ss) rd.named.same) c.in_ok-s.was)) _ c.in_ok-at.was c.qualified.result (c.qualified.ensures text ss numbers) c.if-qualified.true

pub put-requires : goal.put-requires
put-requires c = let kinds = c.args.kinds.now in let numbers = c.args.lookup.now.numbers.now in let ids = ids_in c.args.lookup.now.table.now in omega (arith, place-most _ _ _ c.run.ensures.last c.in_ok-at.was, (most _ _ _ c.bind.ensures.most c.in_ok-s.was).1, c.requires.0)

pub returns : goal.returns
returns c = let kinds = c.args.kinds.now in let numbers = c.args.lookup.now.numbers.now in let ids = ids_in c.args.lookup.now.table.now in λ text ss rd. with-true text (table kinds ss numbers) (entries c.args.lookup.now.list.now) c.args.out.now true (sym rd.once) refl c.main_place-first.result (c.main_place-first.ensures.by_index text ss numbers) _ _ _ (c.bind.ensures.fills.whole text ss numbers c.main_place-first.result rd.named (c.uses.ensures.by_index text ss numbers (record { same = rd.named.same; most = c.requires.3 }))) _ c.in_ok-s.was _ _ (c.run.ensures.by_index_2 text kinds ss _ refl c.count.ensures rd.named (stand-after (name_in text kinds ss) ids c.bind.ensures.fills.symbols c.bind.new.known _ _ (c.bind.ensures.fills.stands (name_in text kinds ss) rd.named.same) c.in_ok-s.was)) _ c.in_ok-at.was c.qualified.result (c.qualified.ensures text ss numbers) c.if-qualified.false _ _ c.put.ensures.value c.put.ensures.out_after
