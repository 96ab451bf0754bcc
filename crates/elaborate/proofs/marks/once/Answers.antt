use native.Mathlib.Omega.{arith}
use mathlib.Core.Path.{sym, ◌∙◌}
use borrow.Author.Tests.{not-true, not-false}
use Rattle.elaborate.specs.Lookup.{ids_in}
use Rattle.elaborate.proofs.marks.Bound.{told-other, told-twice, told-new}
use Rattle.elaborate.proofs.marks.once.Goals as goal

pub returns-then-not-binds : goal.returns-then-not-binds
returns-then-not-binds c = told-other c.args.kinds.now (ids_in c.args.lookup.now.table.now) c.args.seen.now c.args.i _ (sym c.binds.ensures ∙ not-true c.binds.result c.if-not-binds.true-raw)

pub bounds-seen-x : goal.bounds-seen-x
bounds-seen-x c = omega (arith, c.id_at-x.ensures.value, c.requires.2 c.bound_place.result)

pub returns-then-seen-x-ne0 : goal.returns-then-seen-x-ne0
returns-then-seen-x-ne0 c = told-twice c.args.kinds.now (ids_in c.args.lookup.now.table.now) c.args.seen.now c.args.i _ (sym c.binds.ensures ∙ not-false c.binds.result c.if-not-binds.false-raw) c.bound_place.result c.id_at-x.result c.bound_place.ensures c.id_at-x.ensures.value c.if-seen-x-ne0.true

pub bounds-seen-x-2 : goal.bounds-seen-x-2
bounds-seen-x-2 c = omega (arith, c.id_at-x.ensures.value, c.requires.2 c.bound_place.result)

pub returns : goal.returns
returns c = told-new c.args.kinds.now (ids_in c.args.lookup.now.table.now) c.args.seen.now c.args.i _ (sym c.binds.ensures ∙ not-false c.binds.result c.if-not-binds.false-raw) c.bound_place.result c.id_at-x.result c.bound_place.ensures c.id_at-x.ensures.value (omega (arith, c.if-seen-x-ne0.false))
