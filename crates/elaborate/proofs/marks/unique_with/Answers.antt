use native.Mathlib.Omega.{arith}
use mathlib.Core.Path.{refl, ◌∙◌}
use borrow.Author.Tests.{not-true, not-false}
use Rattle.elaborate.specs.Places.{bound_place}
use Rattle.elaborate.specs.Lookup.{ids_in}
use Rattle.elaborate.proofs.marks.Bound.{left-start, left-next, left-twice, left_end}
use Rattle.elaborate.proofs.marks.unique_with.Goals as goal

pub loop-i-init : goal.loop-i-init
loop-i-init c = (λ text ss ns g. left-start text c.args.kinds.now ss ns (ids_in c.args.lookup.now.table.now) c.args.seen.now c.requires.3, omega arith, refl)

pub once-requires : goal.once-requires
once-requires c = (c.loop-i-test.true, omega (arith, c.loop-i-test.true, c.requires.0), λ x. omega (arith, c.requires.2 x, c.requires.1, c.loop-i.invariant.2))

pub returns-then-not-once : goal.returns-then-not-once
returns-then-not-once c = let kinds = c.args.kinds.now in
    λ text ss ns g. left-twice text kinds ss ns (ids_in c.args.lookup.now.table.now) c.loop-i.p c.loop-i.i _ _ c.once.result c.loop-i-test.true (c.loop-i.invariant.0 text ss ns g) g (omega (arith, c.requires.2 (bound_place kinds c.loop-i.i), c.requires.1, c.loop-i.invariant.2)) c.once.ensures (not-true c.once.result c.if-not-once.true-raw)

pub loop-i-preserved : goal.loop-i-preserved
loop-i-preserved c = let kinds = c.args.kinds.now in
    (λ text ss ns g. left-next text kinds ss ns (ids_in c.args.lookup.now.table.now) c.loop-i.p c.loop-i.i _ _ c.once.result c.loop-i-test.true (c.loop-i.invariant.0 text ss ns g) g (omega (arith, c.requires.2 (bound_place kinds c.loop-i.i), c.requires.1, c.loop-i.invariant.2)) c.once.ensures (not-false c.once.result c.if-not-once.false-raw) _ c.part-p.ensures.value, c.part-p.ensures.upper_bound, c.once.auto.seen ∙ c.loop-i.invariant.2)

pub returns : goal.returns
returns c = λ text ss ns g. left_end text c.args.kinds.now ss ns (ids_in c.args.lookup.now.table.now) c.loop-i.p c.loop-i.i _ c.loop-i-test.false (c.loop-i.invariant.0 text ss ns g)
