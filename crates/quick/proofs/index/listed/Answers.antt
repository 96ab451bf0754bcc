use native.Mathlib.Omega.{arith}
use mathlib.Core.Path.{refl}
use Rattle.names.specs.Search.{name_of}
use Rattle.names.proofs.Once.{here-room, here-spelt}
use Rattle.quick.proofs.index.Whole.{left-start, left-next, left_end, code_at, sought-nothing}
use Rattle.quick.proofs.index.listed.Goals as goal

pub loop-at-init : goal.loop-at-init
loop-at-init c = left-start c.args.list.now c.args.names.now c.requires.0 c.requires.1

pub bounds-list-at-in-loop-at : goal.bounds-list-at-in-loop-at
bounds-list-at-in-loop-at c =
    let list = c.args.list.now in
    let size = c.in-Some.ensures in
    let found = c.in-Some-code_before.ensures in
    omega (arith, here-room list c.loop-at.at c.in-Some-code_before.code (code_at list c.loop-at.at _ c.in-Some.k c.in-Some-code_before.code refl size.0 size.1 size.2 found.1) found.0)

pub look-requires : goal.look-requires
look-requires c = record { at = c.loop-at.at; count = c.loop-at.n; filled = c.loop-at.invariant.filled }

pub put-requires : goal.put-requires
put-requires c = (c.loop-at.invariant.filled.size, omega (arith, c.if-n-gt62.false))

pub loop-at-smaller : goal.loop-at-smaller
loop-at-smaller c = omega (arith, c.in-Some.ensures.3, c.loop-at-test.true)

pub loop-at-preserved : goal.loop-at-preserved
loop-at-preserved c =
    let list = c.args.list.now in
    let size = c.in-Some.ensures in
    let found = c.in-Some-code_before.ensures in
    let e = code_at list c.loop-at.at _ c.in-Some.k c.in-Some-code_before.code refl size.0 size.1 size.2 found.1 in
    let new = sought-nothing list c.loop-at.names c.loop-at.n _ _ (name_of list c.loop-at.at) c.look.result c.is_some.result c.is_some.ensures c.if-is_some.false (c.look.ensures.by_index c.loop-at.at c.loop-at.n c.loop-at.invariant.filled (name_of list c.loop-at.at) (here-spelt list c.loop-at.at c.in-Some-code_before.code e found.0)) in
    left-next list c.loop-at.names c.loop-at.at c.loop-at.n c.loop-at.invariant (omega (arith, c.if-n-gt62.false)) c.in-Some-code_before.code e found.0 (new.miss (omega arith)) _ c.in-Some.k _ refl size.2 refl (omega arith) _ c.put.ensures

pub returns : goal.returns
returns c = λ _. left_end c.args.list.now c.loop-at.names c.loop-at.at c.loop-at.n c.loop-at-test.false c.loop-at.invariant
