use mir.Val.{to_z, of_z}
use mir.Syntax.{w32, w64}
use mathlib.Core.Path.{ap₂, ◌∙◌}
use mir.Facts.{to_z-of_z}
use lib.IntN.{ℤ, pos, ◌*ℤ◌}
use lib.ListN.{get_or}
use Rattle.numbers.proofs.Signed.{fits64}
use Prim.Native.Nat.{◌+◌, ◌*◌}
use native.Mathlib.Omega.{arith}
use Rattle.permitted.specs.Marked.{between}
use Rattle.permitted.proofs.judges.Steps.{row-joined, step, bits-on, marked-none, marked_next, marked-same}
use Rattle.permitted.proofs.judges.mark_passing.Goals as goal

pub loop-i-init : goal.loop-i-init
loop-i-init c = (omega arith, marked-none _ c.args.marks.now)

pub offset_bounds-values-at : goal.offset_bounds-values-at
offset_bounds-values-at c = omega (arith, c.loop-i.invariant.0, c.requires.1 c.loop-i.i c.loop-i-test.true, c.requires.2, c.requires.3, c.requires.4)

pub bounds-values-at : goal.bounds-values-at
bounds-values-at c = omega (arith, c.loop-i.invariant.0, c.requires.1 c.loop-i.i c.loop-i-test.true)

pub joined-requires : goal.joined-requires
joined-requires c = bits-on c.requires.7 c.loop-i.invariant.1 c.loop-i.i

pub overflow_add-at : goal.overflow_add-at
overflow_add-at c = omega (arith, c.loop-i.invariant.0, c.requires.1 c.loop-i.i c.loop-i-test.true, c.requires.2, c.requires.3)

pub loop-i-preserved : goal.loop-i-preserved
loop-i-preserved c = let test = c.args.test in
    let scale = to_z w64 (of_z w64 test.scale) in
    (step c.args.from c.args.width c.loop-i.i c.loop-i.at c.loop-i.invariant.0, marked_next _ c.loop-i.i c.args.marks.now c.loop-i.marks _ (omega (arith, c.loop-i-test.true, c.requires.0)) c.loop-i.invariant.1 (row-joined c.args.values.now c.args.from c.args.width c.loop-i.i c.loop-i.at _ _ test.above test.below test.wanted c.between.result (to_z w64 (of_z w64 test.number)) scale _ _ c.joined.ensures c.between.ensures (to_z-of_z {w = w64} (record { sfits = c.scaled-v.type_inv }) ∙ c.scaled-v.ensures) (to_z-of_z {w = w32} (record { sfits = c.scaled-arg-1.given })) c.loop-i.invariant.0))

pub returns : goal.returns
returns c = let test = c.args.test in
    marked-same c.loop-i.invariant.1 (omega (arith, c.loop-i.auto.i-end, c.loop-i-test.false)) (λ i h. ap₂ (λ (n d : ℤ). between test.above test.below test.wanted n (get_or c.args.values.now (c.args.from + i * c.args.width) (pos 0) *ℤ d)) (to_z-of_z {w = w64} (fits64 test.number (omega (arith, c.requires.6)))) (to_z-of_z {w = w64} (fits64 test.scale (omega (arith, c.requires.5)))))
