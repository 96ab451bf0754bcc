use mathlib.Core.Path.{refl, subst}
use native.Mathlib.Omega.{arith}
use Prim.Native.Nat.{◌+◌, ◌-◌}
use Rattle.std.proofs.Common.{◌≡◌}
use Rattle.decide.specs.Chains as C
use Rattle.decide.specs.Linked as L
use Rattle.decide.proofs.chains.Steps.{passed_here, passed_none, passed-step, left_less}
use Rattle.decide.proofs.chains.Chain.next_equal.Goals as goal

pub returns-then-has : goal.returns-then-has
returns-then-has c = let s = c.args.self.now in let at = c.loop-at.at in
    let e : at ≡ at - 1 + 1 = omega (arith, c.loop-at-test.true) in
    λ from f. subst (C.First (L.Has s) from s.rows.walk.count) e (passed_here (L.value_in s) s.entry.value from _ at _ _ (c.loop-at.invariant.1 from f) c.loop-at-test.true c.loop-at.invariant.0 refl c.has.ensures c.if-has.true)

pub loop-at-smaller : goal.loop-at-smaller
loop-at-smaller c =
    let f = c.args.self.now.entered.built.next (c.loop-at.at - 1) (omega (arith, c.loop-at-test.true, c.loop-at.invariant.0)) in
    let e = c.behind-at.ensures in
    left_less _ c.loop-at.at _ c.loop-at-test.true c.loop-at.invariant.0 (omega (arith, e, f.high)) (λ h. omega (arith, e, f.low (omega (arith, e))))

pub loop-at-preserved : goal.loop-at-preserved
loop-at-preserved c =
    let s = c.args.self.now in
    let f = s.entered.built.next (c.loop-at.at - 1) (omega (arith, c.loop-at-test.true, c.loop-at.invariant.0)) in
    let e = c.behind-at.ensures in
    (omega (arith, e, f.high), λ from g. passed-step (L.value_in s) s.entry.value from _ (c.loop-at.at - 1) c.loop-at.at _ _ _ (omega (arith, c.loop-at-test.true)) (c.loop-at.invariant.1 from g) refl c.has.ensures c.if-has.false (rw e f))

pub returns : goal.returns
returns c = λ from f. passed_none (L.value_in c.args.self.now) c.args.self.now.entry.value from _ c.loop-at.at (c.loop-at.invariant.1 from f) (omega (arith, c.loop-at-test.false))
