use Prim.Native.Nat.{ℕ, ◌-◌}
use native.Mathlib.Omega.{arith}
use mathlib.Core.Path.{subst}
use lib.Seq.{lt-length-set}
use Rattle.elaborate.proofs.ahead.Laws.{back, From, from_end, from_next, next-most, after-most}
use Rattle.elaborate.proofs.ahead.count.Goals as goal

pub loop-i-init : goal.loop-i-init
loop-i-init c = (from_end c.args.kinds.now c.args.counts.now c.requires.0, lt-length-set c.args.counts.now _ _ c.requires.0)

pub bounds-counts-i-in-loop-i : goal.bounds-counts-i-in-loop-i
bounds-counts-i-in-loop-i c = let kinds = c.args.kinds.now in
    let f = subst (λ (n : ℕ). From kinds c.loop-i.counts n) (back (omega arith)) c.loop-i.invariant.0 in
    let m = next-most kinds c.loop-i.counts (c.loop-i.i - 1) (omega arith) (omega (arith, c.loop-i.invariant.1)) f in omega (arith, m.2, c.loop-i.invariant.1)

pub step-requires : goal.step-requires
step-requires c = let kinds = c.args.kinds.now in
    let f = subst (λ (n : ℕ). From kinds c.loop-i.counts n) (back (omega arith)) c.loop-i.invariant.0 in
    let m = next-most kinds c.loop-i.counts (c.loop-i.i - 1) (omega arith) (omega (arith, c.loop-i.invariant.1)) f in
    let a = after-most kinds c.loop-i.counts (c.loop-i.i - 1) (omega arith) (omega (arith, c.loop-i.invariant.1)) f in (omega (arith, m.0), omega (arith, m.1), omega (arith, m.2), omega (arith, a))

pub loop-i-preserved : goal.loop-i-preserved
loop-i-preserved c = let kinds = c.args.kinds.now in
    let f = subst (λ (n : ℕ). From kinds c.loop-i.counts n) (back (omega arith)) c.loop-i.invariant.0 in
    (from_next kinds c.loop-i.counts (c.loop-i.i - 1) (omega arith) (omega (arith, c.loop-i.invariant.1)) f _ c.step.ensures, lt-length-set c.loop-i.counts _ _ c.loop-i.invariant.1)

pub returns : goal.returns
returns c = record { at = λ i l h. (c.loop-i.invariant.0 i (omega arith) h).0; kind = λ i l h. (c.loop-i.invariant.0 i (omega arith) h).1 }
