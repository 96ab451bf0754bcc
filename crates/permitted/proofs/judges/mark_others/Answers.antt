use mathlib.Core.Path.{refl}
use native.Mathlib.Omega.{arith}
use Rattle.permitted.proofs.judges.Steps.{bits-on, marked-none, marked_next, marked-same}
use Rattle.permitted.proofs.judges.mark_others.Goals as goal

pub loop-i-init : goal.loop-i-init
loop-i-init c = marked-none _ c.args.marks.now

pub joined-requires : goal.joined-requires
joined-requires c = bits-on c.requires.2 c.loop-i.invariant c.loop-i.i

pub loop-i-preserved : goal.loop-i-preserved
loop-i-preserved c = marked_next _ c.loop-i.i c.args.marks.now c.loop-i.marks _ (omega (arith, c.loop-i-test.true, c.requires.1)) c.loop-i.invariant c.joined.ensures

pub returns : goal.returns
returns c = marked-same c.loop-i.invariant (omega (arith, c.loop-i.auto.i-end, c.loop-i-test.false)) (λ i h. refl)
