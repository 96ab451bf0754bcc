use Rattle.rewriter.specs.Rewritten.{places_in}
use native.Mathlib.Omega.{arith}
use Rattle.guards.proofs.Steps.{turn_on, turn_end}
use Rattle.guards.proofs.guard_length.Goals as goal

pub loop-k-init : goal.loop-k-init
loop-k-init c = (omega arith, omega arith)

pub turn_length-n-requires : goal.turn_length-n-requires
turn_length-n-requires c = (c.loop-k-test.true, c.requires)

pub overflow_add-n : goal.overflow_add-n
overflow_add-n c = record { fits = omega (arith, c.loop-k-test.true, c.loop-k.invariant.1, c.turn_length-n.ensures.1) }

pub loop-k-preserved : goal.loop-k-preserved
loop-k-preserved c = (turn_on (places_in c.args.table.now) c.loop-k.m c.loop-k.k c.loop-k.n _ c.loop-k.invariant.0 _ c.loop-k-test.true c.turn_length-n.ensures.0, omega (arith, c.loop-k.invariant.1, c.turn_length-n.ensures.1))

pub returns : goal.returns
returns c = (turn_end (places_in c.args.table.now) c.loop-k.m c.loop-k.k c.loop-k.n _ c.loop-k.invariant.0 c.loop-k-test.false, omega (arith, c.loop-k.invariant.1, c.loop-k.auto.k-end))
