use Rattle.rewriter.specs.Rewritten.{places_in}
use native.Mathlib.Omega.{arith}
use Prim.Native.Nat.{◌+◌, ◌*◌}
use Rattle.guards.proofs.Steps.{turn-not, turn_is}
use Rattle.guards.proofs.turn_length.Goals as goal

pub returns-then-mask-ne1 : goal.returns-then-mask-ne1
returns-then-mask-ne1 c = (turn-not (places_in c.args.table.now) c.args.mask c.args.k c.if-mask-ne1.true, omega arith)

pub overflow_add-result : goal.overflow_add-result
overflow_add-result c = record { fits = omega (arith, c.length_at.ensures, c.requires.1.short (2 * c.args.k + 1)) }

pub returns : goal.returns
returns c = let k = c.args.k in
    (turn_is (places_in c.args.table.now) c.args.mask k _ c.if-mask-ne1.false c.length_at.ensures, omega (arith, c.length_at.ensures, c.requires.1.short (2 * k + 1)))
