use native.Mathlib.Omega.{arith}
use Prim.Native.Nat.{◌+◌, ◌*◌}
use mathlib.Core.Path.{◌∙◌}
use lib.ListN.{length-set}
use Rattle.parts.proofs.Renumber.{used_low}
use Rattle.quick.proofs.mend.Laws.{renumbered-none, renumbered-step, renumbered-end, used_step, used-none}
use Rattle.quick.proofs.mend.renumber.Goals as goal

pub loop-i-init : goal.loop-i-init
loop-i-init c = (c.requires.0, used-none c.args.symbols.now, renumbered-none c.args.symbols.now)

pub overflow_add-count-in-loop-i : goal.overflow_add-count-in-loop-i
overflow_add-count-in-loop-i c = record { fits = omega (arith, c.loop-i.invariant.1, c.loop-i-test.true, c.requires.1, used_low c.args.symbols.now c.loop-i.i) }

pub loop-i-preserved : goal.loop-i-preserved
loop-i-preserved c = let symbols = c.args.symbols.now in
    (length-set c.loop-i.symbols (4 * c.loop-i.i + 2) c.loop-i.count ∙ c.loop-i.invariant.0, used_step symbols c.loop-i.symbols c.loop-i.i c.loop-i.count c.loop-i.invariant.1 c.loop-i.invariant.2 c.loop-i.invariant.0 (omega (arith, c.loop-i-test.true, c.requires.1)), renumbered-step symbols c.loop-i.symbols c.loop-i.i c.loop-i.count c.loop-i.invariant.1 c.loop-i.invariant.2 c.loop-i.invariant.0 (omega (arith, c.loop-i-test.true, c.requires.1)))

pub returns : goal.returns
returns c = let h = renumbered-end c.args.symbols.now c.loop-i.symbols c.args.n c.loop-i.i c.loop-i.count c.loop-i.auto.i-end c.loop-i-test.false c.loop-i.invariant.1 c.loop-i.invariant.2 in record { value = h.0; renumbered = h.1 }
