use native.Mathlib.Omega.{arith}
use Prim.Native.Nat.{◌+◌}
use lib.Dec.{eqb}
use borrow.Author.Tests.{eq-eqb, ne_eqb}
use Rattle.tokens.proofs.Filled.{spaces-first, spaces-stop, spaces-on, spaces-end}
use Rattle.quick.proofs.index.spaces.Goals as goal

pub loop-i-init : goal.loop-i-init
loop-i-init c = λ l. spaces-first c.args.name.now (λ b. eqb b 32) c.args.n 0 (omega arith)

pub loop-i-preserved-then-i-n : goal.loop-i-preserved-then-i-n
loop-i-preserved-then-i-n c = λ l. spaces-first c.args.name.now (λ b. eqb b 32) c.args.n (c.loop-i.i + 1) (omega (arith, l, c.if-i-n.true))

pub bounds-name-i : goal.bounds-name-i
bounds-name-i c = omega (arith, c.loop-i-test.true, c.requires)

pub returns-then-name-i-ne32 : goal.returns-then-name-i-ne32
returns-then-name-i-ne32 c = let pre = c.requires in spaces-stop c.args.name.now (λ b. eqb b 32) c.loop-i.i _ (omega (arith, c.loop-i-test.true, (pre))) (c.loop-i.invariant c.if-i-n.false) (ne_eqb _ 32 c.if-name-i-ne32.true)

pub loop-i-preserved : goal.loop-i-preserved
loop-i-preserved c = let pre = c.requires in λ l. spaces-on c.args.name.now (λ b. eqb b 32) c.loop-i.i _ (omega (arith, c.loop-i-test.true, (pre))) (c.loop-i.invariant c.if-i-n.false) (eq-eqb _ 32 c.if-name-i-ne32.false)

pub returns : goal.returns
returns c = spaces-end c.args.name.now (λ b. eqb b 32) c.args.n c.loop-i.i (omega (arith, c.loop-i-test.false, c.requires)) c.loop-i.invariant
