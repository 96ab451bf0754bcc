use native.Mathlib.Omega.{arith}
use Prim.Native.Nat.{◌+◌}
use Rattle.quick.proofs.lexis.Bytes.{byte-before}
use Rattle.quick.proofs.lexis.Standing.{both-here, alone-here}
use Rattle.quick.proofs.lexis.Text.with_equal.Goals as goal

pub returns-then-self-at-eq61 : goal.returns-then-self-at-eq61
returns-then-self-at-eq61 c = record { at_lt_end = (omega arith, omega (arith, byte-before c.args.self.now.bytes (c.args.at + 1) 61 c.args.self.now.ended c.if-self-at-eq61.true (omega arith))); by_index = λ given s t k l e o p. both-here c.args.self.now.bytes given k c.args.at c.args.number l s t e p c.if-self-at-eq61.true }

pub returns : goal.returns
returns c = record { at_lt_end = (omega arith, omega (arith, c.requires.0)); by_index = λ given s t k l e o p. alone-here c.args.self.now.bytes given k c.args.at c.args.number l s t e o c.if-self-at-eq61.false }
