use native.Mathlib.Omega.{arith}
use Rattle.quick.proofs.lexis.Bytes.{byte-before}
use Rattle.quick.proofs.lexis.Standing.{minus-there, digits-here}
use Rattle.quick.proofs.lexis.Text.number.Goals as goal

pub plain-requires : goal.plain-requires
plain-requires c = omega (arith, byte-before c.args.self.now.bytes c.args.at 45 c.args.self.now.ended c.if-self-at-eq45.true (omega arith))

pub returns-then-self-at-eq45 : goal.returns-then-self-at-eq45
returns-then-self-at-eq45 c = (omega (arith, c.in_ok-s.ensures.0), c.in_ok-s.ensures.1, omega arith, λ given k. minus-there c.args.self.now.bytes given k c.args.at c.in_ok-s.s.end c.in_ok-s.s.value c.if-self-at-eq45.true (c.in_ok-s.ensures.2 given k) c.if-value-gt2147483648.false)

pub returns : goal.returns
returns c = (c.in_ok-s-2.ensures.0, c.in_ok-s-2.ensures.1, omega (arith, c.if-value-gt2147483647.false), λ given k. digits-here given c.args.at c.in_ok-s-2.s.end c.in_ok-s-2.s.value (c.in_ok-s-2.ensures.2 given k) c.if-value-gt2147483647.false)
