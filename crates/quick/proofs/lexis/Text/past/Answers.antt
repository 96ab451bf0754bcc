use native.Mathlib.Omega.{arith}
use Prim.Native.Nat.{◌+◌}
use Rattle.quick.proofs.lexis.Bytes.{byte-before}
use Rattle.quick.proofs.lexis.Standing.{token-then, byte-here}
use Rattle.quick.proofs.lexis.Text.past.Goals as goal

pub skip-requires : goal.skip-requires
skip-requires c = omega (arith, byte-before c.args.self.now.bytes c.args.at c.args.b c.args.self.now.ended c.if-self-at.false c.requires.1)

pub returns : goal.returns
returns c = (omega (arith, c.skip.ensures.lower_bound.0), c.skip.ensures.lower_bound.1, λ given t k e. token-then given c.args.at (c.args.at + 1) c.skip.result t (byte-here c.args.self.now.bytes given k c.args.at c.args.b t c.if-self-at.false c.requires.1 e) (c.skip.ensures.by_index given k))
