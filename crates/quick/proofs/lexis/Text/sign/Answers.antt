use native.Mathlib.Omega.{arith}
use Rattle.quick.proofs.lexis.Standing.{sign-then}
use Rattle.quick.proofs.lexis.Text.sign.Goals as goal

pub returns : goal.returns
returns c = (omega (arith, c.skip.ensures.lower_bound.0, c.in_ok-o.ensures.0), c.skip.ensures.lower_bound.1, λ given k. sign-then given c.args.at c.in_ok-o.o.end c.skip.result c.in_ok-o.o.number (c.in_ok-o.ensures.2 given k) (c.skip.ensures.by_index given k))
