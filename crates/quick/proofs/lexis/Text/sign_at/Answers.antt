use native.Mathlib.Omega.{arith}
use Rattle.quick.proofs.lexis.Bytes.{byte-before}
use Rattle.quick.proofs.lexis.Standing.{equal-here, unequal-here, less-here, more-here}
use Rattle.quick.proofs.lexis.Text.sign_at.Goals as goal

pub with_equal-requires : goal.with_equal-requires
with_equal-requires c = (byte-before c.args.self.now.bytes c.args.at 60 c.args.self.now.ended c.in-60.is (omega arith), omega arith)

pub with_equal-requires-in-62 : goal.with_equal-requires-in-62
with_equal-requires-in-62 c = (byte-before c.args.self.now.bytes c.args.at 62 c.args.self.now.ended c.in-62.is (omega arith), omega arith)

pub returns-in-61 : goal.returns-in-61
returns-in-61 c = (omega arith, omega (arith, byte-before c.args.self.now.bytes c.args.at 61 c.args.self.now.ended c.in-61.is (omega arith)), λ given k. equal-here c.args.self.now.bytes given k c.args.at c.in-61.is)

pub returns-in-35 : goal.returns-in-35
returns-in-35 c = (omega arith, omega (arith, byte-before c.args.self.now.bytes c.args.at 35 c.args.self.now.ended c.in-35.is (omega arith)), λ given k. unequal-here c.args.self.now.bytes given k c.args.at c.in-35.is)

pub returns-in-60 : goal.returns-in-60
returns-in-60 c = (c.with_equal.ensures.at_lt_end.0, c.with_equal.ensures.at_lt_end.1, λ given k. less-here c.args.self.now.bytes given k c.args.at _ _ c.in-60.is (λ s t. c.with_equal.ensures.by_index given s t k))

pub returns-in-62 : goal.returns-in-62
returns-in-62 c = (c.with_equal-in-62.ensures.at_lt_end.0, c.with_equal-in-62.ensures.at_lt_end.1, λ given k. more-here c.args.self.now.bytes given k c.args.at _ _ c.in-62.is (λ s t. c.with_equal-in-62.ensures.by_index given s t k))
