use native.Mathlib.Omega.{arith}
use mathlib.Core.Path.{sym, ◌∙◌, ap}
use Prim.Native.Nat.{◌+◌}
use Rattle.quel.specs.Tokens.{key, or, is_letter}
use Rattle.quick.proofs.lexis.Bytes.{byte-before}
use Rattle.quick.proofs.lexis.Standing.{token-then, or-here}
use Rattle.quick.proofs.lexis.Text.past_or.Goals as goal

pub skip-requires : goal.skip-requires
skip-requires c = omega (arith, byte-before c.args.self.now.bytes c.args.at 86 c.args.self.now.ended c.if-self-at-ne86.false (omega arith))

pub returns : goal.returns
returns c = (omega (arith, c.skip.ensures.lower_bound.0), c.skip.ensures.lower_bound.1, λ given k. token-then given c.args.at (c.args.at + 1) c.skip.result (key or) (or-here c.args.self.now.bytes given k c.args.at c.if-self-at-ne86.false (ap is_letter (sym c.from.ensures) ∙ sym c.is_letter.ensures ∙ c.if-is_letter.false)) (c.skip.ensures.by_index given k))
