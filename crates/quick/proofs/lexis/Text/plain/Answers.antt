use native.Mathlib.Omega.{arith}
use mathlib.Core.Path.{sym, ◌∙◌, ap}
use Rattle.quel.specs.Tokens.{is_digit}
use Rattle.quick.proofs.lexis.Text.plain.Goals as goal

pub skip-requires : goal.skip-requires
skip-requires c = c.digits-s.ensures.at_le_end.1

pub returns : goal.returns
returns c = (omega (arith, c.skip.ensures.lower_bound.0, c.digits-s.ensures.at_le_end.0, c.if-end-at.false), c.skip.ensures.lower_bound.1, λ given k. record { stop = c.digits-s.result.end; some = omega (arith, c.digits-s.ensures.at_le_end.0, c.if-end-at.false); digits = c.digits-s.ensures.by_index given k (ap is_digit (sym c.from.ensures) ∙ sym c.is_digit.ensures ∙ c.if-is_digit.false); blanks = c.skip.ensures.by_index given k })
