use native.Mathlib.Omega.{arith}
use mathlib.Core.Path.{refl, sym, ◌∙◌, ap}
use Rattle.quel.specs.Tokens.{is_letter}
use Rattle.quick.proofs.lexis.Standing.{word-here}
use Rattle.quick.proofs.lexis.Text.word.Goals as goal

pub returns-then-end-at : goal.returns-then-end-at
returns-then-end-at c = record { end_bound = (omega arith, λ h. absurd (omega (arith, h)), λ h. refl); by_index = λ given k h. absurd (omega (arith, h)) }

pub returns-then-is_letter : goal.returns-then-is_letter
returns-then-is_letter c = record { end_bound = (omega arith, λ h. absurd (omega (arith, h)), λ h. refl); by_index = λ given k h. absurd (omega (arith, h)) }

pub skip-requires : goal.skip-requires
skip-requires c = c.letters-s.ensures.at_le_end.1

pub returns : goal.returns
returns c = record { end_bound = (c.skip.ensures.lower_bound.1, (λ h. omega (arith, c.skip.ensures.lower_bound.0, c.letters-s.ensures.at_le_end.0, c.if-end-at.false)), (λ h. absurd (omega (arith, h, c.skip.ensures.lower_bound.0, c.letters-s.ensures.at_le_end.0, c.if-end-at.false)))); by_index = λ given k h. word-here given c.args.at c.letters-s.result.end c.skip.result c.letters-s.result.value (c.letters-s.ensures.by_index given k (ap is_letter (sym c.from.ensures) ∙ sym c.is_letter.ensures ∙ c.if-is_letter.false)) (omega (arith, c.letters-s.ensures.at_le_end.0, c.if-end-at.false)) c.letters-s.ensures.at_le_end.2 (c.skip.ensures.by_index given k) }
