use mathlib.Core.Path.{sym, ap, ◌∙◌}
use borrow.Author.Tests.{eqb-true}
use Rattle.model.specs.Syntax.{is_operator}
use Rattle.model.proofs.Tests.{not-no}
use Rattle.model.proofs.Tests.{clash}
use Rattle.permitted.proofs.judges.is_short.Goals as goal

pub returns-then-q-ne10 : goal.returns-then-q-ne10
returns-then-q-ne10 c = λ h. clash h

pub returns-then-byte-ne21 : goal.returns-then-byte-ne21
returns-then-byte-ne21 c = λ h. clash h

pub returns-then-not-is_code : goal.returns-then-not-is_code
returns-then-not-is_code c = λ h. clash h

pub returns-then-byte-ne33 : goal.returns-then-byte-ne33
returns-then-byte-ne33 c = λ h. clash h

pub returns-then-byte-ne0 : goal.returns-then-byte-ne0
returns-then-byte-ne0 c = λ h. clash h

pub returns : goal.returns
returns c = λ h. record { size = c.if-q-ne10.false; compare = sym c.byte.ensures ∙ c.if-byte-ne21.false; operator = ap is_operator (sym c.byte-2.ensures) ∙ sym c.is_code.ensures ∙ not-no _ c.if-not-is_code.false-raw; attribute = sym c.byte-3.ensures ∙ c.if-byte-ne33.false; variable = sym c.byte-4.ensures ∙ c.if-byte-ne0.false; constant = sym c.byte-5.ensures ∙ eqb-true _ 32 h }
