use native.Mathlib.Omega.{arith}
use mathlib.Core.Path.{sym, ap₂, ◌∙◌}
use lib.Dec.{eqb}
use lib.Pointwise.{pointwise}
use Rattle.elaborate.proofs.marks.Walks.{same-pointwise}
use Rattle.elaborate.proofs.marks.Numbers.{names-differ, names_same}
use Rattle.elaborate.proofs.marks.Tokens.same_names.Goals as goal

pub returns-then-self-j : goal.returns-then-self-j
returns-then-self-j c = names-differ _ _ _ _ c.requires.2 c.requires.3 (λ e. c.if-self-j.true (sym e))

pub returns-then-code-lt-LONG : goal.returns-then-code-lt-LONG
returns-then-code-lt-LONG c = names_same _ _ _ _ c.requires.2 c.requires.3 (omega (arith, c.if-self-j.false)) c.if-code-lt-LONG.true

pub returns : goal.returns
returns c = c.eq.ensures ∙ ap₂ (pointwise eqb) c.word.ensures c.word-2.ensures ∙ same-pointwise _ _
