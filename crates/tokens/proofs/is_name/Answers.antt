use Rattle.std.proofs.Common.{rules, ℕ, not, eqb, sym, ap, ◌∙◌}
use Rattle.model.proofs.Tests.{clash}
use Rattle.tokens.proofs.Filled.{no-letters, not-filled, filled}
use Rattle.tokens.proofs.is_name.Goals.{then-n-ne0, else-n-ne0}
use Rattle.tokens.proofs.is_name.Goals as goal

pub returns-then-are_spaces : goal.returns-then-are_spaces
returns-then-are_spaces c = elim c.if-n-ne0.branch [
  | then-n-ne0 w ↦ search (rules, filled c.args.word.now c.args.n c.requires.size w.if-n-ne0.true _ w.are_spaces.ensures (sym w.value-is ∙ c.if-are_spaces.true) c.args.code _ c.requires.code c.reserved_kind.ensures)
  | else-n-ne0 w ↦ clash (ap (λ (m : ℕ). not (eqb m 0)) (sym w.if-n-ne0.false) ∙ sym w.value-is ∙ c.if-are_spaces.true)
]

pub returns-else-are_spaces : goal.returns-else-are_spaces
returns-else-are_spaces c = elim c.if-n-ne0.branch [
  | then-n-ne0 w ↦ c.if-are_spaces.false ∙ not-filled c.args.word.now c.args.n c.requires.size w.if-n-ne0.true _ w.are_spaces.ensures (sym w.value-is ∙ c.if-are_spaces.false)
  | else-n-ne0 w ↦ c.if-are_spaces.false ∙ no-letters c.args.word.now c.args.n c.requires.size w.if-n-ne0.false
]
