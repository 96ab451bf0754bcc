use mathlib.Core.Path.{ap, ◌∙◌}
use lib.IntN.{ℤ}
use mir.Syntax.{w64}
use mir.Val.{to_z, of_z}
use mir.Facts.{to_z-of_z}
use Rattle.numbers.proofs.Memo.{recall-fits, recall-is}
use Rattle.numbers.proofs.recall.Goals as goal

pub overflow_sub-mark : goal.overflow_sub-mark
overflow_sub-mark c = recall-fits c.args.memo.now c.args.variable _ _ c.requires c.place-i.ensures.value (to_z-of_z {w = w64} (record { sfits = c.at-mark.type_inv }) ∙ c.at-mark.ensures)

pub returns : goal.returns
returns c = let memo = c.args.memo.now in let variable = c.args.variable in record { result_value = (recall-is memo variable _ _ (c.requires) c.place-i.ensures.value (to_z-of_z {w = w64} (record { sfits = c.at-mark.type_inv }) ∙ c.at-mark.ensures) _ _ (to_z-of_z {w = w64} (record { sfits = c.at-n.type_inv }) ∙ c.at-n.ensures) (c.over.ensures ∙ ap (λ (y : ℤ). record { numerator = to_z w64 (of_z w64 c.at-n.result); denominator = y }) (to_z-of_z (recall-fits memo variable _ _ (c.requires) c.place-i.ensures.value (to_z-of_z {w = w64} (record { sfits = c.at-mark.type_inv }) ∙ c.at-mark.ensures))))).0; small = (recall-is memo variable _ _ (c.requires) c.place-i.ensures.value (to_z-of_z {w = w64} (record { sfits = c.at-mark.type_inv }) ∙ c.at-mark.ensures) _ _ (to_z-of_z {w = w64} (record { sfits = c.at-n.type_inv }) ∙ c.at-n.ensures) (c.over.ensures ∙ ap (λ (y : ℤ). record { numerator = to_z w64 (of_z w64 c.at-n.result); denominator = y }) (to_z-of_z (recall-fits memo variable _ _ (c.requires) c.place-i.ensures.value (to_z-of_z {w = w64} (record { sfits = c.at-mark.type_inv }) ∙ c.at-mark.ensures))))).1 }
