use mathlib.Core.List.{[], ◌∷◌, ◌++◌, append_assoc}
use mathlib.Core.Path.{refl, sym}
use Rattle.program.specs.Text as T
use Rattle.program.proofs.text.Laws.{then-wrote}
use Rattle.program.proofs.text.labelled.Goals as goal

pub returns : goal.returns
returns c = let out = c.args.out.now in let word = c.args.word.now in let n = c.args.n in record { value = (then-wrote (T.labelled word n) (word ++ (T.decimal n)) (10 ∷ []) (sym (append_assoc word (T.decimal n) (10 ∷ []))) out c.args.at _ _ _ _ (then-wrote (word ++ (T.decimal n)) word (T.decimal n) refl out c.args.at _ _ _ _ (c.copy-after.ensures.value, c.copy-after.ensures.out_after) (c.decimal-to.ensures.value, c.decimal-to.ensures.out_after)) (c.put.ensures.value, c.put.ensures.out_after)).0; out_after = (then-wrote (T.labelled word n) (word ++ (T.decimal n)) (10 ∷ []) (sym (append_assoc word (T.decimal n) (10 ∷ []))) out c.args.at _ _ _ _ (then-wrote (word ++ (T.decimal n)) word (T.decimal n) refl out c.args.at _ _ _ _ (c.copy-after.ensures.value, c.copy-after.ensures.out_after) (c.decimal-to.ensures.value, c.decimal-to.ensures.out_after)) (c.put.ensures.value, c.put.ensures.out_after)).1 }
