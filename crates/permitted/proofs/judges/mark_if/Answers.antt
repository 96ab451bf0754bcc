use mathlib.Core.Path.{refl, sym, ap, ◌∙◌, subst}
use mathlib.Core.Bool.{true}
use mathlib.Core.List.{List, ◌++◌}
use Prim.Native.Nat.{ℕ}
use lib.ListN.{drop, replicate}
use lib.Seq.{length-take-le}
use Rattle.permitted.specs.Marked.{Marked}
use Rattle.permitted.proofs.judges.Steps.{marked-same, marked-nothing, marked-filled}
use Rattle.permitted.proofs.judges.mark_if.Goals as goal

pub returns-then-b : goal.returns-then-b
returns-then-b c = let n = c.args.n in let ms = c.args.marks.now in
    let filled = c.fill.ensures.after (λ y e. e) ∙ ap (λ (k : ℕ). replicate k 1) (length-take-le n ms c.requires) in
    marked-same (subst (λ (x : List ℕ). Marked (λ i. true) n ms (x ++ drop n ms)) (sym filled) (marked-filled n ms c.requires)) refl (λ i h. sym c.if-b.true)

pub returns-else-b : goal.returns-else-b
returns-else-b c = marked-nothing _ c.args.marks.now (λ i h. c.if-b.false) c.requires
