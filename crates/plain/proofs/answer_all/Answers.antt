use Rattle.plain.proofs.Answers.{all-answers}
use Rattle.model.specs.Calls.{give}
use Rattle.model.specs.Encoding.{query_of}
use lib.ListN.{length, length-replicate}
use lib.IntN.{ℤ}
use mathlib.Core.List.{List}
use Prim.Native.Nat.{ℕ}
use native.Mathlib.Omega.{arith}
use mathlib.Core.Path.{ap, ◌∙◌}
use Rattle.plain.proofs.answer_all.Goals as goal

pub returns : goal.returns
returns c = let pre = c.requires in let q = c.args.q.now in
    c.answer_query.ensures ∙ ap (λ (l : List (List ℤ)). give (length (query_of q).targets) l c.args.answer.now) (all-answers c.args.layout c.args.level q c.args.z.now c.args.catalogue.now _ _ c.args.values.now (pre) (omega (arith, length-replicate {A = ℕ} 2048 0)) c.fill.ensures)
