use Prim.Native.Nat.{ℕ}
use mathlib.Core.Bool.{Bool, cond}
use mathlib.Core.List.{[], ◌∷◌}
use mathlib.Core.Path.{sym, ap, ◌∙◌}
use lib.Dec.{eqb}
use lib.ListN.{length}
use native.Mathlib.Omega.{arith}
use Rattle.std.specs.List.{list_any}
use Rattle.elaborate.specs.Places.{table}
use Rattle.elaborate.proofs.marks.Walks.{last-any}
use Rattle.elaborate.proofs.marks.qualified.Goals as goal

pub returns : goal.returns
returns c = let kinds = c.args.kinds.now in
    λ text ss ns. last-any text (table kinds ss ns) (length kinds) c.args.from (omega arith)
    ∙ sym (ap (λ (b : Bool). cond b [] (16 ∷ [])) (c.contains.ensures.value ∙ ap (list_any (λ (y : ℕ). eqb y 23)) c.tail.ensures))
