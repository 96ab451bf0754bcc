-- The ranges as nested loops, with a test for each number of range variables that are bound.
use Rattle.std.specs.Prelude.{ℕ, suc, ◌+◌, ◌*◌, Bool, cond, ◌&&◌, List, [], ◌∷◌, ℤ}
use Rattle.model.specs.Lists.{update, concat_map}
use Rattle.model.specs.Syntax.{Binding}
use Rattle.model.specs.Meaning.{Assignment, Rows}
use Rattle.conjuncts.specs.Stages.{stage_holds}

-- T d is tried as soon as d range variables are bound; where it fails, nothing below is looked at
unfoldable pub staged_from : (ℕ → Assignment → Bool) → ℕ → List Binding → Rows → Assignment → List Assignment
staged_from T d [] R e = cond (T d e) (e ∷ []) []
staged_from T d (b ∷ bs) R e = cond (T d e) (concat_map (λ x. staged_from T (suc d) bs R (update e b.variable x)) (R b.variable b.relation)) []

-- the stages that are due where d range variables are bound
unfoldable pub depth_holds : List ℕ → List ℕ → List ℕ → List ℕ → List ℤ → List ℤ → ℕ → Assignment → Bool
depth_holds t q z ws vs m d e = stage_holds t q z ws vs m (2 * d) e && stage_holds t q z ws vs m (2 * d + 1) e
