-- What an aggregate takes by a table of conjuncts that has no ranges.
use Rattle.std.specs.Prelude.{ℕ, Bool, ◌&&◌, List, map, ℤ}
use Rattle.model.specs.Lists.{update, filter}
use Rattle.model.specs.Meaning.{Tuple, Assignment}
use Rattle.walks.specs.Walks.{walked}
use Rattle.walks.specs.Assigned.{assigned}
use Rattle.branches.specs.Branches.{runs}
use Rattle.conjuncts.specs.Stages.{stage_holds}

module _ (t q z ws : List ℕ) (vs m : List ℤ) where
  -- its two stages
  unfoldable pub both_hold : Assignment → Bool
  both_hold e = stage_holds t q z ws vs m 0 e && stage_holds t q z ws vs m 1 e

  -- the same, the first from branch i on
  unfoldable pub both_from : ℕ → Assignment → Bool
  both_from i e = runs t q z ws vs m i e && stage_holds t q z ws vs m 1 e

  -- attribute a of the rows of variable v for which they hold
  unfoldable pub taken_by : List ℕ → ℕ → ℕ → List ℤ
  taken_by e v a = map (λ (x : Tuple). x a) (filter (λ x. both_hold (update (assigned vs e) v x)) (walked ws vs v))
