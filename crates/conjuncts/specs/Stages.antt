-- A condition, split at its ANDs, as a table of branches with a start for each stage: the conjuncts of stages 2d and 2d + 1 are tried where d
-- ranges are bound, comparisons first. Where stage s starts is number s of the table, below the numbers of branch 2.
use Rattle.std.specs.Prelude.{ℕ, ◌+◌, ◌*◌, ◌≤◌, ◌≡◌, Bool, false, List, ℤ, length, get_or, drop}
use Rattle.model.specs.Lists.{all, below, contains}
use Rattle.model.specs.Syntax.{Condition, Binding, variables}
use Rattle.model.specs.Meaning.{Assignment}
use Rattle.numbers.specs.Recalled.{holds_by}
use Rattle.walks.specs.Walks.{rows_by}
use Rattle.branches.specs.Branches.{runs}

-- whether the conjuncts of stage s hold
unfoldable pub stage_holds : List ℕ → List ℕ → List ℕ → List ℕ → List ℤ → List ℤ → ℕ → Assignment → Bool
stage_holds t q z ws vs m s e = runs t q z ws vs m (get_or t s 0) e

-- the stages where at most n ranges are bound
unfoldable pub stages_hold : List ℕ → List ℕ → List ℕ → List ℕ → List ℤ → List ℤ → ℕ → Assignment → Bool
stages_hold t q z ws vs m n e = all (λ s. stage_holds t q z ws vs m s e) (below (2 * n + 2))

-- e and e' agree but for the variables of these ranges
abbrev pub Extends : List Binding → Assignment → Assignment → Type 0
Extends bs e e' = (w : ℕ) → contains w (variables bs) ≡ false → e w ≡ e' w

-- a stage does not depend on the ranges that are not bound yet
abbrev pub Steady : List ℕ → List ℕ → List ℕ → List ℕ → List ℤ → List ℤ → List Binding → Type 0
Steady t q z ws vs m bs = (s d : ℕ) → s ≤ 2 * d + 1 → d ≤ length bs → (e e' : Assignment) → Extends (drop d bs) e e' → stage_holds t q z ws vs m s e' ≡ stage_holds t q z ws vs m s e

-- the stages are the condition c
pub record Planned (t q z ws : List ℕ) (vs m : List ℤ) (c : Condition) (bs : List Binding) : Type 0 where
  pub whole : (e : Assignment) → stages_hold t q z ws vs m (length bs) e ≡ holds_by m c (rows_by ws vs) e
  pub steady : Steady t q z ws vs m bs
