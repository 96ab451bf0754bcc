-- 22 of a permit's mask: not 0, and (unless ALL) naming no absent attribute (document 01, "Who can cause a refusal").
use Rattle.std.specs.Prelude.{ℕ, Bool, not, ◌&&◌, ◌||◌, eqb, ltb}
use Rattle.model.specs.Lists.{all, below}
use Rattle.model.specs.Permits.{bit}

unfoldable pub attributes_in : ℕ → ℕ → Bool
attributes_in n m = all (λ a. not (bit m a) || ltb a n) (below 16)

unfoldable pub mask_in : ℕ → ℕ → Bool
mask_in n m = not (eqb m 0) && (eqb m 65535 || attributes_in n m)
