-- The tuple of each variable, by the place of its row.
use Rattle.std.specs.Prelude.{ℕ, ◌≤◌, ◌≡◌, List, ℤ, length, get_or}
use Rattle.model.specs.Meaning.{Assignment, unbound}
use Rattle.catalogue.specs.Layout.{tuple_at}

-- the assignment that the places stand for; a place past the values is an unbound variable's
abbrev pub assigned : List ℤ → List ℕ → Assignment
assigned vs e v = tuple_at vs (get_or e v (length vs))

-- places at which no variable is bound
pub record Unbound (vs : List ℤ) (e : List ℕ) : Type 0 where
  pub places : 256 ≤ length e
  pub none : assigned vs e ≡ unbound
