-- What bytes start with, by the tests that the reader makes.
use mathlib.Core.Path.{◌≡◌, ◌∙◌}
use mathlib.Core.List.{List, ◌∷◌}
use mathlib.Core.Option.{some}
use Prim.Native.Nat.{ℕ, ◌<◌, ◌≤◌}
use lib.ListN.{length, get_or}
use borrow.Author.Tests.{le-leb, lt-leb}
use Rattle.model.specs.Kinds.{Kind, kind_of, body_length}
use Rattle.kinds.specs.Record.{filled, within, record_at}
use Rattle.kinds.specs.declared.Record.TheVariants as R
use Rattle.kinds.proofs.Entries.{of_some}

-- a record whose body is whole, and one that is cut short
pub whole-record : (k : ℕ) (r : List ℕ) (x : Kind) → kind_of k ≡ some x → body_length x ≤ length r → record_at (k ∷ r) ≡ filled (get_or r 0 0) (get_or r 1 0) (get_or r 2 0) (get_or r 3 0) x
unfolding record_at
whole-record k r x e h = of_some R.Unknown (λ x. within x r) k x e ∙ rw (le-leb (body_length x) (length r) h)

pub short-record : (k : ℕ) (r : List ℕ) (x : Kind) → kind_of k ≡ some x → length r < body_length x → record_at (k ∷ r) ≡ R.Short
unfolding record_at
short-record k r x e h = of_some R.Unknown (λ x. within x r) k x e ∙ rw (lt-leb (body_length x) (length r) h)
