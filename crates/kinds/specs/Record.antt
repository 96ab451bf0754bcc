-- The record that bytes start with.
use Rattle.std.specs.Prelude.{ℕ, cond, List, [], ◌∷◌, length, get_or, leb}
use Rattle.model.specs.Kinds.{Kind, k-range, k-true, k-false, k-not, k-and, k-or, k-compare, k-some, k-constant, k-attribute, k-aggregate, k-permit, body_length}
use Rattle.kinds.specs.Tables.{of_kind}
use Rattle.kinds.specs.declared.Record.{Record}
use Rattle.kinds.specs.declared.Record.TheVariants as R

-- a record of a kind, its body the first of four bytes
abbrev pub filled : ℕ → ℕ → ℕ → ℕ → Kind → Record
filled a b c d k-range = R.Range a b
filled a b c d k-true = R.True
filled a b c d k-false = R.False
filled a b c d k-not = R.Not
filled a b c d k-and = R.And
filled a b c d k-or = R.Or
filled a b c d k-compare = R.Compare a
filled a b c d k-some = R.Some a b
filled a b c d k-constant = R.Constant a b c d
filled a b c d k-attribute = R.Attribute a b
filled a b c d k-aggregate = R.Aggregate a b c d
filled a b c d k-permit = R.Permit a b c

-- the record of kind x that the bytes after the kind byte begin, Short where they end before its body does
abbrev pub within : Kind → List ℕ → Record
within x r = cond (leb (body_length x) (length r)) (filled (get_or r 0 0) (get_or r 1 0) (get_or r 2 0) (get_or r 3 0) x) R.Short

unfoldable pub record_at : List ℕ → Record
record_at [] = R.Short
record_at (k ∷ r) = of_kind R.Unknown (λ x. within x r) k
