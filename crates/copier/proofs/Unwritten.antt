-- Which records are not written, as the code tells the records apart.
use mathlib.Core.Path.{◌≡◌, refl}
use mathlib.Core.List.{[], ◌∷◌}
use denote.Enum.Declared.{tag_of, declared}
use types.Run.{OneOf, miss}
use Rattle.kinds.specs.declared.Record.{Record}
use Rattle.kinds.specs.declared.Record.TheVariants as R
use Rattle.kinds.specs.contracts.Record.{enum}
use Rattle.copier.specs.Copied.{record_bytes}

pub unwritten : (r : Record) → OneOf (11 ∷ 12 ∷ 13 ∷ []) (tag_of (declared enum) r) → [] ≡ record_bytes r
unwritten (R.Range v r) h = absurd (miss (11 ∷ 12 ∷ 13 ∷ []) 0 tt h)
unwritten R.True h = absurd (miss (11 ∷ 12 ∷ 13 ∷ []) 1 tt h)
unwritten R.False h = absurd (miss (11 ∷ 12 ∷ 13 ∷ []) 2 tt h)
unwritten R.Not h = absurd (miss (11 ∷ 12 ∷ 13 ∷ []) 3 tt h)
unwritten R.And h = absurd (miss (11 ∷ 12 ∷ 13 ∷ []) 4 tt h)
unwritten R.Or h = absurd (miss (11 ∷ 12 ∷ 13 ∷ []) 5 tt h)
unwritten (R.Compare o) h = absurd (miss (11 ∷ 12 ∷ 13 ∷ []) 6 tt h)
unwritten (R.Some v r) h = absurd (miss (11 ∷ 12 ∷ 13 ∷ []) 7 tt h)
unwritten (R.Constant a b c d) h = absurd (miss (11 ∷ 12 ∷ 13 ∷ []) 8 tt h)
unwritten (R.Attribute v a) h = absurd (miss (11 ∷ 12 ∷ 13 ∷ []) 9 tt h)
unwritten (R.Aggregate f v r a) h = absurd (miss (11 ∷ 12 ∷ 13 ∷ []) 10 tt h)
unwritten (R.Permit a b c) h = refl
unwritten R.Unknown h = refl
unwritten R.Short h = refl
