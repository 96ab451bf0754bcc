use mathlib.Core.Path.{◌≡◌, refl}
use mathlib.Core.List.{[], ◌∷◌}
use denote.Enum.Declared.{tag_of, declared}
use types.Run.{OneOf, miss}
use Rattle.kinds.specs.declared.Record.{Record}
use Rattle.kinds.specs.declared.Record.TheVariants as R
use Rattle.kinds.specs.contracts.Record.{enum}
use Rattle.scans.specs.Flat.{binding_of}
use Rattle.model.proofs.Tests.{not_yes}
use Rattle.scans.proofs.Silent.{binds-nothing}
use Rattle.scans.proofs.BoundVariable.read.Goals as goal

other : (r : Record) → OneOf (1 ∷ 2 ∷ 3 ∷ 4 ∷ 5 ∷ 6 ∷ 8 ∷ 9 ∷ 11 ∷ 12 ∷ 13 ∷ []) (tag_of (declared enum) r) → [] ≡ binding_of r
other (R.Range v r) h = absurd (miss (1 ∷ 2 ∷ 3 ∷ 4 ∷ 5 ∷ 6 ∷ 8 ∷ 9 ∷ 11 ∷ 12 ∷ 13 ∷ []) 0 tt h)
other R.True h = refl
other R.False h = refl
other R.Not h = refl
other R.And h = refl
other R.Or h = refl
other (R.Compare o) h = refl
other (R.Some v r) h = absurd (miss (1 ∷ 2 ∷ 3 ∷ 4 ∷ 5 ∷ 6 ∷ 8 ∷ 9 ∷ 11 ∷ 12 ∷ 13 ∷ []) 7 tt h)
other (R.Constant a b c d) h = refl
other (R.Attribute v a) h = refl
other (R.Aggregate f v r a) h = absurd (miss (1 ∷ 2 ∷ 3 ∷ 4 ∷ 5 ∷ 6 ∷ 8 ∷ 9 ∷ 11 ∷ 12 ∷ 13 ∷ []) 10 tt h)
other (R.Permit a b c) h = refl
other R.Unknown h = refl
other R.Short h = refl

pub returns-then-not-may_bind : goal.returns-then-not-may_bind
returns-then-not-may_bind c = binds-nothing c.args.bytes.now c.byte.result c.byte.ensures (c.may_bind.ensures (not_yes c.may_bind.result c.if-not-may_bind.true-raw))
