-- The premises of change 12 can hold, and each is needed, by computation.
use mathlib.Core.List.{map}
use mathlib.Core.Path.{◌≡◌, refl}
use Rattle.model.specs.Premises.{compared, expected, trials}
use Rattle.model.proofs.Computed.{computed}

pub needed : map compared trials ≡ map expected trials
unfolding computed
needed = refl
