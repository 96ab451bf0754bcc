-- The table of examples holds, by computation.
use mathlib.Core.List.{map}
use mathlib.Core.Path.{◌≡◌, refl}
use Rattle.model.specs.Shelf.{Example, outcome, named, examples}
use Rattle.model.proofs.Computed.{computed}

pub table : map (λ (x : Example). outcome x.over x.call) examples ≡ map (λ (x : Example). named x.call x.comes) examples
unfolding computed
table = refl
