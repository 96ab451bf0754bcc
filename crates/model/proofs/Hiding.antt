-- Hidden rows move the count of a permit's search, by computation.
use mathlib.Core.Path.{refl}
use Rattle.model.specs.Hidden.{HiddenMoves}
use Rattle.model.proofs.Computed.{computed}

pub hidden-moves : HiddenMoves
unfolding computed
hidden-moves = record { answered = (refl, refl); outcomes = refl; own = refl; own-too = refl; permits = refl; moved = refl }
