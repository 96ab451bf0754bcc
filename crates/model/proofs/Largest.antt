-- The bound of 17,216 bytes is reached.
use mathlib.Core.List.{[], ◌∷◌}
use mathlib.Core.Path.{◌≡◌, refl}
use lib.ListN.{length, replicate}
use Rattle.model.specs.Encoding.{encode_query, encode_permits}
use Rattle.model.specs.Calls.{ask}
use Rattle.model.specs.Largest.{full, large_permits, large_query}
use Rattle.model.proofs.Computed.{computed}

pub sizes : (length (encode_permits large_permits) ≡ 2048) × (length (encode_query large_query) ≡ 1024)
unfolding computed full
sizes = (refl, refl)

-- one relation with one attribute and no row
pub reached : (ask (48 ∷ 1 ∷ 0 ∷ 0 ∷ []) [] (encode_permits large_permits) (encode_query large_query) (replicate 17216 0) []).count ≡ 17216
unfolding computed full
reached = refl
