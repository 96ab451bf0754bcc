-- The parts of a query's bytes, read with the table of sizes.
use Rattle.std.specs.Prelude.{ℕ, zero, suc, List, [], ◌∷◌, get_or, drop}
use Rattle.model.specs.Syntax.{Term, Binding}
use Rattle.kinds.specs.Tables.{record_length}
use Rattle.sizes.specs.Decode.{decode_t}

-- n RANGE records, one after the other
unfoldable pub ranges_at : ℕ → List ℕ → List Binding
ranges_at zero q = []
ranges_at (suc n) q = record { variable = get_or q 1 0; relation = get_or q 2 0 } ∷ ranges_at n (drop (record_length 1) q)

-- n targets, one after the other
unfoldable pub targets_at : ℕ → ℕ → List ℕ → List ℕ → List Term
targets_at zero l q z = []
targets_at (suc n) l q z = decode_t l q z ∷ targets_at n l (drop (get_or z 0 0) q) (drop (get_or z 0 0) z)
