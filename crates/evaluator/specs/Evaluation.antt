-- What the bytes of a condition or a term mean over the rows of each variable, by the table ws among the values vs, with the memo m; `e` has the place of each variable's row among the values.
use Rattle.std.specs.Prelude.{ℕ, Bool, List, map, ℤ}
use Rattle.model.specs.Lists.{update, filter}
use Rattle.model.specs.Meaning.{Tuple, Value}
use Rattle.walks.specs.Assigned.{assigned}
use Rattle.walks.specs.Walks.{walked, rows_by}
use Rattle.sizes.specs.Decode.{decode, decode_t}
use Rattle.numbers.specs.Recalled.{holds_by, value_by}

-- the bytes q with the table of sizes z, read down to level l
unfoldable pub holds_at : ℕ → List ℕ → List ℕ → List ℕ → List ℤ → List ℤ → List ℕ → Bool
holds_at l q z ws vs m e = holds_by m (decode l q z) (rows_by ws vs) (assigned vs e)

unfoldable pub value_at : ℕ → List ℕ → List ℕ → List ℕ → List ℤ → List ℤ → List ℕ → Value
value_at l q z ws vs m e = value_by m (decode_t l q z) (rows_by ws vs) (assigned vs e)

-- the condition with variable v on a row
unfoldable pub holds_on : ℕ → List ℕ → List ℕ → List ℕ → List ℤ → List ℤ → List ℕ → ℕ → Tuple → Bool
holds_on l q z ws vs m e v x = holds_by m (decode l q z) (rows_by ws vs) (update (assigned vs e) v x)

-- attribute a of the rows of variable v that meet the condition
unfoldable pub values_on : ℕ → List ℕ → List ℕ → List ℕ → List ℤ → List ℤ → List ℕ → ℕ → ℕ → List ℤ
values_on l q z ws vs m e v a = map (λ (x : Tuple). x a) (filter (holds_on l q z ws vs m e v) (walked ws vs v))
