-- The records of a name list by their bytes, for any bytes (document 02, Change 1: kinds 80, 81, 82).
-- For a list that passes `names` these are its entries (proofs/Reading).
use Rattle.std.specs.Prelude.{ℕ, zero, suc, ◌+◌, ◌-◌, cond, List, [], ◌∷◌, ◌++◌, eqb, get_or, take, drop}
use Rattle.quel.specs.Results.{Word}
use Rattle.quel.specs.Tokens.{is_letter, run}
use Rattle.quel.specs.Names.{Entry, relation, attribute, value}

-- where the name of a record begins, by its kind; twelve bytes further the record ends
unfoldable pub place_of : ℕ → ℕ
place_of k = cond (eqb k 80) 2 (cond (eqb k 81) 3 5)

abbrev pub width_of : ℕ → ℕ
width_of k = place_of k + 12

-- the letters from a place on, at most twelve
unfoldable pub name_at : List ℕ → ℕ → Word
name_at x i = run is_letter (take 12 (drop i x))

-- the record that bytes start with; another kind is none
unfoldable pub entry_at : List ℕ → List Entry
entry_at x =
    let k = get_or x 0 0 in
    cond (eqb k 80) (relation (get_or x 1 0) (name_at x 2) ∷ [])
    (cond (eqb k 81) (attribute (get_or x 1 0) (get_or x 2 0) (name_at x 3) ∷ [])
    (cond (eqb k 82) (value (record { b0 = get_or x 1 0; b1 = get_or x 2 0; b2 = get_or x 3 0; b3 = get_or x 4 0 }) (name_at x 5) ∷ []) []))

-- after so many bytes that belong to the record before
unfoldable pub entries_after : ℕ → List ℕ → List Entry
entries_after n [] = []
entries_after (suc n) (b ∷ q) = entries_after n q
entries_after zero (b ∷ q) = entry_at (b ∷ q) ++ entries_after (width_of b - 1) q

unfoldable pub entries : List ℕ → List Entry
entries x = entries_after 0 x
