-- The permits of a list by their bytes, for any bytes: a permit goes up to the next record of its kind (document 01, "Permits and the rewriting").
-- For a list that passes check 20 these are the model's permits (proofs/Reading).
use Rattle.std.specs.Prelude.{ℕ, zero, suc, ◌+◌, ◌-◌, cond, List, [], ◌∷◌, eqb, take, drop}
use Rattle.kinds.specs.Tables.{record_length}
use Rattle.kinds.specs.Places.{permit_at}
use Rattle.kinds.specs.declared.PermitRecord.{PermitRecord}

-- the bytes before the next permit, after so many that belong to the record before
unfoldable pub span_after : ℕ → List ℕ → ℕ
span_after n [] = n
span_after (suc n) (b ∷ q) = suc (span_after n q)
span_after zero (b ∷ q) = cond (eqb b 64) 0 (suc (span_after (record_length b - 1) q))

unfoldable pub span_of : List ℕ → ℕ
span_of q = span_after 0 q

pub record Entry : Type 0 where
  pub head : PermitRecord
  pub condition : List ℕ

-- of the permit that bytes start with: its condition, its length, and the whole
unfoldable pub condition_of : List ℕ → List ℕ
condition_of x = take (span_of (drop 4 x)) (drop 4 x)

unfoldable pub size_of : List ℕ → ℕ
size_of x = 4 + span_of (drop 4 x)

abbrev pub entry_at : List ℕ → Entry
entry_at x = record { head = permit_at x; condition = condition_of x }

-- the permits, after so many bytes that belong to the one before
unfoldable pub entries_after : ℕ → List ℕ → List Entry
entries_after n [] = []
entries_after (suc n) (b ∷ q) = entries_after n q
entries_after zero (b ∷ q) = entry_at (b ∷ q) ∷ entries_after (size_of (b ∷ q) - 1) q

unfoldable pub entries : List ℕ → List Entry
entries x = entries_after 0 x
