-- Records written anew, and the copy of a permit's condition for a guarded variable (document 01, "Permits and the rewriting", the numbering).
use Rattle.std.specs.Prelude.{ℕ, ◌+◌, cond, List, [], ◌∷◌, eqb}
use Rattle.model.specs.Lists.{index_of}
use Rattle.model.specs.Syntax.{variables}
use Rattle.kinds.specs.declared.Record.{Record}
use Rattle.kinds.specs.declared.Record.TheVariants as R
use Rattle.scans.specs.Flat.{flat, flat_bindings}

-- the bytes of a query's record; no other is written
abbrev pub record_bytes : Record → List ℕ
record_bytes (R.Range v r) = 1 ∷ v ∷ r ∷ []
record_bytes R.True = 16 ∷ []
record_bytes R.False = 17 ∷ []
record_bytes R.Not = 18 ∷ []
record_bytes R.And = 19 ∷ []
record_bytes R.Or = 20 ∷ []
record_bytes (R.Compare o) = 21 ∷ o ∷ []
record_bytes (R.Some v r) = 22 ∷ v ∷ r ∷ []
record_bytes (R.Constant a b c d) = 32 ∷ a ∷ b ∷ c ∷ d ∷ []
record_bytes (R.Attribute v a) = 33 ∷ v ∷ a ∷ []
record_bytes (R.Aggregate f v r a) = 34 ∷ f ∷ v ∷ r ∷ a ∷ []
record_bytes (R.Permit a b c) = []
record_bytes R.Unknown = []
record_bytes R.Short = []

-- a record with its variable w written as ρ w
abbrev pub renamed_record : (ℕ → ℕ) → Record → Record
renamed_record ρ (R.Some v r) = R.Some (ρ v) r
renamed_record ρ (R.Attribute v a) = R.Attribute (ρ v) a
renamed_record ρ (R.Aggregate f v r a) = R.Aggregate f (ρ v) r a
renamed_record ρ (R.Range v r) = R.Range v r
renamed_record ρ R.True = R.True
renamed_record ρ R.False = R.False
renamed_record ρ R.Not = R.Not
renamed_record ρ R.And = R.And
renamed_record ρ R.Or = R.Or
renamed_record ρ (R.Compare o) = R.Compare o
renamed_record ρ (R.Constant a b c d) = R.Constant a b c d
renamed_record ρ (R.Permit a b c) = R.Permit a b c
renamed_record ρ R.Unknown = R.Unknown
renamed_record ρ R.Short = R.Short

-- variable 0 of a permit takes the guarded variable's number v, its others the numbers from n up, in byte order
unfoldable pub number_in : List ℕ → ℕ → ℕ → ℕ → ℕ
number_in q v n w = cond (eqb w 0) v (n + index_of w (variables (flat_bindings q)))

abbrev pub copied_record : List ℕ → ℕ → ℕ → Record → List ℕ
copied_record q v n r = record_bytes (renamed_record (number_in q v n) r)

-- the condition's records one after the other, renamed
unfoldable pub copied_bytes : List ℕ → ℕ → ℕ → List ℕ
copied_bytes q v n = flat (copied_record q v n) q
