-- What a chain says of the rows that it chains.
use Rattle.std.specs.Prelude.{ℕ, ◌+◌, ◌≡◌, Bool, true, ℤ, get_or, Option, Some, None}
use Rattle.decide.specs.Chains.{same, key_at, bucket_of}
use Rattle.decide.specs.declared.chains.Chain.{Chain}

-- the value of its attribute in row j, and whether that is the value that is looked for
abbrev pub value_in : Chain → ℕ → ℤ
value_in c j = key_at c.rows.values.now c.rows.walks.now c.rows.walk c.entry.attribute j

abbrev pub has_row : Chain → ℕ → Bool
has_row c j = same (value_in c j) c.entry.value

abbrev pub Has : Chain → ℕ → Type 0
Has c j = has_row c j ≡ true

-- row j is in the bucket of that value
abbrev pub InBucket : Chain → ℕ → Type 0
InBucket c j = bucket_of (value_in c j) ≡ bucket_of c.entry.value

-- the link to the first row of that bucket, and the one from row j on
abbrev pub head_of : Chain → ℕ
head_of c = get_or c.table.now (c.entry.at + bucket_of c.entry.value) 0

abbrev pub link_behind : Chain → ℕ → ℕ
link_behind c j = get_or c.table.now (c.entry.at + 1024 + j) 0

-- the link to a row, if there is one
abbrev pub link_of : Option ℕ → ℕ
link_of None = 0
link_of (Some j) = j + 1
