-- The end of the quick pass: numbers mended, RANGE records.
use Rattle.std.specs.Prelude.{ℕ, ◌-◌, ◌%◌, ◌<◌, cond, List, ◌≡◌, ltb}
use Rattle.parts.specs.Table.{relation_at, number_at, mark_at}
use Rattle.parts.specs.Renumber.{used_before, range_bytes}

-- T is S with other numbers of the first n symbols: how many before each are used
pub record Renumbered (S T : List ℕ) (n : ℕ) : Type 0 where
  pub number : (i : ℕ) → i < n → number_at T i ≡ used_before S i
  pub relation : (i : ℕ) → relation_at T i ≡ relation_at S i
  pub mark : (i : ℕ) → mark_at T i ≡ mark_at S i

-- the number that counts, by such a table, where `unused` of n symbols are not used
abbrev pub new_number : List ℕ → ℕ → ℕ → ℕ → ℕ
new_number T n unused v = cond (ltb v n) (number_at T v % 256) (v - unused)

-- the RANGE records with the numbers of the table
abbrev pub table_ranges : List ℕ → ℕ → ℕ → List ℕ
table_ranges T i k = range_bytes (λ i. number_at T i % 256) T i k
