-- The table of sizes of a whole query: its targets one after the other, then its condition.
use Rattle.std.specs.Prelude.{ℕ, zero, suc, ◌+◌, List, drop, Some}
use Rattle.sizes.specs.Measured.{Measured, leaves, onward, condition_size, condition_table, term_size, term_table}

-- n targets from place p on: the place after them, and the table that is left behind
unfoldable pub targets_measured : ℕ → ℕ → List ℕ → ℕ → List ℕ → Measured
targets_measured zero l q p z = leaves (Some p) z
targets_measured (suc n) l q p z = onward (term_size l (drop p q)) (term_table l q p z) (λ m y. targets_measured n l q (p + m) y)

abbrev pub condition_measured : ℕ → List ℕ → ℕ → List ℕ → Measured
condition_measured l q p z = leaves (condition_size l (drop p q)) (condition_table l q p z)

unfoldable pub query_measured : ℕ → ℕ → List ℕ → ℕ → List ℕ → Measured
query_measured n l q p z = onward (targets_measured n l q p z).size (targets_measured n l q p z).table (λ c y. condition_measured l q c y)
