-- A query and permits whose rewriting has the most bytes (document 01: 1,024 + 8 × (1 + 7 + 8 × 252) = 17,216).
use Rattle.std.specs.Prelude.{ℕ, zero, suc, List, [], ◌∷◌, replicate}
use Rattle.model.specs.Syntax.{Condition, TRUE, NOT, AND, SOME, ATTRIBUTE, Query, Permit}

-- 2 ^ n records TRUE under AND
unfoldable pub full : ℕ → Condition
full zero = TRUE
full (suc n) = AND (full n) (full n)

-- 252 bytes
abbrev pub large_condition : Condition
large_condition = NOT (AND (full 6) (AND (full 5) (AND (full 4) (AND (full 3) (AND (full 2) (full 1))))))

-- 8 permits of 256 bytes
abbrev pub large_permits : List Permit
large_permits = replicate 8 (record { relation = 0; low = 1; high = 0; condition = large_condition })

-- 997 bytes
abbrev pub filler : Condition
filler = AND (full 8) (AND (full 7) (AND (full 6) (AND (full 5) (AND (full 4) (AND (full 1) TRUE)))))

-- 1,024 bytes that bind 8 variables
abbrev pub large_query : Query
large_query = record {
  ranges = record { variable = 0; relation = 0 } ∷ record { variable = 1; relation = 0 } ∷ record { variable = 2; relation = 0 } ∷ record { variable = 3; relation = 0 } ∷ [];
  targets = ATTRIBUTE 0 0 ∷ [];
  condition = SOME 4 0 (SOME 5 0 (SOME 6 0 (SOME 7 0 filler)));
}
