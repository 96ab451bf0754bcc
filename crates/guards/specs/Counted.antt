-- What is said of the bound variables: whether check 33 passes, and how long the rewritten query is.
use Rattle.std.specs.Prelude.{ℕ, zero, suc, ◌+◌, ◌*◌, ◌/◌, ◌%◌, ◌≤◌, Bool, true, false, not, cond, ◌||◌, List, eqb, length, get_or, Result, Ok, Err}
use Rattle.model.specs.Lists.{all, total}
use Rattle.model.specs.declared.refusal.Refusal.{Refusal}
use Rattle.model.specs.declared.refusal.Refusal.TheVariants.{NoPermit}
use Rattle.model.specs.Syntax.{Binding}
use Rattle.catalogue.specs.Layout.{stored_of}
use Rattle.scans.specs.Flat.{flat_bindings}
use Rattle.guards.specs.Filled.{mask_for}
use Rattle.guards.specs.declared.Tally.{Tally}

-- 33: a variable over a stored relation has a permit in its mask
unfoldable pub served_by : List ℕ → List ℕ → List ℕ → Binding → Bool
served_by qb pb cb b = not (stored_of cb b.relation) || not (eqb (mask_for qb pb cb b) 0)

-- what permit k adds if its bit, the lowest of m, is set: its condition, with one byte more
abbrev pub turn_length : List ℕ → ℕ → ℕ → ℕ
turn_length places m k = cond (eqb (m % 2) 1) (suc (get_or places (2 * k + 1) 0)) 0

-- the n permits from k on
unfoldable pub length_from : List ℕ → ℕ → ℕ → ℕ → ℕ
length_from places zero m k = 0
length_from places (suc n) m k = turn_length places m k + length_from places n (m / 2) (suc k)

-- the guard of a bound variable: the AND, the conditions of its mask's permits, and an OR between two
abbrev pub length_by : List ℕ → List ℕ → List ℕ → List ℕ → Binding → ℕ
length_by qb pb cb places b = length_from places 8 (mask_for qb pb cb b) 0

unfoldable pub rewritten_length : List ℕ → List ℕ → List ℕ → List ℕ → ℕ
rewritten_length qb pb cb places = length qb + total (length_by qb pb cb places) (flat_bindings qb)

abbrev pub passed_if : Bool → ℕ → Result ℕ Refusal
passed_if true n = Ok n
passed_if false n = Err NoPermit

-- of all that a query binds, with the query's own bytes
abbrev pub tally_all : List ℕ → List ℕ → List ℕ → List ℕ → Tally
tally_all qb pb cb places = record { served = all (served_by qb pb cb) (flat_bindings qb); length = rewritten_length qb pb cb places }

-- the outcome of 33
abbrev pub check33 : List ℕ → List ℕ → List ℕ → List ℕ → Result ℕ Refusal
check33 qb pb cb places = passed_if (all (served_by qb pb cb) (flat_bindings qb)) (rewritten_length qb pb cb places)

-- no place and no length is large, so that sums of them are none either
pub record Short (places : List ℕ) : Type 0 where
  pub short : (i : ℕ) → get_or places i 0 ≤ 4096
