-- The sizes of conditions and terms, and the table of them that is left behind.
use Rattle.std.specs.Prelude.{ℕ, zero, suc, ◌+◌, ◌-◌, Bool, true, false, not, cond, List, ltb, eqb, length, get_or, drop, set, Option, Some, None}
use Rattle.model.specs.Encoding.{Read, fail, ok, read_condition, read_term}
use Rattle.kinds.specs.Tables.{conditions_of, terms_of, record_length}
use Rattle.kinds.specs.Record.{record_at}
use Rattle.kinds.specs.declared.Record.{Record}
use Rattle.kinds.specs.Places.{condition_of, term_of, is_condition, is_term}

-- how many of the bytes were read
abbrev pub size_read : {A : Type 0} → List ℕ → Read A → Option ℕ
size_read q fail = None
size_read q (ok a r) = Some (length q - length r)

-- the bytes of the condition, or the term, that q starts with, of at most so many levels
unfoldable pub condition_size : ℕ → List ℕ → Option ℕ
condition_size l q = size_read q (read_condition l q)

unfoldable pub term_size : ℕ → List ℕ → Option ℕ
term_size l q = size_read q (read_term l q)

abbrev pub size_or0 : Option ℕ → ℕ
size_or0 (Some n) = n
size_or0 None = 0

-- a record that can stand for a condition (false) or a term (true)
abbrev pub accepts : Bool → Record → Bool
accepts t r = cond t (is_term (term_of r)) (is_condition (condition_of r))

-- how many children follow a record, and whether they are terms
unfoldable pub children_of : ℕ → ℕ
children_of k = conditions_of k + terms_of k

unfoldable pub child_term : ℕ → Bool
child_term k = not (eqb (terms_of k) 0)

-- the table with n at p, where n fits it
unfoldable pub store : List ℕ → ℕ → ℕ → List ℕ
store z p n = cond (ltb n 65536) (set z p n) z

-- a size, and the table that is left behind
pub record Measured : Type 0 where
  pub size : Option ℕ
  pub table : List ℕ

abbrev pub leaves : Option ℕ → List ℕ → Measured
leaves s z = record { size = s; table = z }

abbrev pub onward : Option ℕ → List ℕ → (ℕ → List ℕ → Measured) → Measured
onward (Some n) y g = g n y
onward None y g = leaves None y

-- c children one after the other, from a on, in bytes that start at p
unfoldable pub children : ℕ → ℕ → (List ℕ → ℕ → List ℕ → Measured) → List ℕ → ℕ → List ℕ → Measured
children zero a f q p z = leaves (Some a) z
children (suc c) a f q p z = onward (f (drop a q) (p + a) z).size (f (drop a q) (p + a) z).table (λ n y. children c (a + n) f q p y)

abbrev pub stored : ℕ → Measured → Measured
stored p m = onward m.size m.table (λ n y. leaves (Some n) (store y p n))

-- the condition (false) or term (true) that q starts with, of at most so many levels: its size, and the table with the size of each of its parts at
-- the place where the part starts, p being the place of q
unfoldable pub measured : ℕ → Bool → List ℕ → ℕ → List ℕ → Measured
measured zero t q p z = leaves None z
measured (suc l) t q p z =
    cond (accepts t (record_at q))
    (stored p (children (children_of (get_or q 0 0)) (record_length (get_or q 0 0)) (λ x m y. measured l (child_term (get_or q 0 0)) x m y) q p z))
    (leaves None z)

-- the table after the condition, or the term, at p of q has been measured
unfoldable pub condition_table : ℕ → List ℕ → ℕ → List ℕ → List ℕ
condition_table l q p z = (measured l false (drop p q) p z).table

unfoldable pub term_table : ℕ → List ℕ → ℕ → List ℕ → List ℕ
term_table l q p z = (measured l true (drop p q) p z).table
