-- How many bytes a condition or a term takes, nested as deep as the bytes allow (document 01, refusals 20 and 30).
use Rattle.std.specs.Prelude.{ℕ, zero, suc, ◌+◌, ◌-◌, cond, List, length, get_or, drop, Option, Some, None}
use Rattle.model.specs.Encoding.{Read, fail, ok, read_condition, read_term, read_permit}
use Rattle.kinds.specs.Tables.{terms_of, record_length}
use Rattle.kinds.specs.Places.{condition_at, is_condition}

-- how many of the bytes were read
abbrev pub size_read : {A : Type 0} → List ℕ → Read A → Option ℕ
size_read q fail = None
size_read q (ok a r) = Some (length q - length r)

-- the condition, the term or the permit that q starts with
unfoldable pub condition_size : List ℕ → Option ℕ
condition_size q = size_read q (read_condition (suc (length q)) q)

unfoldable pub term_size : List ℕ → Option ℕ
term_size q = size_read q (read_term (suc (length q)) q)

unfoldable pub permit_size : List ℕ → Option ℕ
permit_size q = size_read q (read_permit (suc (length q)) q)

-- a size after n bytes
abbrev pub after : ℕ → Option ℕ → Option ℕ
after n (Some m) = Some (n + m)
after n None = None

-- a size, and what follows it
abbrev pub followed : Option ℕ → (ℕ → Option ℕ) → Option ℕ
followed (Some n) f = after n (f n)
followed None f = None

-- n of them, one after the other
unfoldable pub many : (List ℕ → Option ℕ) → ℕ → List ℕ → Option ℕ
many f zero q = Some 0
many f (suc n) q = followed (f q) (λ m. many f n (drop m q))

-- the first record of a condition with the terms that are its children: what stands before the conditions that are
unfoldable pub head_size : List ℕ → Option ℕ
head_size q =
    cond (is_condition (condition_at q)) (after (record_length (get_or q 0 0)) (many term_size (terms_of (get_or q 0 0)) (drop (record_length (get_or q 0 0)) q))) None
