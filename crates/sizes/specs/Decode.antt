-- Bytes with a table of sizes stand for a condition or a term: total, so that code promises its outcome for any bytes and any table.
use Rattle.std.specs.Prelude.{ℕ, zero, suc, ◌+◌, List, get_or, drop}
use Rattle.model.specs.Syntax.{Condition, Term, TRUE, FALSE, NOT, AND, OR, COMPARE, SOME, CONSTANT, ATTRIBUTE, AGGREGATE}
use Rattle.kinds.specs.Tables.{record_length}
use Rattle.kinds.specs.Places.{condition_at, term_at}
use Rattle.kinds.specs.declared.ConditionRecord.{ConditionRecord}
use Rattle.kinds.specs.declared.ConditionRecord.TheVariants as C
use Rattle.kinds.specs.declared.TermRecord.{TermRecord}
use Rattle.kinds.specs.declared.TermRecord.TheVariants as T

-- the place of the first child, and of the second
abbrev pub first : List ℕ → ℕ
first q = record_length (get_or q 0 0)

abbrev pub second : List ℕ → List ℕ → ℕ
second q z = first q + get_or z (first q) 0

-- by the record, given the children; FALSE where the record is no condition
abbrev pub condition_by : ConditionRecord → (List ℕ → List ℕ → Condition) → (List ℕ → List ℕ → Term) → List ℕ → List ℕ → Condition
condition_by C.True f g q z = TRUE
condition_by C.False f g q z = FALSE
condition_by C.Not f g q z = NOT (f (drop (first q) q) (drop (first q) z))
condition_by C.And f g q z = AND (f (drop (first q) q) (drop (first q) z)) (f (drop (second q z) q) (drop (second q z) z))
condition_by C.Or f g q z = OR (f (drop (first q) q) (drop (first q) z)) (f (drop (second q z) q) (drop (second q z) z))
condition_by (C.Compare o) f g q z = COMPARE o (g (drop (first q) q) (drop (first q) z)) (g (drop (second q z) q) (drop (second q z) z))
condition_by (C.Some v r) f g q z = SOME v r (f (drop (first q) q) (drop (first q) z))
condition_by C.Other f g q z = FALSE

-- the constant 0 where the record is no term
abbrev pub nothing : Term
nothing = CONSTANT 0 0 0 0

abbrev pub term_by : TermRecord → (List ℕ → List ℕ → Condition) → List ℕ → List ℕ → Term
term_by (T.Constant a b c d) f q z = CONSTANT a b c d
term_by (T.Attribute v a) f q z = ATTRIBUTE v a
term_by (T.Aggregate h v r a) f q z = AGGREGATE h v r a (f (drop (first q) q) (drop (first q) z))
term_by T.Other f q z = nothing

-- what bytes and their table stand for, down to so many levels
unfoldable mutual
  pub decode : ℕ → List ℕ → List ℕ → Condition
  decode zero q z = FALSE
  decode (suc l) q z = condition_by (condition_at q) (λ x y. decode l x y) (λ x y. decode_t l x y) q z

  pub decode_t : ℕ → List ℕ → List ℕ → Term
  decode_t zero q z = nothing
  decode_t (suc l) q z = term_by (term_at q) (λ x y. decode l x y) q z
