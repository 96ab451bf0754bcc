-- The record that bytes start with, where a condition, a term, the head of a query or a permit stands: one of another place is none.
use Rattle.std.specs.Prelude.{ℕ, ◌+◌, ◌*◌, Bool, true, false, List}
use Rattle.model.specs.Syntax.{is_operator, is_function}
use Rattle.kinds.specs.Record.{record_at}
use Rattle.kinds.specs.declared.Record.{Record}
use Rattle.kinds.specs.declared.Record.TheVariants as R
use Rattle.kinds.specs.declared.ConditionRecord.{ConditionRecord}
use Rattle.kinds.specs.declared.ConditionRecord.TheVariants as C
use Rattle.kinds.specs.declared.TermRecord.{TermRecord}
use Rattle.kinds.specs.declared.TermRecord.TheVariants as T
use Rattle.kinds.specs.declared.HeadRecord.{HeadRecord}
use Rattle.kinds.specs.declared.HeadRecord.TheVariants as H
use Rattle.kinds.specs.declared.PermitRecord.{PermitRecord}
use Rattle.kinds.specs.declared.PermitRecord.TheVariants as P

abbrev pub condition_of : Record → ConditionRecord
condition_of R.True = C.True
condition_of R.False = C.False
condition_of R.Not = C.Not
condition_of R.And = C.And
condition_of R.Or = C.Or
condition_of (R.Compare o) = C.Compare o
condition_of (R.Some v r) = C.Some v r
condition_of (R.Range v r) = C.Other
condition_of (R.Constant a b c d) = C.Other
condition_of (R.Attribute v a) = C.Other
condition_of (R.Aggregate f v r a) = C.Other
condition_of (R.Permit a b c) = C.Other
condition_of R.Unknown = C.Other
condition_of R.Short = C.Other

abbrev pub term_of : Record → TermRecord
term_of (R.Constant a b c d) = T.Constant a b c d
term_of (R.Attribute v a) = T.Attribute v a
term_of (R.Aggregate f v r a) = T.Aggregate f v r a
term_of R.True = T.Other
term_of R.False = T.Other
term_of R.Not = T.Other
term_of R.And = T.Other
term_of R.Or = T.Other
term_of (R.Compare o) = T.Other
term_of (R.Some v r) = T.Other
term_of (R.Range v r) = T.Other
term_of (R.Permit a b c) = T.Other
term_of R.Unknown = T.Other
term_of R.Short = T.Other

abbrev pub head_of : Record → HeadRecord
head_of (R.Range v r) = H.Range v r
head_of R.True = H.Other
head_of R.False = H.Other
head_of R.Not = H.Other
head_of R.And = H.Other
head_of R.Or = H.Other
head_of (R.Compare o) = H.Other
head_of (R.Some v r) = H.Other
head_of (R.Constant a b c d) = H.Other
head_of (R.Attribute v a) = H.Other
head_of (R.Aggregate f v r a) = H.Other
head_of (R.Permit x l h) = H.Other
head_of R.Unknown = H.Other
head_of R.Short = H.Other

-- a mask is two bytes, the low one first
abbrev pub permit_of : Record → PermitRecord
permit_of (R.Permit x l h) = P.Permit x (l + 256 * h)
permit_of (R.Range v r) = P.Other
permit_of R.True = P.Other
permit_of R.False = P.Other
permit_of R.Not = P.Other
permit_of R.And = P.Other
permit_of R.Or = P.Other
permit_of (R.Compare o) = P.Other
permit_of (R.Some v r) = P.Other
permit_of (R.Constant a b c d) = P.Other
permit_of (R.Attribute v a) = P.Other
permit_of (R.Aggregate f v r a) = P.Other
permit_of R.Unknown = P.Other
permit_of R.Short = P.Other

abbrev pub condition_at : List ℕ → ConditionRecord
condition_at q = condition_of (record_at q)

abbrev pub term_at : List ℕ → TermRecord
term_at q = term_of (record_at q)

abbrev pub head_at : List ℕ → HeadRecord
head_at q = head_of (record_at q)

abbrev pub permit_at : List ℕ → PermitRecord
permit_at q = permit_of (record_at q)

-- a record that can stand for a condition, its operator known
abbrev pub is_condition : ConditionRecord → Bool
is_condition C.True = true
is_condition C.False = true
is_condition C.Not = true
is_condition C.And = true
is_condition C.Or = true
is_condition (C.Compare o) = is_operator o
is_condition (C.Some v r) = true
is_condition C.Other = false

-- a record that can stand for a term, its function known
abbrev pub is_term : TermRecord → Bool
is_term (T.Constant a b c d) = true
is_term (T.Attribute v a) = true
is_term (T.Aggregate f v r a) = is_function f
is_term T.Other = false
