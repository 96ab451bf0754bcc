-- The records of bytes one after the other, with no regard to what is a child of what: each kind fixes how long its record is,
-- and children follow their parent, so that a loop meets them all. Total: for any bytes.
use Rattle.std.specs.Prelude.{ℕ, zero, suc, ◌-◌, Bool, not, ◌&&◌, List, [], ◌∷◌, Option, None, Some, eqb, length, get_or}
use Rattle.model.specs.Lists.{any, all, unique, cons_if, concat_map}
use Rattle.model.specs.Syntax.{Binding, Use, variables}
use Rattle.catalogue.specs.Layout.{stored_of}
use Rattle.kinds.specs.Tables.{record_length}
use Rattle.kinds.specs.Record.{record_at}
use Rattle.kinds.specs.declared.Record.{Record}
use Rattle.kinds.specs.declared.Record.TheVariants as R
use Rattle.kinds.specs.Places.{term_of}
use Rattle.kinds.specs.declared.TermRecord.{TermRecord}
use Rattle.kinds.specs.declared.TermRecord.TheVariants as T
use Rattle.scans.specs.declared.Bindings.{Bindings}
use Rattle.scans.specs.declared.Records.{Records}
use Rattle.scans.specs.declared.BoundVariable.{BoundVariable}
use Rattle.scans.specs.declared.BoundVariables.{BoundVariables}

-- the records, after so many bytes that belong to the one before
unfoldable pub records_after : ℕ → List ℕ → List Record
records_after n [] = []
records_after (suc n) (b ∷ q) = records_after n q
records_after zero (b ∷ q) = record_at (b ∷ q) ∷ records_after (record_length b - 1) q

-- the bytes from each record on
unfoldable pub parts_after : ℕ → List ℕ → List (List ℕ)
parts_after n [] = []
parts_after (suc n) (b ∷ q) = parts_after n q
parts_after zero (b ∷ q) = (b ∷ q) ∷ parts_after (record_length b - 1) q

unfoldable pub parts_of : List ℕ → List (List ℕ)
parts_of q = parts_after 0 q

unfoldable pub records_of : List ℕ → List Record
records_of q = records_after 0 q

-- RANGE, SOME and an aggregate bind a variable
abbrev pub binding_of : Record → List Binding
binding_of (R.Range v r) = record { variable = v; relation = r } ∷ []
binding_of (R.Some v r) = record { variable = v; relation = r } ∷ []
binding_of (R.Aggregate f v r a) = record { variable = v; relation = r } ∷ []
binding_of R.True = []
binding_of R.False = []
binding_of R.Not = []
binding_of R.And = []
binding_of R.Or = []
binding_of (R.Compare o) = []
binding_of (R.Constant a b c d) = []
binding_of (R.Attribute v a) = []
binding_of (R.Permit a b c) = []
binding_of R.Unknown = []
binding_of R.Short = []

-- an attribute term uses an attribute of a variable, and an aggregate one of its own
abbrev pub term_use : TermRecord → List Use
term_use (T.Attribute v a) = record { variable = v; attribute = a } ∷ []
term_use (T.Aggregate f v r a) = record { variable = v; attribute = a } ∷ []
term_use (T.Constant a b c d) = []
term_use T.Other = []

abbrev pub use_of : Record → List Use
use_of r = term_use (term_of r)

-- what the records say, in byte order
unfoldable pub flat : {A : Type 0} → (Record → List A) → List ℕ → List A
flat f q = concat_map f (records_of q)

abbrev pub flat_bindings : List ℕ → List Binding
flat_bindings q = flat binding_of q

abbrev pub flat_uses : List ℕ → List Use
flat_uses q = flat use_of q

-- how many variables are bound, and whether no number is bound twice, variable 0 being bound or not
abbrev pub bindings_of : Bool → List ℕ → Bindings
bindings_of first q = record { count = length (flat_bindings q); once = unique (cons_if first 0 (variables (flat_bindings q))) }

-- over a stored relation (23)
abbrev pub stored_in : List ℕ → Binding → Bool
stored_in catalogue b = stored_of catalogue b.relation

-- S of a variable: the attributes used of it
unfoldable pub used_in : List Use → ℕ → ℕ → Bool
used_in us v a = any (λ (u : Use). eqb u.variable v && eqb u.attribute a) us

-- what the code finds in one record
abbrev pub is_binding : BoundVariable → Binding
is_binding b = record { variable = b.variable; relation = b.relation }

abbrev pub bound_by : Option BoundVariable → List Binding
bound_by None = []
bound_by (Some b) = is_binding b ∷ []

-- what is still to come of a walk
abbrev pub left_of : Records → List (List ℕ)
left_of s = parts_of s.rest.now

abbrev pub bindings_left : BoundVariables → List Binding
bindings_left s = flat_bindings s.records.rest.now

-- a table of marked numbers
abbrev pub seen_in : List ℕ → ℕ → Bool
seen_in s v = eqb (get_or s v 0) 1

-- no number of the list is marked, and none stands twice
unfoldable pub fresh : List ℕ → List ℕ → Bool
fresh s xs = all (λ x. not (seen_in s x)) xs && unique xs
