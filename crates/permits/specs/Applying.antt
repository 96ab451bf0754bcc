-- Which permits apply or bar, by the bytes of list and query.
use Rattle.std.specs.Prelude.{ℕ, Bool, true, false, not, ◌&&◌, ◌||◌, List, eqb, get_or}
use Rattle.model.specs.Lists.{all, below}
use Rattle.model.specs.Permits.{bit}
use Rattle.kinds.specs.declared.PermitRecord.{PermitRecord}
use Rattle.kinds.specs.declared.PermitRecord.TheVariants as P
use Rattle.scans.specs.Flat.{flat_uses, used_in}
use Rattle.permits.specs.Entries.{Entry}

-- a bit is as wanted
abbrev pub agree : Bool → Bool → Bool
agree true b = b
agree false b = not b

-- all of S is in the mask, or, where none is wanted, outside it
unfoldable pub all_used : (ℕ → Bool) → ℕ → Bool → Bool
all_used s m w = all (λ a. not (s a) || agree w (bit m a)) (below 16)

-- NO ACCESS: a condition that starts with FALSE is that record alone
unfoldable pub no_access_at : Entry → Bool
no_access_at e = eqb (get_or e.condition 0 0) 17

-- the record of a permit over the relation, of whose mask f holds
abbrev pub over_with : ℕ → (ℕ → Bool) → PermitRecord → Bool
over_with r f (P.Permit x m) = eqb x r && f m
over_with r f P.Other = false

-- step 3: a permit applies if its relation is the variable's and its mask contains S; one of NO ACCESS never does
unfoldable pub applies_to : (ℕ → Bool) → ℕ → Entry → Bool
applies_to s r e = not (no_access_at e) && over_with r (λ m. all_used s m true) e.head

-- a permit of NO ACCESS bars a variable over its relation whose S shares an attribute with its mask
unfoldable pub bars_from : (ℕ → Bool) → ℕ → Entry → Bool
bars_from s r e = no_access_at e && over_with r (λ m. not (all_used s m false)) e.head

-- S of a variable of the query
abbrev pub used_bytes : List ℕ → ℕ → ℕ → Bool
used_bytes qb v a = used_in (flat_uses qb) v a
