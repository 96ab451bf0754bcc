-- Which permits apply or bar, and the rows they permit (document 01, "Permits and the rewriting", steps 1 to 3; document 02, change 6).
use Rattle.std.specs.Prelude.{ℕ, ◌+◌, ◌*◌, ◌/◌, ◌%◌, ◌^◌, Bool, true, false, not, ◌&&◌, ◌||◌, List, map, eqb, ℤ}
use Rattle.model.specs.Lists.{update, filter, any, all, below}
use Rattle.model.specs.Syntax.{Condition, TRUE, FALSE, NOT, AND, OR, COMPARE, SOME, Use, Query, Permit, uses_q}
use Rattle.model.specs.Meaning.{Tuple, Rows, holds, unbound}
use Rattle.model.specs.Catalogue.{Shape, stored_at, all_rows}

-- bit n of a mask is for attribute n
unfoldable pub bit : ℕ → ℕ → Bool
bit m a = eqb (m / 2 ^ a % 2) 1

abbrev pub mask : Permit → ℕ
mask p = p.low + 256 * p.high

-- step 2: S, the attributes used of a variable in the unmodified query
unfoldable pub used_of : Query → ℕ → ℕ → Bool
used_of q v a = any (λ (u : Use). eqb u.variable v && eqb u.attribute a) (uses_q q)

-- the single record FALSE
unfoldable pub is_false : Condition → Bool
is_false TRUE = false
is_false FALSE = true
is_false (NOT c) = false
is_false (AND c d) = false
is_false (OR c d) = false
is_false (COMPARE o s t) = false
is_false (SOME v r c) = false

-- NO ACCESS of 000: a permit whose condition is the single record FALSE
abbrev pub no_access : Permit → Bool
no_access p = is_false p.condition

-- step 3: a permit applies if its relation is the variable's and its mask contains S; one of NO ACCESS never does
unfoldable pub applies : (ℕ → Bool) → ℕ → Permit → Bool
applies s r p = not (no_access p) && (eqb p.relation r && all (λ a. not (s a) || bit (mask p) a) (below 16))

-- a permit of NO ACCESS bars a variable over its relation whose S shares an attribute with its mask
unfoldable pub bars : (ℕ → Bool) → ℕ → Permit → Bool
bars s r p = no_access p && (eqb p.relation r && any (λ a. s a && bit (mask p) a) (below 16))

-- no guard, or the conditions of the applying permits in list order
pub data Guard : Type 0 where
  free : Guard
  only : List Condition → Guard

-- the guard of each variable over a relation
abbrev pub Guards : Type 0
Guards = ℕ → ℕ → Guard

-- step 1: a variable over a workspace gets no guard
unfoldable pub guard_of : Bool → List Condition → Guard
guard_of true cs = only cs
guard_of false cs = free

unfoldable pub guards_of : Shape → List Permit → Query → Guards
guards_of sh ps q v r = guard_of (stored_at sh r) (map (λ (p : Permit). p.condition) (filter (applies (used_of q v) r) ps))

-- a permit's condition, judged over all rows with variable 0 as the row
unfoldable pub meets : (ℕ → List Tuple) → Condition → Tuple → Bool
meets D c x = holds c (all_rows D) (update unbound 0 x)

unfoldable pub allowed : (ℕ → List Tuple) → Guard → Tuple → Bool
allowed D free x = true
allowed D (only cs) x = any (λ c. meets D c x) cs

-- a variable's permitted rows: those that meet its guard, in relation order; of a workspace, all
unfoldable pub permitted : (ℕ → List Tuple) → Guards → Rows
permitted D G v r = filter (allowed D (G v r)) (D r)

-- a row cut to S
unfoldable pub cut : (ℕ → Bool) → Tuple → List ℤ
cut s x = map x (filter s (below 16))
