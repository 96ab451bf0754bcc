-- Chains for the conditions that branches of a table start with. A table of chains has, for each branch below 64, the place of its chain or 0; a chain
-- has the variable whose rows it chains, the place of the side that they are compared with, its number and 256 times the branch that a row which is not
-- equal may still lead from to 0, the attribute, heads and links. Of an OR of two equalities that branch is the second, and has a chain too; 0 times 256
-- stands for branch 1, from which nothing leads to 0.
use Rattle.std.specs.Prelude.{ℕ, ◌+◌, ◌/◌, ◌%◌, ◌≤◌, ◌<◌, ◌≡◌, Bool, true, false, cond, ltb, List, ℤ, nat_abs, get_or}
use Rattle.std.proofs.Math.Option.{some}
use Rattle.model.specs.Lists.{update}
use Rattle.model.specs.Meaning.{Tuple, Assignment, whole, compare}
use Rattle.walks.specs.Walks.{walk_of}
use Rattle.branches.specs.Branches.{number, operand, branch_holds, runs}
use Rattle.walks.specs.Assigned.{assigned}
use Rattle.decide.specs.Chains.{same, bucket_at, Built, Entered}
use Rattle.decide.specs.declared.chains.Entry.{Entry}

-- whether attribute a of a row is equal to the side at place p, with number n
abbrev pub equality : List ℕ → ℕ → ℕ → ℕ → List ℤ → Assignment → Tuple → Bool
equality t p n a m e row = compare 1 (some (whole (row a))) (operand m (get_or t p 0) (get_or t (p + 1) 0) (number t n) e)

-- branch i asks that of a row of variable v
abbrev pub Tells : List ℕ → ℕ → ℕ → ℕ → ℕ → ℕ → Type 0
Tells t i v p n a = (q z ws : List ℕ) (vs m : List ℤ) (e : Assignment) (row : Tuple) → branch_holds t q z ws vs m i (update e v row) ≡ equality t p n a m e row

-- a row that has it leads from branch s where it leads from branch o
abbrev pub Follows : List ℕ → ℕ → ℕ → ℕ → ℕ → ℕ → ℕ → Type 0
Follows t s o v p n a = (q z ws : List ℕ) (vs m : List ℤ) (e : Assignment) (row : Tuple)
    → equality t p n a m e row ≡ true → runs t q z ws vs m s (update e v row) ≡ runs t q z ws vs m o (update e v row)

-- one that has it not leads from branch s to 0 only if it does from branch o
abbrev pub Decides : List ℕ → ℕ → ℕ → ℕ → ℕ → ℕ → ℕ → Type 0
Decides t s o v p n a = (q z ws : List ℕ) (vs m : List ℤ) (e : Assignment) (row : Tuple)
    → equality t p n a m e row ≡ false → runs t q z ws vs m o (update e v row) ≡ false → runs t q z ws vs m s (update e v row) ≡ false

-- the branch that a number names besides that of a side
abbrev pub onward : ℕ → ℕ
onward m = cond (ltb m 256) 1 (m / 256)

-- the chain at place r serves branch s; where its side stands in that branch, it is that branch's equality
pub record Chain (t ws : List ℕ) (vs : List ℤ) (chains : List ℕ) (s r : ℕ) : Type 0 where
  pub decides : Decides t s (onward (get_or chains (r + 2) 0)) (get_or chains r 0) (get_or chains (r + 1) 0) (get_or chains (r + 2) 0 % 256) (get_or chains (r + 3) 0)
  pub met : get_or chains (r + 1) 0 / 8 ≡ s → Tells t s (get_or chains r 0) (get_or chains (r + 1) 0) (get_or chains (r + 2) 0 % 256) (get_or chains (r + 3) 0)
  pub built : Built (bucket_at vs ws (walk_of ws (get_or chains r 0)) (get_or chains (r + 3) 0)) (walk_of ws (get_or chains r 0)).count (r + 4) chains

-- a chain entered for the rows of variable v: one that does not have the value leads from branch s to 0 only if it does from branch o
pub record Enters (x : Entry) (t : List ℕ) (s o v : ℕ) (ws : List ℕ) (vs m : List ℤ) (env chains : List ℕ) : Type 0 where
  pub entered : Entered x vs ws (walk_of ws v) chains
  pub fails : (q z us : List ℕ) (row : Tuple) → (same (row x.attribute) x.value ≡ true → ⊥) → runs t q z us vs m o (update (assigned vs env) v row) ≡ false
      → runs t q z us vs m s (update (assigned vs env) v row) ≡ false

-- the chain of branch s for variable v stands at place r
pub record Stands (chains : List ℕ) (s v r : ℕ) : Type 0 where
  pub low : s < 64
  pub some : r ≡ 0 → ⊥
  pub place : r ≡ get_or chains s 0
  pub variable : get_or chains r 0 ≡ v

-- how the chain at place r is entered: a row has that value where it has the chain's equality
pub record Entering (x : Entry) (r : ℕ) (t : List ℕ) (vs m : List ℤ) (env chains : List ℕ) : Type 0 where
  pub at : x.at ≡ r + 4
  pub attribute : x.attribute ≡ get_or chains (r + 3) 0
  pub small : nat_abs x.value ≤ 140735340871680
  pub equals : (row : Tuple) → equality t (get_or chains (r + 1) 0) (get_or chains (r + 2) 0 % 256) x.attribute m (assigned vs env) row ≡ same (row x.attribute) x.value

-- every chain of the table serves its branch; so does a table with none
abbrev pub Faithful : List ℕ → List ℕ → List ℤ → List ℕ → Type 0
Faithful t ws vs chains = (s : ℕ) → s < 64 → (get_or chains s 0 ≡ 0 → ⊥) → Chain t ws vs chains s (get_or chains s 0)

-- a table that is being filled: its chains stand before `free`, behind it there is nothing
pub record Filling (free : ℕ) (t ws : List ℕ) (vs : List ℤ) (chains : List ℕ) : Type 0 where
  pub low : 64 ≤ free
  pub high : free ≤ 65535
  pub clear : (i : ℕ) → free ≤ i → get_or chains i 0 ≡ 0
  pub within : (s : ℕ) → s < 64 → (get_or chains s 0 ≡ 0 → ⊥) → (64 ≤ get_or chains s 0) × (get_or chains s 0 + 1028 + (walk_of ws (get_or chains (get_or chains s 0) 0)).count ≤ free)
  pub faithful : Faithful t ws vs chains
