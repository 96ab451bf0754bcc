-- Nothing is written past the bytes that are read.
use mathlib.Core.Path.{◌≡◌, refl, ◌∙◌}
use mathlib.Core.Bool.{Bool, true, false, cond}
use mathlib.Core.List.{List, [], ◌∷◌}
use Prim.Native.Nat.{ℕ, zero, suc, ◌+◌, ◌≤◌, ◌<◌}
use native.Mathlib.Omega.{arith}
use lib.Dec.{ltb}
use lib.ListN.{length, drop, set, length-drop}
use lib.Seq.{drop-set-lt}
use Rattle.kinds.specs.Record.{record_at}
use Rattle.kinds.specs.Tables.{record_length}
use Rattle.sizes.specs.Measured.{Measured, leaves, onward, accepts, children_of, child_term, children, stored, store, measured, condition_table, term_table}
use Rattle.std.specs.Prelude.{Option, Some, None}

store-past : (m p n : ℕ) (z : List ℕ) → p < m → drop m (store z p n) ≡ drop m z
unfolding store
store-past m p n z h = go (ltb n 65536)
  where
    go : (b : Bool) → drop m (cond b (set z p n) z) ≡ drop m z
    go true = drop-set-lt m z p n h
    go false = refl

-- bytes at p that end before m, if there are any
abbrev Before : ℕ → ℕ → List ℕ → Type 0
Before m p q = 1 ≤ length q → p + length q ≤ m

module _ (m : ℕ) (f : List ℕ → ℕ → List ℕ → Measured) (past : (q : List ℕ) (p : ℕ) (z : List ℕ) → Before m p q → drop m (f q p z).table ≡ drop m z) where
  children-past : (n a : ℕ) (q : List ℕ) (p : ℕ) (z : List ℕ) → p + length q ≤ m → drop m (children n a f q p z).table ≡ drop m z
  unfolding children
  children-past zero a q p z h = refl
  children-past (suc n) a q p z h =
      go (λ i y. children-past n i q p y h) (f (drop a q) (p + a) z).size ∙ past (drop a q) (p + a) z (λ k. omega (arith, length-drop a q, k))
    where
      go : ((i : ℕ) (y : List ℕ) → drop m (children n i f q p y).table ≡ drop m y) → (s : Option ℕ) → drop m (onward s (f (drop a q) (p + a) z).table (λ j y. children n (a + j) f q p y)).table ≡ drop m (f (drop a q) (p + a) z).table
      go ih (Some j) = ih (a + j) (f (drop a q) (p + a) z).table
      go ih None = refl

stored_past : (m p : ℕ) (x : Measured) → p < m → drop m (stored p x).table ≡ drop m x.table
stored_past m p x h = go x.size
  where
    go : (s : Option ℕ) → drop m (onward s x.table (λ n y. leaves (Some n) (store y p n))).table ≡ drop m x.table
    go (Some n) = store-past m p n x.table h
    go None = refl

measured-past : (m l : ℕ) (t : Bool) (q : List ℕ) (p : ℕ) (z : List ℕ) → Before m p q → drop m (measured l t q p z).table ≡ drop m z
unfolding measured record_at
measured-past m zero t q p z h = refl
measured-past m (suc l) true [] p z h = refl
measured-past m (suc l) false [] p z h = refl
measured-past m (suc l) t (k ∷ r) p z h = go (λ s q p z h. measured-past m l s q p z h) (accepts t (record_at (k ∷ r)))
  where
    go : ((s : Bool) (q : List ℕ) (p : ℕ) (z : List ℕ) → Before m p q → drop m (measured l s q p z).table ≡ drop m z) → (b : Bool)
        → drop m (cond b (stored p (children (children_of k) (record_length k) (λ x m y. measured l (child_term k) x m y) (k ∷ r) p z)) (leaves None z)).table ≡ drop m z
    go ih true =
        let e : p + length (k ∷ r) ≤ m = h (omega arith) in
        stored_past m p (children (children_of k) (record_length k) (λ x m y. measured l (child_term k) x m y) (k ∷ r) p z) (omega arith)
        ∙ children-past m (λ x m y. measured l (child_term k) x m y) (ih (child_term k)) (children_of k) (record_length k) (k ∷ r) p z e
    go ih false = refl

pub condition-past : (l : ℕ) (q : List ℕ) (p : ℕ) (z : List ℕ) → drop (length q) (condition_table l q p z) ≡ drop (length q) z
unfolding condition_table
condition-past l q p z = measured-past (length q) l false (drop p q) p z (λ k. omega (arith, length-drop p q, k))

pub term-past : (l : ℕ) (q : List ℕ) (p : ℕ) (z : List ℕ) → drop (length q) (term_table l q p z) ≡ drop (length q) z
unfolding term_table
term-past l q p z = measured-past (length q) l true (drop p q) p z (λ k. omega (arith, length-drop p q, k))
