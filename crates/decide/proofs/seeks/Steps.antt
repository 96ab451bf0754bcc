-- What a walk over rows keeps, and what a failed side says of a branch.
use mathlib.Core.Path.{◌≡◌, refl, sym, ap, ap₂, ◌∙◌}
use mathlib.Core.Bool.{Bool, true, false, cond}
use mathlib.Core.List.{List}
use mathlib.Core.Option.{some}
use Prim.Native.Nat.{ℕ, ◌+◌, ◌*◌, ◌≤◌, ◌<◌}
use native.Mathlib.Nat.{add-zero}
use native.Mathlib.Omega.{arith}
use lib.Dec.{eqb, ltb}
use lib.IntN.{ℤ}
use lib.ListN.{get_or}
use borrow.Author.Tests.{eqb-true, eqb-false, ne_eqb, eq-eqb, lt-ltb, ltb-true, ltb-false}
use Rattle.model.specs.Lists.{update}
use Rattle.model.specs.Meaning as M
use Rattle.model.specs.Meaning.{Assignment, Tuple, compare}
use Rattle.branches.specs.Branches.{number, field, operand, holds_in, branch_holds, next, runs}
use Rattle.branches.proofs.Running.{runs-1, runs-step, runs-stuck}
use Rattle.decide.specs.Probe.{sided}

-- one row more that fails
pub one_more : (f : ℕ → Bool) (a j : ℕ) → ((i : ℕ) → a ≤ i → i < j → f i ≡ false) → f j ≡ false → (i : ℕ) → a ≤ i → i < j + 1 → f i ≡ false
one_more f a j h e i k l = go (eqb i j) refl
  where
    go : (b : Bool) → eqb i j ≡ b → f i ≡ false
    go true p = ap f (eqb-true i j p) ∙ e
    go false p = h i k (omega (arith, eqb-false i j p))

module _ (t q z ws : List ℕ) (vs m : List ℤ) (i v : ℕ) (e : Assignment) (row : Tuple) where
  -- an operand of the variable, and one of no or another variable
  own : (w a : ℕ) (x : ℤ) → w ≡ v → v < 256 → operand m w a x (update e v row) ≡ some (M.whole (row a))
  own w a x h l = rw (lt-ltb w 256 (omega (arith, h, l)), eq-eqb w v h)

  other : (w a : ℕ) (x : ℤ) → (w ≡ v → ⊥) → operand m w a x (update e v row) ≡ operand m w a x e
  other w a x h = rw (ne_eqb w v h)

  -- an operand as the table has it
  fixed : (p j w : ℕ) (x : ℤ) (y : M.Value) → p ≡ 8 * i + j → w ≡ field t i j → y ≡ operand m (get_or t p 0) (get_or t (p + 1) 0) x e → y ≡ operand m w (field t i (j + 1)) x e
  fixed p j w x y hp hw hy =
      let k : 8 * i + j + 1 ≡ 8 * i + (j + 1) = omega arith in
      hy ∙ ap (λ (n : ℕ). operand m (get_or t n 0) (get_or t (n + 1) 0) x e) hp ∙ ap₂ (λ (u n : ℕ). operand m u (get_or t n 0) x e) (sym hw) k

  module _ (o a b : ℕ) (y : M.Value) (eo : o ≡ get_or t (8 * i) 0) (nz : o ≡ 0 → ⊥) (nb : o ≡ 256 → ⊥) (ea : a ≡ field t i 1) (eb : b ≡ field t i 3) (l : v < 256) where
    branch-is : branch_holds t q z ws vs m i (update e v row) ≡ compare o (operand m a (field t i 2) (number t (2 * i)) (update e v row)) (operand m b (field t i 4) (number t (2 * i + 1)) (update e v row))
    unfolding branch_holds holds_in
    branch-is = rw (add-zero (8 * i), sym eo, sym ea, sym eb, ne_eqb o 0 nz, ne_eqb o 256 nb)

    pub left_is : (p c : ℕ) → a ≡ v → (b ≡ v → ⊥) → p ≡ 8 * i + 3 → c ≡ field t i 2 → y ≡ operand m (get_or t p 0) (get_or t (p + 1) 0) (number t (2 * i + 1)) e
        → branch_holds t q z ws vs m i (update e v row) ≡ sided o false (some (M.whole (row c))) y
    left_is p c ha hb hp hc hy =
        branch-is
        ∙ ap₂ (compare o) (own a (field t i 2) (number t (2 * i)) ha l ∙ ap (λ (n : ℕ). some (M.whole (row n))) (sym hc)) (other b (field t i 4) (number t (2 * i + 1)) hb ∙ sym (fixed p 3 b (number t (2 * i + 1)) y hp eb hy))

    pub right_is : (p c : ℕ) → (a ≡ v → ⊥) → b ≡ v → p ≡ 8 * i + 1 → c ≡ field t i 4 → y ≡ operand m (get_or t p 0) (get_or t (p + 1) 0) (number t (2 * i)) e
        → branch_holds t q z ws vs m i (update e v row) ≡ sided o true (some (M.whole (row c))) y
    right_is p c ha hb hp hc hy =
        branch-is
        ∙ ap₂ (compare o) (other a (field t i 2) (number t (2 * i)) ha ∙ sym (fixed p 1 a (number t (2 * i)) y hp ea hy)) (own b (field t i 4) (number t (2 * i + 1)) hb l ∙ ap (λ (n : ℕ). some (M.whole (row n))) (sym hc))

-- what starts with a branch that fails, and leads where it fails to one from which nothing leads to 0; 1 is such a branch
module _ (t q z ws : List ℕ) (vs m : List ℤ) (i f : ℕ) (e : Assignment) (l : 2 ≤ i) (ef : f ≡ field t i 6) where
  pub branch-fails : branch_holds t q z ws vs m i e ≡ false → runs t q z ws vs m f e ≡ false → runs t q z ws vs m i e ≡ false
  branch-fails h k = go (ltb f i) refl
    where
      n : next t q z ws vs m i e ≡ f
      n = rw h (sym ef)

      go : (b : Bool) → ltb f i ≡ b → runs t q z ws vs m i e ≡ false
      go true p = runs-step t q z ws vs m i e l (omega (arith, n, ltb-true f i p)) ∙ ap (λ (k : ℕ). runs t q z ws vs m k e) n ∙ k
      go false p = runs-stuck t q z ws vs m i e l (omega (arith, n, ltb-false f i p))

  pub start-fails : f ≡ 1 → branch_holds t q z ws vs m i e ≡ false → runs t q z ws vs m i e ≡ false
  start-fails e1 h = branch-fails h (ap (λ (k : ℕ). runs t q z ws vs m k e) e1 ∙ runs-1 t q z ws vs m e)

-- what starts with a branch that holds leads on from where that leads; one that leads to itself or up leads to 1
pub onward-met : (t q z ws : List ℕ) (vs m : List ℤ) (i r : ℕ) (e : Assignment) → 2 ≤ i → r ≡ cond (ltb (field t i 5) i) (field t i 5) 1 → branch_holds t q z ws vs m i e ≡ true
    → runs t q z ws vs m i e ≡ runs t q z ws vs m r e
onward-met t q z ws vs m i r e l er h = go (ltb (field t i 5) i) refl
  where
    n : next t q z ws vs m i e ≡ field t i 5
    n = rw h

    go : (b : Bool) → ltb (field t i 5) i ≡ b → runs t q z ws vs m i e ≡ runs t q z ws vs m r e
    go true p =
        let k : r ≡ field t i 5 = er ∙ rw p in
        runs-step t q z ws vs m i e l (omega (arith, n, ltb-true (field t i 5) i p)) ∙ ap (λ (j : ℕ). runs t q z ws vs m j e) (n ∙ sym k)
    go false p =
        let k : r ≡ 1 = er ∙ rw p in
        runs-stuck t q z ws vs m i e l (omega (arith, n, ltb-false (field t i 5) i p)) ∙ sym (ap (λ (j : ℕ). runs t q z ws vs m j e) k ∙ runs-1 t q z ws vs m e)

pub onward-low : (i m r : ℕ) → 2 ≤ i → r ≡ cond (ltb m i) m 1 → r ≤ i
onward-low i m r l er = go (ltb m i) refl
  where
    go : (b : Bool) → ltb m i ≡ b → r ≤ i
    go true p = let k : r ≡ m = er ∙ rw p in omega (arith, ltb-true m i p)
    go false p = let k : r ≡ 1 = er ∙ rw p in omega arith
