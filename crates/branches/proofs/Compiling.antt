-- One branch written for a condition.
use Prim.Native.Nat.{ℕ, ◌+◌, ◌*◌, ◌≤◌, ◌<◌}
use mathlib.Core.Bool.{Bool, true, false, cond}
use mathlib.Core.List.{List, [], ◌∷◌}
use mathlib.Core.Path.{◌≡◌, refl, sym, ap, ap₂, ◌∙◌, subst, fun_ext}
use native.Mathlib.Omega.{arith}
use lib.IntN.{ℤ}
use lib.ListN.{length, get_or, drop}
use lib.Seq.{sets}
use borrow.Author.Tests.{ne_eqb, lt-ltb}
use Rattle.model.specs.Lists.{update, any}
use Rattle.model.specs.Syntax.{Condition, SOME}
use Rattle.model.specs.Meaning.{Tuple, Assignment, holds_with, signed}
use Rattle.sizes.specs.Decode.{decode}
use Rattle.numbers.specs.Recalled.{holds_by}
use Rattle.walks.specs.Walks.{walked, rows_by}
use Rattle.branches.specs.Branches.{field, number, holds_in, branch_holds, next, runs}
use Rattle.branches.specs.Compiled.{Compares, comparing, halves_of, placing, Kept, Compiled}
use Rattle.branches.specs.declared.Comparison.{Comparison}
use Rattle.branches.proofs.Running.{runs-0, runs-1, runs-step, runs-kept, kept-both}
use Rattle.branches.proofs.Writing.{sets-before, sets-after, sets-at}

-- eight numbers written for branch k leave what stands before it, and the numbers
eight-kept : (k : ℕ) (t t' : List ℕ) (o a b c d met unmet : ℕ) → t' ≡ sets t (8 * k) (o ∷ a ∷ b ∷ c ∷ d ∷ met ∷ unmet ∷ 0 ∷ []) → k < 64 → Kept k t t'
eight-kept k t t' o a b c d met unmet et hk =
    record {
      fields = λ i h. ap (λ (y : List ℕ). get_or y i 0) et ∙ sets-before 0 (o ∷ a ∷ b ∷ c ∷ d ∷ met ∷ unmet ∷ 0 ∷ []) t (8 * k) i h;
      numbers = λ i h. ap (λ (y : List ℕ). get_or y (512 + i) 0) et ∙ sets-after 0 (o ∷ a ∷ b ∷ c ∷ d ∷ met ∷ unmet ∷ 0 ∷ []) t (8 * k) (512 + i) (omega arith);
    }

-- branch k holds where c holds, and leads to met or to unmet
module _ (k met unmet : ℕ) (t t' q z : List ℕ) (m : List ℤ) (c : Condition) (h : Kept k t t')
    (low : 2 ≤ k) (hm : met < k) (hu : unmet < k) (em : field t' k 5 ≡ met) (eu : field t' k 6 ≡ unmet)
    (holds : (ws : List ℕ) (vs : List ℤ) (e : Assignment) → branch_holds t' q z ws vs m k e ≡ holds_by m c (rows_by ws vs) e) where
  leads-to : (ws : List ℕ) (vs : List ℤ) (e : Assignment) (n : ℕ) → n < k → next t' q z ws vs m k e ≡ n → runs t' q z ws vs m k e ≡ runs t q z ws vs m n e
  leads-to ws vs e n g p = runs-step t' q z ws vs m k e low (subst (λ (j : ℕ). j < k) (sym p) g) ∙ ap (λ (j : ℕ). runs t' q z ws vs m j e) p ∙ runs-kept k t t' q z ws vs m h n e g

  decides : (ws : List ℕ) (vs : List ℤ) (e : Assignment) (b : Bool) → branch_holds t' q z ws vs m k e ≡ b → runs t' q z ws vs m k e ≡ cond b (runs t q z ws vs m met e) (runs t q z ws vs m unmet e)
  decides ws vs e true p = leads-to ws vs e met hm (rw p em)
  decides ws vs e false p = leads-to ws vs e unmet hu (rw p eu)

  one-branch : Compiled k k met unmet t t' q z m c
  one-branch = record { kept = h; means = λ ws vs e. decides ws vs e (holds_by m c (rows_by ws vs) e) (holds ws vs e) }

-- a condition by its place
module _ (k met unmet : ℕ) (t t' q z : List ℕ) (m : List ℤ) (place l : ℕ)
    (et : t' ≡ sets t (8 * k) (placing place l met unmet)) (rt : 768 ≤ length t) (hk : k < 64) where
  at_place : (j : ℕ) → j < 8 → field t' k j ≡ get_or (placing place l met unmet) j 0
  at_place j h = ap (λ (y : List ℕ). get_or y (8 * k + j) 0) et ∙ sets-at 0 (placing place l met unmet) t (8 * k) j (omega arith) h

  says : (ws : List ℕ) (vs : List ℤ) (e : Assignment) → branch_holds t' q z ws vs m k e ≡ holds_by m (decode l (drop place q) (drop place z)) (rows_by ws vs) e
  unfolding branch_holds holds_in
  says ws vs e = rw (at_place 0 (omega arith), at_place 1 (omega arith), at_place 2 (omega arith))

  pub placed : 2 ≤ k → met < k → unmet < k → Compiled k k met unmet t t' q z m (decode l (drop place q) (drop place z))
  placed low hm hu =
      one-branch k met unmet t t' q z m (decode l (drop place q) (drop place z))
      (eight-kept k t t' 0 place l 0 0 met unmet et hk)
      low hm hu (at_place 5 (omega arith)) (at_place 6 (omega arith)) says

-- a comparison
module _ (k met unmet : ℕ) (t t' t'' q z u w : List ℕ) (m : List ℤ) (place l o : ℕ) (x : Comparison)
    (eo : o ≡ x.operator) (et : t' ≡ sets t (8 * k) (o ∷ x.left.variable ∷ x.left.attribute ∷ x.right.variable ∷ x.right.attribute ∷ met ∷ unmet ∷ 0 ∷ []))
    (rt : 768 ≤ length t) (rt' : 768 ≤ length t') (hk : k < 64) (ex : t'' ≡ sets t' (512 + 4 * k) (halves_of x))
    (eu : u ≡ drop place q) (ew : w ≡ drop place z) (ec : Compares x m (decode l u w)) (low : x.operator ≡ 256 → ⊥) where
  is_x : t' ≡ sets t (8 * k) (comparing x met unmet)
  is_x = et ∙ ap (λ (n : ℕ). sets t (8 * k) (n ∷ x.left.variable ∷ x.left.attribute ∷ x.right.variable ∷ x.right.attribute ∷ met ∷ unmet ∷ 0 ∷ [])) eo

  before-numbers : (i : ℕ) → i < 512 + 4 * k → get_or t'' i 0 ≡ get_or t' i 0
  before-numbers i h = ap (λ (y : List ℕ). get_or y i 0) ex ∙ sets-before 0 (halves_of x) t' (512 + 4 * k) i h

  at-comparison : (j : ℕ) → j < 8 → field t'' k j ≡ get_or (comparing x met unmet) j 0
  at-comparison j h = before-numbers (8 * k + j) (omega arith) ∙ ap (λ (y : List ℕ). get_or y (8 * k + j) 0) is_x ∙ sets-at 0 (comparing x met unmet) t (8 * k) j (omega arith) h

  at-number : (i j : ℕ) → i ≡ 512 + 4 * k + j → j < 4 → get_or t'' i 0 ≡ get_or (halves_of x) j 0
  at-number i j e h = ap₂ (λ (y : List ℕ) (n : ℕ). get_or y n 0) ex e ∙ sets-at 0 (halves_of x) t' (512 + 4 * k) j (omega arith) h

  left : number t'' (2 * k) ≡ signed x.left.low 0 x.left.high 0
  left = ap₂ (λ (a b : ℕ). signed a 0 b 0) (at-number (512 + 2 * (2 * k)) 0 (omega arith) (omega arith)) (at-number (513 + 2 * (2 * k)) 1 (omega arith) (omega arith))

  right : number t'' (2 * k + 1) ≡ signed x.right.low 0 x.right.high 0
  right = ap₂ (λ (a b : ℕ). signed a 0 b 0) (at-number (512 + 2 * (2 * k + 1)) 2 (omega arith) (omega arith)) (at-number (513 + 2 * (2 * k + 1)) 3 (omega arith) (omega arith))

  compared-says : (ws : List ℕ) (vs : List ℤ) (e : Assignment) → branch_holds t'' q z ws vs m k e ≡ holds_by m (decode l (drop place q) (drop place z)) (rows_by ws vs) e
  unfolding branch_holds holds_in
  compared-says ws vs e =
      rw (at-comparison 0 (omega arith), at-comparison 1 (omega arith), at-comparison 2 (omega arith), at-comparison 3 (omega arith), at-comparison 4 (omega arith), left, right, ne_eqb x.operator 0 ec.nonzero, ne_eqb x.operator 256 low)
      (sym (ap₂ (λ (y v : List ℕ). holds_by m (decode l y v) (rows_by ws vs) e) (sym eu) (sym ew) ∙ ec.holds (rows_by ws vs) e))

  pub compared : 2 ≤ k → met < k → unmet < k → Compiled k k met unmet t t'' q z m (decode l (drop place q) (drop place z))
  compared low hm hu =
      one-branch k met unmet t t'' q z m (decode l (drop place q) (drop place z))
      (kept-both k k t t' t'' (omega arith) (eight-kept k t t' _ _ _ _ _ met unmet et hk) (record { fields = λ i c. before-numbers i (omega arith); numbers = λ i c. before-numbers (512 + i) (omega arith) }))
      low hm hu (at-comparison 5 (omega arith)) (at-comparison 6 (omega arith)) compared-says

-- some row: branch r, which leads to 0 where c holds and to 1 where it does not, and after it a branch that searches for a row
module _ (k r met unmet v g : ℕ) (t t' t'' q z : List ℕ) (m : List ℤ) (c w : Condition) (ew : w ≡ SOME v g c) (byte : v < 256) (low : 2 ≤ k) (le : k ≤ r) (hm : met < k) (hu : unmet < k)
    (inner : Compiled k r 0 1 t t' q z m c) (u : ℕ) (eu : u ≡ v) (et : t'' ≡ sets t' (8 * (r + 1)) (256 ∷ u ∷ r ∷ 0 ∷ 0 ∷ met ∷ unmet ∷ 0 ∷ [])) (rt : 768 ≤ length t') (hr : r + 1 < 64) where
  at-search : (j : ℕ) → j < 8 → field t'' (r + 1) j ≡ get_or (256 ∷ v ∷ r ∷ 0 ∷ 0 ∷ met ∷ unmet ∷ 0 ∷ []) j 0
  at-search j h = ap (λ (y : List ℕ). get_or y (8 * (r + 1) + j) 0) et ∙ sets-at 0 (256 ∷ u ∷ r ∷ 0 ∷ 0 ∷ met ∷ unmet ∷ 0 ∷ []) t' (8 * (r + 1)) j (omega arith) h ∙ ap (λ (a : ℕ). get_or (256 ∷ a ∷ r ∷ 0 ∷ 0 ∷ met ∷ unmet ∷ 0 ∷ []) j 0) eu

  after : Kept (r + 1) t' t''
  after = eight-kept (r + 1) t' t'' 256 u r 0 0 met unmet et hr

  inside : (ws : List ℕ) (vs : List ℤ) (e : Assignment) → runs t'' q z ws vs m r e ≡ holds_by m c (rows_by ws vs) e
  inside ws vs e =
      runs-kept (r + 1) t' t'' q z ws vs m after r e (omega arith) ∙ inner.means ws vs e
      ∙ ap₂ (cond (holds_by m c (rows_by ws vs) e)) (runs-0 t q z ws vs m e) (runs-1 t q z ws vs m e) ∙ as_is (holds_by m c (rows_by ws vs) e)
    where
      as_is : (b : Bool) → cond b true false ≡ b
      as_is true = refl
      as_is false = refl

  searches : (ws : List ℕ) (vs : List ℤ) (e : Assignment) → branch_holds t'' q z ws vs m (r + 1) e ≡ holds_by m (SOME v g c) (rows_by ws vs) e
  unfolding branch_holds holds_in holds_with
  searches ws vs e =
      let l : r < r + 1 = omega arith in
      rw (at-search 0 (omega arith), at-search 1 (omega arith), at-search 2 (omega arith), lt-ltb r (r + 1) l, lt-ltb v 256 byte) (ap (λ (p : Tuple → Bool). any p (walked ws vs v)) (fun_ext λ x. inside ws vs (update e v x)))

  pub searched : Compiled k (r + 1) met unmet t t'' q z m w
  searched = subst (Compiled k (r + 1) met unmet t t'' q z m) (sym ew) (record { kept = kept-both k (r + 1) t t' t'' (omega arith) inner.kept after; means = λ ws vs e. one ws vs e })
    where
      outer : Compiled (r + 1) (r + 1) met unmet t' t'' q z m (SOME v g c)
      outer = one-branch (r + 1) met unmet t' t'' q z m (SOME v g c) after (omega arith) (omega arith) (omega arith) (at-search 5 (omega arith)) (at-search 6 (omega arith)) searches

      one : (ws : List ℕ) (vs : List ℤ) (e : Assignment) → runs t'' q z ws vs m (r + 1) e ≡ cond (holds_by m (SOME v g c) (rows_by ws vs) e) (runs t q z ws vs m met e) (runs t q z ws vs m unmet e)
      one ws vs e = outer.means ws vs e ∙ ap₂ (cond (holds_by m (SOME v g c) (rows_by ws vs) e)) (runs-kept k t t' q z ws vs m inner.kept met e hm) (runs-kept k t t' q z ws vs m inner.kept unmet e hu)
