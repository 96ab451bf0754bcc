-- Targets in a list, and their cells.
use mathlib.Core.Path.{◌≡◌, refl, sym, ap, ap₂, ◌∙◌, subst}
use mathlib.Core.Bool.{Bool, true, false, not}
use mathlib.Core.List.{List}
use mathlib.Core.Option.{none, some}
use Prim.Native.Nat.{ℕ, zero, suc, ◌+◌, ◌-◌, ◌*◌, ◌≤◌, ◌<◌}
use native.Mathlib.Omega.{arith}
use native.Mathlib.Numerals.{sub-one, add-one}
use lib.IntN.{ℤ, pos}
use lib.ListN.{length, get_or, set, drop, length-set, get_or-eq_default}
use lib.Seq.{get_or-set_same, get_or-set_other}
use borrow.Author.Tests.{lt-ltb}
use Rattle.model.specs.Meaning.{Assignment, Rows, Value, whole, signed, cell, with_cell, target_row_with}
use Rattle.model.proofs.Tests.{not_yes, not-no, clash}
use Rattle.model.proofs.Rounding.{cell-whole}
use Rattle.kinds.specs.Places.{term_at}
use Rattle.kinds.specs.declared.TermRecord.{TermRecord}
use Rattle.kinds.specs.declared.TermRecord.TheVariants as T
use Rattle.numbers.specs.Memo.{knows}
use Rattle.numbers.specs.Numbers.{value_of, ratio_of}
use Rattle.numbers.specs.declared.Ratio.{Ratio}
use Rattle.sizes.specs.Decode.{decode_t}
use Rattle.sizes.specs.Parts.{targets_at}
use Rattle.walks.specs.Assigned.{assigned}
use Rattle.numbers.specs.Recalled.{value_by}
use Rattle.walks.proofs.Assigned.{get_or-inside}
use Rattle.branches.specs.Branches.{number, operand}
use Rattle.branches.proofs.Operands.{recalled-means, attribute-means, aggregate-means}
use Rattle.odometer.specs.declared.Plan.{Plan}
use Rattle.odometer.specs.Plan.{cells_by, cells_in, Listed, Put, Written, rows_below}
use Rattle.odometer.proofs.Steps.{one_cell}

-- the value of target i
abbrev pub value_in : List ℤ → List ℕ → ℕ → Assignment → Value
value_in m l i e = operand m (get_or l (2 * i) 0) (get_or l (2 * i + 1) 0) (pos 0) e

-- a target that was put into the list
module _ (m : List ℤ) (l l' : List ℕ) (i v a : ℕ) (el : l' ≡ set (set l (2 * i) v) (2 * i + 1) a) where
  pub put-before : (k : ℕ) → k < 2 * i → get_or l' k 0 ≡ get_or l k 0
  put-before k h = ap (λ (x : List ℕ). get_or x k 0) el ∙ get_or-set_other (set l (2 * i) v) (2 * i + 1) k a 0 (λ e. omega arith) ∙ get_or-set_other l (2 * i) k v 0 (λ e. omega arith)

  put-value : 2 * i + 2 ≤ length l → (e : Assignment) → operand m v a (pos 0) e ≡ value_in m l' i e
  put-value h e =
      let n = set l (2 * i) v in
      let first : get_or l' (2 * i) 0 ≡ v = ap (λ (x : List ℕ). get_or x (2 * i) 0) el ∙ get_or-set_other n (2 * i + 1) (2 * i) a 0 (λ k. omega arith) ∙ get_or-set_same l (2 * i) v 0 (omega arith) in
      let second : get_or l' (2 * i + 1) 0 ≡ a = ap (λ (x : List ℕ). get_or x (2 * i + 1) 0) el ∙ get_or-set_same n (2 * i + 1) a 0 (omega (arith, length-set l (2 * i) v)) in
      ap₂ (λ (x y : ℕ). operand m x y (pos 0) e) (sym first) (sym second)

  module _ (q : List ℕ) (n : ℕ) (r : TermRecord) (room : 2 * i + 2 ≤ length l) (nz : n ≡ 0 → ⊥) (er : r ≡ term_at q) where
    pub put-attribute : (w b : ℕ) → w < 256 → r ≡ T.Attribute w b → v ≡ w → a ≡ b → (z : List ℕ) (R : Rows) (e : Assignment) → value_by m (decode_t n q z) R e ≡ value_in m l' i e
    unfolding signed
    put-attribute w b g h ev ea z R e =
        attribute-means m q n r nz er (record { variable = w; attribute = b; low = 0; high = 0 }) w b g h refl z R e
        ∙ ap₂ (λ (x y : ℕ). operand m x y (pos 0) e) (sym ev) (sym ea) ∙ put-value room e

    pub put-aggregate : (f w s b u : ℕ) (k : Bool) → w < 256 → r ≡ T.Aggregate f w s b → k ≡ knows m w → not k ≡ false → u ≡ w → v ≡ u + 256 → a ≡ 0 → (z : List ℕ) (R : Rows) (e : Assignment) → value_by m (decode_t n q z) R e ≡ value_in m l' i e
    unfolding signed
    put-aggregate f w s b u k g h ek hk eu ev ea z R e =
        aggregate-means m q n r nz er (record { variable = u + 256; attribute = 0; low = 0; high = 0 }) f w s b h (recalled-means m w u k (record { variable = u + 256; attribute = 0; low = 0; high = 0 }) ek hk eu g refl) z R e
        ∙ ap₂ (λ (x y : ℕ). operand m x y (pos 0) e) (sym ev) (sym ea) ∙ put-value room e

-- the targets listed one after the other
cells_same : (m : List ℤ) (l l' : List ℕ) (n i : ℕ) (e : Assignment) → ((k : ℕ) → k < 2 * (i + n) → get_or l' k 0 ≡ get_or l k 0) → cells_in m l n i e ≡ cells_in m l' n i e
unfolding cells_in
cells_same m l l' zero i e h = refl
cells_same m l l' (suc n) i e h =
    ap₂ with_cell (sym (ap₂ (λ (x y : ℕ). operand m x y (pos 0) e) (h (2 * i) (omega arith)) (h (2 * i + 1) (omega arith)))) (cells_same m l l' n (suc i) e (λ k g. h k (omega arith)))

module _ (m : List ℤ) (q z : List ℕ) (left n i : ℕ) where
  pub list-none : (l : List ℕ) → left ≡ 0 → (R : Rows) (e : Assignment) → cells_by m (targets_at left n q z) R e ≡ cells_in m l left i e
  unfolding targets_at target_row_with cells_in
  list-none l h R e = rw h

  pub list-more : (l₁ l₂ u v : List ℕ) (k : ℕ) → (left ≡ 0 → ⊥) → ((z : List ℕ) (R : Rows) (e : Assignment) → value_by m (decode_t n q z) R e ≡ value_in m l₁ i e) → k ≡ get_or z 0 0 → u ≡ drop k q → v ≡ drop k z
      → ((j : ℕ) → j < 2 * (i + 1) → get_or l₂ j 0 ≡ get_or l₁ j 0) → ((R : Rows) (e : Assignment) → cells_by m (targets_at (left - 1) n u v) R e ≡ cells_in m l₂ (left - 1) (i + 1) e)
      → (R : Rows) (e : Assignment) → cells_by m (targets_at left n q z) R e ≡ cells_in m l₂ left i e
  unfolding targets_at target_row_with cells_in
  list-more l₁ l₂ u v k nz here ek eu ev same rest R e = go left nz rest
    where
      go : (c : ℕ) → (c ≡ 0 → ⊥) → ((R : Rows) (e : Assignment) → cells_by m (targets_at (c - 1) n u v) R e ≡ cells_in m l₂ (c - 1) (i + 1) e) → cells_by m (targets_at c n q z) R e ≡ cells_in m l₂ c i e
      go zero h f = absurd (h refl)
      go (suc c) h f =
          let first = here z R e ∙ sym (ap₂ (λ (x y : ℕ). operand m x y (pos 0) e) (same (2 * i) (omega arith)) (same (2 * i + 1) (omega arith))) in
          let others : cells_by m (targets_at c n (drop (get_or z 0 0) q) (drop (get_or z 0 0) z)) R e ≡ cells_in m l₂ c (suc i) e = sym (rw (sub-one, eu, ev, ek)) ∙ f R e ∙ rw (sub-one, add-one) in
          ap₂ with_cell first others

-- a list has no numbers behind it
pub no_number : (l : List ℕ) → length l ≤ 16 → number l 0 ≡ pos 0
unfolding signed
no_number l h = ap₂ (λ (a b : ℕ). signed a 0 b 0) (get_or-eq_default l 0 (omega arith)) (get_or-eq_default l 0 (omega arith))

-- one cell read
module _ (m : List ℤ) (l e : List ℕ) (vs : List ℤ) (i : ℕ) (row y : List ℤ) where
  pub cell-attribute : (v a place : ℕ) (t c : ℤ) → v ≡ get_or l (2 * i) 0 → v < 256 → 256 ≤ length e → place ≡ get_or e v 0 → a ≡ get_or l (2 * i + 1) 0 → t ≡ get_or vs (place + a) (pos 0) → c ≡ t → y ≡ set row i c
      → Put true row i y (value_in m l i (assigned vs e))
  cell-attribute v a place t c ev h g ep ea et ec ey =
      let value : some (whole t) ≡ value_in m l i (assigned vs e) =
      ap (λ (x : ℤ). some (whole x)) (et ∙ ap₂ (λ (p b : ℕ). get_or vs (p + b) (pos 0)) (ep ∙ get_or-inside e v 0 (length vs) (omega arith)) ea)
      ∙ sym (rw (lt-ltb v 256 h))
      ∙ ap (λ (w : ℕ). operand m w (get_or l (2 * i + 1) 0) (pos 0) (assigned vs e)) ev in
      subst (Put true row i y) value (refl, ey ∙ ap (set row i) (ec ∙ sym (cell-whole t)))

  module _ (r : Ratio) (x : ℤ) (er : value_of r ≡ operand m (get_or l (2 * i) 0) (get_or l (2 * i + 1) 0) x (assigned vs e)) (ex : x ≡ pos 0) where
    by_side : value_of r ≡ value_in m l i (assigned vs e)
    by_side = er ∙ ap (λ (k : ℤ). operand m (get_or l (2 * i) 0) (get_or l (2 * i + 1) 0) k (assigned vs e)) ex

    pub cell-nothing : value_of r ≡ none → Put false row i y (value_in m l i (assigned vs e))
    cell-nothing h = subst (Put false row i y) (sym h ∙ by_side) refl

    pub cell-value : (c : ℤ) → value_of r ≡ some (ratio_of r) → c ≡ cell (ratio_of r) → y ≡ set row i c → Put true row i y (value_in m l i (assigned vs e))
    cell-value c h ec ey = subst (Put true row i y) (sym h ∙ by_side) (refl, ey ∙ ap (set row i) ec)

-- the cells of a list, one after the other: once those from i on are written, all are
module _ (m : List ℤ) (l : List ℕ) (n : ℕ) (e : Assignment) (row₀ : List ℤ) where
  abbrev pub Rest : List ℤ → ℕ → Type 0
  Rest row i = (b : Bool) (w : List ℤ) → Written b row i w (cells_in m l (n - i) i e) → Written b row₀ 0 w (cells_in m l n 0 e)

  pub rest-start : Rest row₀ 0
  rest-start b w h = let k : n - 0 ≡ n = omega arith in subst (λ (j : ℕ). Written b row₀ 0 w (cells_in m l j 0 e)) k h

  module _ (row : List ℤ) (i : ℕ) (rest : Rest row i) where
    pub rest_end : n ≤ i → Written true row₀ 0 row (cells_in m l n 0 e)
    unfolding cells_in
    rest_end h = let k : n - i ≡ 0 = omega arith in rest true row (rw k (refl, refl))

    module _ (b : Bool) (y : List ℤ) (low : i < n) (put : Put b row i y (value_in m l i e)) where
      from-here : cells_in m l (n - i) i e ≡ with_cell (value_in m l i e) (cells_in m l (n - (i + 1)) (i + 1) e)
      unfolding cells_in
      from-here = let k : n - i ≡ suc (n - (i + 1)) = omega arith in rw (k, add-one i)

      pub rest-nothing : not b ≡ true → Written false row₀ 0 y (cells_in m l n 0 e)
      rest-nothing h = rest false y (subst (Written false row i y) (sym from-here) (go (value_in m l i e) put))
        where
          go : (v : Value) → Put b row i y v → Written false row i y (with_cell v (cells_in m l (n - (i + 1)) (i + 1) e))
          go none k = refl
          go (some x) k = clash (sym (not_yes b h) ∙ k.0)

      pub rest_more : not b ≡ false → Rest y (i + 1)
      rest_more h c w g = rest c w (subst (Written c row i w) (sym from-here) (go (value_in m l i e) put))
        where
          go : (v : Value) → Put b row i y v → Written c row i w (with_cell v (cells_in m l (n - (i + 1)) (i + 1) e))
          go none k = clash (sym k ∙ not-no b h)
          go (some x) k = one_cell c row y w i x (cells_in m l (n - (i + 1)) (i + 1) e) k.1 g

-- the plan with its list, before the first row
abbrev pub marked : Plan → Bool → Plan
marked p b = record { targets = p.targets; columns = p.columns; level = p.level; listed = b; left = p.left; depth = p.depth; front = p.front; rows = 0; full = false }

module _ (p : Plan) (b : Bool) where
  pub targets-listed : (q z u v l : List ℕ) (m : List ℤ) → u ≡ drop p.targets q → v ≡ drop p.targets z
      → (b ≡ true → (R : Rows) (e : Assignment) → cells_by m (targets_at p.columns p.level u v) R e ≡ cells_in m l p.columns 0 e) → Listed l (marked p b) q z m
  targets-listed q z u v l m eu ev h k R e = sym (rw (eu, ev)) ∙ h k R e

  -- it gives the same rows
  pub rows-marked : (t q z ws : List ℕ) (vs m : List ℤ) (e : Assignment) → rows_below (marked p b) t q z ws vs m e ≡ rows_below p t q z ws vs m e
  unfolding rows_below
  rows-marked t q z ws vs m e = refl
