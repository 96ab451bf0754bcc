-- Two rows compared cell by cell, and a row with the stored ones.
use mathlib.Core.Path.{◌≡◌, refl, sym, ap, subst, ◌∙◌}
use mathlib.Core.Bool.{Bool, true, false, ◌&&◌}
use mathlib.Core.List.{List, [], ◌∷◌, ◌++◌}
use Prim.Native.Nat.{ℕ, zero, suc, ◌+◌, ◌-◌, ◌*◌, ◌≤◌, ◌<◌}
use native.Mathlib.Nat.{mul-le-mul, le_refl}
use native.Mathlib.Omega.{arith}
use lib.IntN.{ℤ, pos}
use lib.ListN.{length, get_or, take, drop, length-take, length-drop}
use lib.Seq.{drop-drop}
use lib.Signed.{le_z}
use lib.Dec.{eqb}
use borrow.Author.Tests.{eqb-true, eqb-false}
use Rattle.std.proofs.lemmas.List.{ext_get_or}
use Rattle.model.proofs.Monotone.{same-equal, same_refl}
use Rattle.model.specs.Meaning.{same_row}
use Rattle.model.specs.Search.{Search}
use Rattle.model.proofs.Tests.{clash, and-inv}
use Rattle.model.proofs.Search.{NoneBelow, search-hit, search-none, search-found, search-missed, tried-most}
use Rattle.rows.specs.Buffer.{stored, stored_rows, sought}
use Rattle.rows.specs.Chains.{row_at}

-- equal rows have as many cells
same_length : (x y : List ℤ) → same_row x y ≡ true → length x ≡ length y
unfolding same_row
same_length [] [] h = refl
same_length [] (b ∷ y) h = clash h
same_length (a ∷ x) [] h = clash h
same_length (a ∷ x) (b ∷ y) h = ap suc (same_length x y (and-inv (le_z a b && le_z b a) (same_row x y) h).1)

-- one cell more that agrees
pub agree-on : (x y : List ℤ) (i : ℕ) → ((j : ℕ) → j < i → get_or x j (pos 0) ≡ get_or y j (pos 0)) → get_or x i (pos 0) ≡ get_or y i (pos 0) → (j : ℕ) → j < i + 1 → get_or x j (pos 0) ≡ get_or y j (pos 0)
agree-on x y i h e j l = go (eqb j i) refl
  where
    go : (b : Bool) → eqb j i ≡ b → get_or x j (pos 0) ≡ get_or y j (pos 0)
    go true k = let n : j ≡ i = eqb-true j i k in ap (λ (m : ℕ). get_or x m (pos 0)) n ∙ e ∙ ap (λ (m : ℕ). get_or y m (pos 0)) (sym n)
    go false k = h j (omega (arith, l, eqb-false j i k))

-- rows of as many cells, compared one after the other: the first i agree
module _ (x y : List ℤ) (l : length x ≡ length y) where
  pub same-cells : ((j : ℕ) → j < length x → get_or x j (pos 0) ≡ get_or y j (pos 0)) → true ≡ same_row x y
  same-cells h = let e : x ≡ y = ext_get_or (pos 0) x y l h in sym (subst (λ (z : List ℤ). same_row x z ≡ true) e (same_refl x))

  pub same-differs : (i : ℕ) → (get_or x i (pos 0) ≡ get_or y i (pos 0) → ⊥) → false ≡ same_row x y
  same-differs i h = go (same_row x y) refl
    where
      go : (b : Bool) → same_row x y ≡ b → false ≡ b
      go true e = absurd (h (ap (λ (z : List ℤ). get_or z i (pos 0)) (same-equal x y e)))
      go false e = refl

pub same-lengths : (x y : List ℤ) → (length x ≡ length y → ⊥) → false ≡ same_row x y
same-lengths x y h = go (same_row x y) refl
  where
    go : (b : Bool) → same_row x y ≡ b → false ≡ b
    go true e = absurd (h (same_length x y e))
    go false e = refl

-- the stored rows by their numbers
module _ (x : List ℤ) where
  -- whether row j equals it
  abbrev pub same_at : List ℤ → ℕ → Bool
  same_at c j = same_row x (row_at (length x) c j)

  row_first : (c : List ℤ) → row_at (length x) c 0 ≡ take (length x) c
  row_first c = let e : 0 * length x ≡ 0 = omega arith in rw e

  row-later : (c : List ℤ) (j : ℕ) → row_at (length x) c (suc j) ≡ row_at (length x) (drop (length x) c) j
  row-later c j =
      let e : suc j * length x ≡ length x + j * length x = omega arith in
      ap (λ (k : ℕ). take (length x) (drop k c)) e ∙ ap (take (length x)) (sym (drop-drop (j * length x) (length x) c))

  pub row_count : (n : ℕ) (c : List ℤ) → length (stored_rows (length x) n c) ≡ n
  unfolding stored_rows
  row_count zero c = refl
  row_count (suc n) c = ap suc (row_count n (drop (length x) c))

  row_is : (n j : ℕ) (c : List ℤ) → j < n → get_or (stored_rows (length x) n c) j [] ≡ row_at (length x) c j
  unfolding stored_rows
  row_is zero j c h = absurd (omega arith)
  row_is (suc n) zero c h = sym (row_first c)
  row_is (suc n) (suc j) c h = row_is n j (drop (length x) c) (omega arith) ∙ sym (row-later c j)

  -- rows before j differ from it and row j does not, or all differ
  pub sought-hit : (n j : ℕ) (c : List ℤ) → j < n → NoneBelow (same_at c) j → same_at c j ≡ true → sought n c x ≡ record { found = true; tried = j + 1 }
  sought-hit n j c l h e =
      search-hit (same_row x) (stored_rows (length x) n c) [] j (omega (arith, row_count n c)) (λ i k. ap (same_row x) (row_is n i c (omega arith)) ∙ h i k) (ap (same_row x) (row_is n j c l) ∙ e)

  pub sought-none : (n : ℕ) (c : List ℤ) → NoneBelow (same_at c) n → sought n c x ≡ record { found = false; tried = n }
  sought-none n c h =
      search-none (same_row x) (stored_rows (length x) n c) [] (λ i k. let l : i < n = omega (arith, row_count n c) in ap (same_row x) (row_is n i c l) ∙ h i l)
      ∙ ap (λ (m : ℕ). record { found = false; tried = m }) (row_count n c)

  pub sought-most : (n : ℕ) (c : List ℤ) → (sought n c x).tried ≤ n
  sought-most n c = omega (arith, tried-most (same_row x) (stored_rows (length x) n c), row_count n c)

  -- s is what a search gave
  module _ (n : ℕ) (c : List ℤ) (s : Search) (es : s ≡ sought n c x) where
    pub sought-stored : (b : Bool) → s.found ≡ b → stored n c x ≡ b
    sought-stored b h = sym (search-found (same_row x) (stored_rows (length x) n c)) ∙ ap (λ (r : Search). r.found) (sym es) ∙ h

    -- a row that is not found differs from all
    pub sought-missed : s.found ≡ false → NoneBelow (same_at c) n
    sought-missed h j l =
        ap (same_row x) (sym (row_is n j c l))
        ∙ search-missed (same_row x) (stored_rows (length x) n c) [] (ap (λ (r : Search). r.found) (sym es) ∙ h) j (omega (arith, row_count n c))

  -- past the end no row is whole
  pub rows_short : (c : List ℤ) (at i j : ℕ) → at ≡ i * length x → length c - at < length x → i ≤ j → same_at c j ≡ false
  rows_short c at i j e h k = sym (same-lengths x (row_at (length x) c j) (λ p. omega (arith, length-take (length x) (drop (j * length x) c), length-drop (j * length x) c, mul-le-mul k (le_refl (length x)))))

  -- the first m rows, and those after them
  pub rows_split : (m k n : ℕ) (c : List ℤ) → n ≡ m + k → stored_rows (length x) n c ≡ stored_rows (length x) m c ++ stored_rows (length x) k (drop (m * length x) c)
  unfolding stored_rows
  rows_split zero k n c e =
      let e₁ : n ≡ k = omega arith in
      let e₂ : 0 * length x ≡ 0 = omega arith in
      rw (e₁, e₂)
  rows_split (suc m) k n c e =
      let e₁ : n ≡ suc (m + k) = omega arith in
      let e₂ : suc m * length x ≡ length x + m * length x = omega arith in
      rw (e₁, e₂) (ap (λ (l : List (List ℤ)). take (length x) c ∷ l) (rows_split m k (m + k) (drop (length x) c) refl ∙ ap (λ (d : List ℤ). stored_rows (length x) m (drop (length x) c) ++ stored_rows (length x) k d) (drop-drop (m * length x) (length x) c)))
