-- The rows of a list of cells, from a place on.
use mathlib.Core.Path.{◌≡◌, refl, sym, ap, ◌∙◌}
use mathlib.Core.Bool.{true, false, ◌&&◌}
use mathlib.Core.List.{List, [], ◌∷◌}
use Prim.Native.Nat.{ℕ, ◌+◌, ◌-◌, ◌<◌}
use native.Mathlib.Omega.{arith}
use native.Mathlib.Numerals.{add-one}
use lib.IntN.{ℤ, pos}
use lib.ListN.{length, drop, get_or, length-drop}
use lib.Seq.{drop-cons}
use Rattle.model.specs.Lists.{all}
use Rattle.model.specs.Book.{Row, rows_in, in_range}

no_row : (cells : List ℤ) → length cells < 3 → rows_in cells ≡ []
unfolding rows_in
no_row [] h = refl
no_row (a ∷ []) h = refl
no_row (a ∷ b ∷ []) h = refl
no_row (a ∷ b ∷ c ∷ cells) h = absurd (omega arith)

pub rows_end : (cells : List ℤ) (k : ℕ) → length cells - k < 3 → rows_in (drop k cells) ≡ []
rows_end cells k h = no_row (drop k cells) (omega (arith, length-drop k cells))

-- the row whose cells stand at k
abbrev pub row_at : List ℤ → ℕ → Row
row_at cells k = record { label = get_or cells k (pos 0); offer = get_or cells (k + 1) (pos 0); price = get_or cells (k + 2) (pos 0) }

next : (cells : List ℤ) (k n : ℕ) → k < length cells → n ≡ k + 1 → drop k cells ≡ get_or cells k (pos 0) ∷ drop n cells
next cells k n h e = drop-cons cells k (pos 0) h ∙ ap (λ (m : ℕ). get_or cells k (pos 0) ∷ drop m cells) (sym (add-one k) ∙ sym e)

pub rows_next : (cells : List ℤ) (k : ℕ) → k + 2 < length cells → rows_in (drop k cells) ≡ row_at cells k ∷ rows_in (drop (k + 3) cells)
unfolding rows_in
rows_next cells k h =
    rw (next cells k (k + 1) (omega arith) refl, next cells (k + 1) (k + 2) (omega arith) (omega arith), next cells (k + 2) (k + 3) (omega arith) (omega arith))

-- whether all from k on are in range
module _ (cells : List ℤ) (k : ℕ) where
  pub all_end : length cells - k < 3 → all in_range (rows_in (drop k cells)) ≡ true
  unfolding all
  all_end h = ap (all in_range) (rows_end cells k h)

  module _ (h : k + 2 < length cells) where
    all-next : all in_range (rows_in (drop k cells)) ≡ in_range (row_at cells k) && all in_range (rows_in (drop (k + 3) cells))
    unfolding all
    all-next = ap (all in_range) (rows_next cells k h)

    pub all-less : in_range (row_at cells k) ≡ false → all in_range (rows_in (drop k cells)) ≡ false
    all-less e = all-next ∙ rw e

    pub all_more : in_range (row_at cells k) ≡ true → all in_range (rows_in (drop k cells)) ≡ all in_range (rows_in (drop (k + 3) cells))
    all_more e = all-next ∙ rw e
