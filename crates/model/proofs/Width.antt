-- Each row of an answer has a cell for each target.
use Prim.Native.Nat.{ℕ, suc}
use mathlib.Core.Bool.{Bool, true, false}
use mathlib.Core.List.{List, [], ◌∷◌, ◌++◌, map}
use mathlib.Core.Option.{Option, none, some}
use mathlib.Core.Path.{◌≡◌, refl, sym, ◌∙◌, ap}
use native.Mathlib.Omega.{arith}
use lib.IntN.{ℤ}
use lib.ListN.{length}
use Rattle.model.specs.Lists.{any, present, Every}
use Rattle.model.specs.Syntax.{Term, Query}
use Rattle.model.specs.Meaning.{Assignment, Rows, Value, cell, Known, unknown, value_with, with_cell, target_row, same_row, add_row, add_rows, qualifying, rows_met, answers, target_row_with}
use Rattle.model.proofs.Lists.{every-join}

abbrev pub Wide : ℕ → List ℤ → Type 0
Wide k x = length x ≡ k

module _ (P : List ℤ → Type 0) where
  every-add_row : (rows : List (List ℤ)) (x : List ℤ) → Every P rows → P x → Every P (add_row rows x)
  unfolding add_row Every
  every-add_row rows x h k = go (any (same_row x) rows)
    where
      go : (b : Bool) → Every P (elim b [ true ↦ rows | false ↦ rows ++ (x ∷ []) ])
      go true = h
      go false = every-join P rows (x ∷ []) h (k, tt)

  every-add_rows : (rows xs : List (List ℤ)) → Every P rows → Every P xs → Every P (add_rows rows xs)
  unfolding add_rows Every
  every-add_rows rows [] h k = h
  every-add_rows rows (x ∷ xs) h k = every-add_rows (add_row rows x) xs (every-add_row rows x h k.0) k.1

pub row-wide : (known : Known) (ts : List Term) (R : Rows) (e : Assignment) (x : List ℤ) → target_row_with known ts R e ≡ some x → length x ≡ length ts
unfolding target_row_with
row-wide known [] R e x h = let k : [] ≡ x = cc in sym (ap length k)
row-wide known (t ∷ ts) R e x h = go (value_with known t R e) (target_row_with known ts R e) (λ row g. row-wide known ts R e row g) h
  where
    go : (v : Value) (row : Option (List ℤ)) → ((xs : List ℤ) → row ≡ some xs → length xs ≡ length ts) → with_cell v row ≡ some x → length x ≡ suc (length ts)
    go none row g k = let z : ◌≡◌ {A = ℕ} 0 1 = cc in absurd (omega arith)
    go (some y) none g k = let z : ◌≡◌ {A = ℕ} 0 1 = cc in absurd (omega arith)
    go (some y) (some row) g k = let l : cell y ∷ row ≡ x = cc in sym (ap length l) ∙ ap suc (g row refl)

present-every : (P : List ℤ → Type 0) (f : Assignment → Option (List ℤ)) → ((e : Assignment) (x : List ℤ) → f e ≡ some x → P x) → (es : List Assignment) → Every P (present (map f es))
unfolding present Every
present-every P f k [] = tt
present-every P f k (e ∷ es) = go (f e) refl (present-every P f k es)
  where
    go : (row : Option (List ℤ)) → f e ≡ row → Every P (present (map f es)) → Every P (present (row ∷ map f es))
    go none g h = h
    go (some x) g h = (k e x g, h)

pub rows-wide : (q : Query) (R : Rows) → Every (Wide (length q.targets)) (rows_met q R)
unfolding rows_met
rows-wide q R = present-every (Wide (length q.targets)) (target_row q.targets R) (λ e x h. row-wide unknown q.targets R e x h) (qualifying q R)

pub answers-wide : (q : Query) (R : Rows) → Every (Wide (length q.targets)) (answers q R)
unfolding answers Every
answers-wide q R = every-add_rows (Wide (length q.targets)) [] (rows_met q R) tt (rows-wide q R)
