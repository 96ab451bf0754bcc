-- The numbers of a table as the code reads them.
use mathlib.Core.Path.{◌≡◌, sym, ap, ◌∙◌}
use mathlib.Core.List.{List}
use Prim.Native.Nat.{ℕ, suc, ◌+◌, ◌-◌, ◌*◌}
use lib.ListN.{get_or}
use borrow.Author.Tests.{eq-eqb, ne_eqb}
use Rattle.walks.specs.declared.Walk.{Walk}
use mathlib.Core.Bool.{cond}
use lib.Dec.{eqb}
use Rattle.walks.specs.Walks.{walk_of, place_at}

pub walk_is : (ws : List ℕ) (v k i s n l h w : ℕ) → k ≡ v → i ≡ 8 * k → s ≡ get_or ws i 0 → n ≡ get_or ws (i + 1) 0 → l ≡ get_or ws (i + 2) 0 → h ≡ get_or ws (i + 3) 0 → w ≡ get_or ws (i + 4) 0
    → record { start = s; count = n; base = l + 65536 * h; width = w } ≡ walk_of ws v
walk_is ws v k i s n l h w ek ei es en el eh ew = rw (es, en, el, eh, ew, ei, ek)

-- the number of a row, from the last one on and by a list
module _ (ws : List ℕ) (s n i r : ℕ) where
  pub row_last : s ≡ 1 → r ≡ n - suc i → r ≡ cond (eqb s 1) (n - suc i) (get_or ws (s + i) 0)
  row_last e er = er ∙ sym (rw (eq-eqb s 1 e))

  pub row_listed : (s ≡ 1 → ⊥) → r ≡ get_or ws (s + i) 0 → r ≡ cond (eqb s 1) (n - suc i) (get_or ws (s + i) 0)
  row_listed k e = e ∙ sym (rw (ne_eqb s 1 k))

-- a row's place, in order and else
module _ (ws : List ℕ) (x : Walk) (i : ℕ) where
  pub place-plain : x.start ≡ 0 → x.base + i * x.width ≡ place_at ws x i
  unfolding place_at
  place-plain h = sym (rw (eq-eqb x.start 0 h))

  pub place_is : (r : ℕ) → (x.start ≡ 0 → ⊥) → r ≡ cond (eqb x.start 1) (x.count - suc i) (get_or ws (x.start + i) 0) → x.base + r * x.width ≡ place_at ws x i
  unfolding place_at
  place_is r h e = ap (λ n. x.base + n * x.width) (e ∙ sym (rw (ne_eqb x.start 0 h)))
