-- Laws for a loop over rows whose places are P 0, P 1 and so on, by the rows that were passed: a search knows that none of them was a hit, a collection what
-- they gave.
use mathlib.Core.Path.{◌≡◌, refl, sym, ap, ◌∙◌}
use mathlib.Core.Bool.{Bool, true, false}
use mathlib.Core.List.{List, [], ◌∷◌, ◌++◌, map, map-append, append-nil}
use Prim.Native.Nat.{ℕ, zero, suc, ◌+◌, ◌≤◌, ◌<◌}
use native.Mathlib.Omega.{arith}
use lib.IntN.{ℤ, pos}
use lib.ListN.{length, get_or, length-map}
use Rattle.model.specs.Lists.{filter, cons_if, concat_map}
use Rattle.model.specs.Meaning.{Tuple}
use Rattle.model.specs.Search.{search}
use Rattle.model.proofs.Search.{NoneBelow, search-hit, search-none}
use Rattle.model.proofs.Lists.{filter-append, concat_map-append}
use Rattle.catalogue.specs.Layout.{tuple_at}
use Rattle.walks.specs.declared.Walk.{Walk}
use Rattle.walks.specs.Walks.{walk_of, place_at, places, walked, kept}

filter-length : (f : Tuple → Bool) (xs : List Tuple) → length (filter f xs) ≤ length xs
unfolding filter
filter-length f [] = omega arith
filter-length f (x ∷ xs) = go (f x) (filter-length f xs)
  where
    go : (b : Bool) → length (filter f xs) ≤ length xs → length (cons_if b x (filter f xs)) ≤ suc (length xs)
    go true h = omega arith
    go false h = omega arith

module _ (P : ℕ → ℕ) where
  places-last : (k i : ℕ) → places P k (suc i) ≡ places P k i ++ (P (k + i) ∷ [])
  unfolding places
  places-last k zero = let e : k + 0 ≡ k = omega arith in rw e
  places-last k (suc i) = let e : suc k + i ≡ k + suc i = omega arith in rw (← e) (ap (λ (l : List ℕ). P k ∷ l) (places-last (suc k) i))

  places-to : (i : ℕ) → places P 0 (i + 1) ≡ places P 0 i ++ (P i ∷ [])
  places-to i = let e : i + 1 ≡ suc i = omega arith in let z : 0 + i ≡ i = omega arith in rw e (places-last 0 i ∙ rw z)

  places-length : (k n : ℕ) → length (places P k n) ≡ n
  unfolding places
  places-length k zero = refl
  places-length k (suc n) = ap suc (places-length (suc k) n)

  -- a search: no row before i is a hit
  module _ (vs : List ℤ) (f : Tuple → Bool) where
    abbrev pub Failed : ℕ → Type 0
    Failed i = NoneBelow (λ j. f (tuple_at vs (P j))) i

    row_at : (k n j : ℕ) (d : Tuple) → j < n → get_or (map (tuple_at vs) (places P k n)) j d ≡ tuple_at vs (P (k + j))
    unfolding places
    row_at k zero j d h = absurd (omega arith)
    row_at k (suc n) zero d h = let e : k + 0 ≡ k = omega arith in rw e
    row_at k (suc n) (suc j) d h = let e : suc k + j ≡ k + suc j = omega arith in row_at (suc k) n j d (omega arith) ∙ rw e

    row_of : (n j : ℕ) → j < n → f (get_or (map (tuple_at vs) (places P 0 n)) j (tuple_at vs 0)) ≡ f (tuple_at vs (P j))
    row_of n j h = let e : 0 + j ≡ j = omega arith in ap f (row_at 0 n j (tuple_at vs 0) h ∙ rw e)

    rows-length : (n : ℕ) → length (map (tuple_at vs) (places P 0 n)) ≡ n
    rows-length n = length-map (places P 0 n) (tuple_at vs) ∙ places-length 0 n

    pub rows-hit : (n j : ℕ) → j < n → Failed j → f (tuple_at vs (P j)) ≡ true → search f (map (tuple_at vs) (places P 0 n)) ≡ record { found = true; tried = j + 1 }
    rows-hit n j l h e = search-hit f (map (tuple_at vs) (places P 0 n)) (tuple_at vs 0) j (omega (arith, rows-length n)) (λ i k. row_of n i (omega arith) ∙ h i k) (row_of n j l ∙ e)

    pub rows_none : (n : ℕ) → Failed n → search f (map (tuple_at vs) (places P 0 n)) ≡ record { found = false; tried = n }
    rows_none n h =
        search-none f (map (tuple_at vs) (places P 0 n)) (tuple_at vs 0) (λ i k. let l : i < n = omega (arith, rows-length n) in row_of n i l ∙ h i l)
        ∙ ap (λ (m : ℕ). record { found = false; tried = m }) (rows-length n)

  -- a collection: the values kept of the rows passed
  module _ (vs : List ℤ) (f : Tuple → Bool) (a : ℕ) where
    pub kept-start : kept vs f a P 0 ≡ []
    unfolding kept places filter
    kept-start = refl

    kept_next : (i : ℕ) → kept vs f a P (i + 1) ≡ kept vs f a P i ++ map (λ (x : Tuple). x a) (cons_if (f (tuple_at vs (P i))) (tuple_at vs (P i)) [])
    unfolding kept filter
    kept_next i = rw (places-to i, map-append, filter-append f, map-append)

    pub kept-hit : (i : ℕ) → f (tuple_at vs (P i)) ≡ true → kept vs f a P (i + 1) ≡ kept vs f a P i ++ (get_or vs (P i + a) (pos 0) ∷ [])
    kept-hit i e = kept_next i ∙ rw e

    pub kept-miss : (i : ℕ) → f (tuple_at vs (P i)) ≡ false → kept vs f a P (i + 1) ≡ kept vs f a P i
    kept-miss i e = kept_next i ∙ rw e (append-nil (kept vs f a P i))

    pub kept-length : (i : ℕ) → length (kept vs f a P i) ≤ i
    unfolding kept
    kept-length i = omega (arith, length-map (filter f (map (tuple_at vs) (places P 0 i))) (λ (x : Tuple). x a), filter-length f (map (tuple_at vs) (places P 0 i)), length-map (places P 0 i) (tuple_at vs), places-length 0 i)

  -- an odometer: what the rows passed gave
  pub concat-to : {A : Type 0} (g : Tuple → List A) (vs : List ℤ) (i : ℕ) → concat_map g (map (tuple_at vs) (places P 0 (i + 1))) ≡ concat_map g (map (tuple_at vs) (places P 0 i)) ++ g (tuple_at vs (P i))
  unfolding concat_map
  concat-to g vs i =
      let x = tuple_at vs (P i) in
      rw (places-to i, map-append)
      (concat_map-append g (map (tuple_at vs) (places P 0 i)) (x ∷ []) ∙ ap (λ (l : List _). concat_map g (map (tuple_at vs) (places P 0 i)) ++ l) (append-nil (g x)))

-- a search over the rows of a variable, by their places: rows before j fail and row j holds, or all fail
module _ (f : Tuple → Bool) (ws : List ℕ) (vs : List ℤ) (v : ℕ) (x : Walk) (ex : x ≡ walk_of ws v) where
  walked-is : search f (walked ws vs v) ≡ search f (map (tuple_at vs) (places (place_at ws x) 0 x.count))
  unfolding walked
  walked-is = ap (λ (w : Walk). search f (map (tuple_at vs) (places (place_at ws w) 0 w.count))) (sym ex)

  pub walked-hit : (j : ℕ) → j < x.count → Failed (place_at ws x) vs f j → f (tuple_at vs (place_at ws x j)) ≡ true → search f (walked ws vs v) ≡ record { found = true; tried = j + 1 }
  walked-hit j l h e = walked-is ∙ rows-hit (place_at ws x) vs f x.count j l h e

  pub walked_none : Failed (place_at ws x) vs f x.count → search f (walked ws vs v) ≡ record { found = false; tried = x.count }
  walked_none h = walked-is ∙ rows_none (place_at ws x) vs f x.count h
