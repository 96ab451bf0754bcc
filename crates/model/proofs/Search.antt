-- What a search gives: whether there is a hit, and the place of the first one plus one, or all.
use Prim.Native.Nat.{ℕ, zero, suc, ◌+◌, ◌<◌, ◌≤◌}
use native.Mathlib.Omega.{arith}
use mathlib.Core.Bool.{Bool, true, false, cond, ◌||◌}
use mathlib.Core.List.{List, [], ◌∷◌, ◌++◌, map}
use mathlib.Core.Path.{◌≡◌, refl, sym, ◌∙◌, ap}
use lib.Dec.{ltb}
use lib.ListN.{length, get_or}
use borrow.Author.Tests.{ltb-true, ltb-false}
use Rattle.model.specs.Lists.{any}
use Rattle.model.specs.Search.{Search, search, Counted}
use Rattle.model.proofs.Tests.{clash}

-- one more was tried before it
abbrev later : Search → Search
later s = record { found = s.found; tried = suc s.tried }

-- no number below i meets f: what a search knows of the rows that it passed
module _ (f : ℕ → Bool) where
  abbrev pub NoneBelow : ℕ → Type 0
  NoneBelow i = (j : ℕ) → j < i → f j ≡ false

  pub none-start : NoneBelow 0
  none-start j h = absurd (omega arith)

  -- and none from i on and below s
  pub none_over : (i s : ℕ) → NoneBelow i → ((j : ℕ) → i ≤ j → j < s → f j ≡ false) → NoneBelow s
  none_over i s h g j k = go (ltb j i) refl
    where
      go : (b : Bool) → ltb j i ≡ b → f j ≡ false
      go true e = h j (ltb-true j i e)
      go false e = g j (ltb-false j i e) k

  pub none-next : (i : ℕ) → NoneBelow i → f i ≡ false → NoneBelow (i + 1)
  none-next i h e = none_over i (i + 1) h (λ j a b. let g : j ≡ i = omega arith in ap f g ∙ e)

module _ {A : Type 0} (p : A → Bool) where
  search-first : (x : A) (xs : List A) → p x ≡ true → search p (x ∷ xs) ≡ record { found = true; tried = 1 }
  unfolding search
  search-first x xs h = rw h

  search-later : (x : A) (xs : List A) → p x ≡ false → search p (x ∷ xs) ≡ later (search p xs)
  unfolding search
  search-later x xs h = rw h

  -- SOME's truth, and whether a row is there already
  pub search-found : (xs : List A) → (search p xs).found ≡ any p xs
  unfolding search any
  search-found [] = refl
  search-found (x ∷ xs) = go (p x) (search-found xs)
    where
      go : (b : Bool) → (search p xs).found ≡ any p xs → (cond b (record { found = true; tried = 1 }) (later (search p xs))).found ≡ b || any p xs
      go true h = refl
      go false h = h

  -- rows before j fail, row j holds
  pub search-hit : (xs : List A) (d : A) (j : ℕ) → j < length xs → ((i : ℕ) → i < j → p (get_or xs i d) ≡ false) → p (get_or xs j d) ≡ true → search p xs ≡ record { found = true; tried = j + 1 }
  search-hit [] d j l f h = absurd (omega arith)
  search-hit (x ∷ xs) d zero l f h = search-first x xs h
  search-hit (x ∷ xs) d (suc j) l f h = search-later x xs (f 0 (omega arith)) ∙ ap later (search-hit xs d j (omega arith) (λ i k. f (suc i) (omega arith)) h) ∙ ap (λ (n : ℕ). record { found = true; tried = n }) (omega arith)

  -- all fail
  pub search-none : (xs : List A) (d : A) → ((i : ℕ) → i < length xs → p (get_or xs i d) ≡ false) → search p xs ≡ record { found = false; tried = length xs }
  unfolding search
  search-none [] d f = refl
  search-none (x ∷ xs) d f = search-later x xs (f 0 (omega arith)) ∙ ap later (search-none xs d (λ i k. f (suc i) (omega arith)))

  pub counted : (xs : List A) → Counted p xs (search p xs)
  counted xs = record { truth = search-found xs; hit = search-hit xs; none = search-none xs }

  -- where nothing is found, all fail
  pub search-missed : (xs : List A) (d : A) → (search p xs).found ≡ false → (i : ℕ) → i < length xs → p (get_or xs i d) ≡ false
  search-missed [] d h i l = absurd (omega arith)
  search-missed (x ∷ xs) d h i l = go (p x) refl i l (search-missed xs d)
    where
      go : (b : Bool) → p x ≡ b → (i : ℕ) → i < suc (length xs) → ((search p xs).found ≡ false → (i : ℕ) → i < length xs → p (get_or xs i d) ≡ false) → p (get_or (x ∷ xs) i d) ≡ false
      go true e i l k = clash (sym h ∙ ap (λ (s : Search). s.found) (search-first x xs e))
      go false e zero l k = e
      go false e (suc i) l k = k (ap (λ (s : Search). s.found) (sym (search-later x xs e)) ∙ h) i (omega arith)

  -- no more than there are
  pub tried-most : (xs : List A) → (search p xs).tried ≤ length xs
  unfolding search
  tried-most [] = omega arith
  tried-most (x ∷ xs) = go (p x) (tried-most xs)
    where
      go : (b : Bool) → (search p xs).tried ≤ length xs → (cond b (record { found = true; tried = 1 }) (later (search p xs))).tried ≤ suc (length xs)
      go true h = omega arith
      go false h = omega arith

  -- one that finds nothing goes on among the rows that follow
  pub search-after : (xs ys : List A) → (search p xs).found ≡ false → search p (xs ++ ys) ≡ record { found = (search p ys).found; tried = length xs + (search p ys).tried }
  search-after [] ys h = ap (λ (n : ℕ). record { found = (search p ys).found; tried = n }) (omega arith)
  search-after (x ∷ xs) ys h = go (p x) refl (search-after xs ys)
    where
      go : (b : Bool) → p x ≡ b → ((search p xs).found ≡ false → search p (xs ++ ys) ≡ record { found = (search p ys).found; tried = length xs + (search p ys).tried })
          → search p (x ∷ (xs ++ ys)) ≡ record { found = (search p ys).found; tried = length (x ∷ xs) + (search p ys).tried }
      go true e k = clash (sym h ∙ ap (λ (s : Search). s.found) (search-first x xs e))
      go false e k = search-later x (xs ++ ys) e ∙ ap later (k (ap (λ (s : Search). s.found) (sym (search-later x xs e)) ∙ h)) ∙ ap (λ (n : ℕ). record { found = (search p ys).found; tried = n }) (omega arith)

  -- one that finds something does not look at them
  pub search-before : (xs ys : List A) → (search p xs).found ≡ true → search p (xs ++ ys) ≡ search p xs
  unfolding search
  search-before [] ys h = clash h
  search-before (x ∷ xs) ys h = go (p x) refl (search-before xs ys)
    where
      go : (b : Bool) → p x ≡ b → ((search p xs).found ≡ true → search p (xs ++ ys) ≡ search p xs) → search p (x ∷ (xs ++ ys)) ≡ search p (x ∷ xs)
      go true e k = search-first x (xs ++ ys) e ∙ sym (search-first x xs e)
      go false e k = search-later x (xs ++ ys) e ∙ ap later (k (ap (λ (s : Search). s.found) (sym (search-later x xs e)) ∙ h)) ∙ sym (search-later x xs e)

-- rows that a test takes alike
pub search-map : {A B : Type 0} (f : A → B) (p : B → Bool) (xs : List A) → search p (map f xs) ≡ search (λ x. p (f x)) xs
unfolding search
search-map f p [] = refl
search-map f p (x ∷ xs) = ap (λ (s : Search). cond (p (f x)) (record { found = true; tried = 1 }) (later s)) (search-map f p xs)
