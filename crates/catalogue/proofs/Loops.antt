-- Laws for a loop over the rows of a relation: `from` for a search, which looks at the rows that are left, and `to` for a
-- collection, which looks at the rows that were passed. A row is the offset p, the next is w further.
use mathlib.Core.Path.{◌≡◌, refl, ap, ◌∙◌}
use mathlib.Core.Bool.{Bool, true, false}
use mathlib.Core.List.{List, [], ◌∷◌, ◌++◌, map, map-append, append-nil}
use Prim.Native.Nat.{ℕ, zero, suc, ◌+◌, ◌-◌, ◌*◌, ◌≤◌, ◌<◌}
use native.Mathlib.Nat.{mul-le-mul}
use native.Mathlib.Omega.{arith}
use lib.IntN.{ℤ, pos}
use lib.ListN.{length, get_or, length-map}
use Rattle.model.specs.Lists.{filter, any, cons_if, concat_map}
use Rattle.model.specs.Meaning.{Tuple}
use Rattle.model.proofs.Lists.{filter-append, concat_map-append}
use Rattle.catalogue.specs.Layout.{tuple_at, offsets, kept}

pub offsets-none : (p w n i : ℕ) → n ≤ i → offsets p w (n - i) ≡ []
unfolding offsets
offsets-none p w n i h = let e : n - i ≡ 0 = omega arith in rw e

pub offsets-from : (p w n i : ℕ) → i < n → offsets p w (n - i) ≡ p ∷ offsets (p + w) w (n - (i + 1))
unfolding offsets
offsets-from p w n i h = let e : n - i ≡ suc (n - (i + 1)) = omega arith in rw e

offsets-last : (p w i : ℕ) → offsets p w (suc i) ≡ offsets p w i ++ ((p + i * w) ∷ [])
unfolding offsets
offsets-last p w zero = let e : p + 0 * w ≡ p = omega arith in rw e
offsets-last p w (suc i) = let e : p + w + i * w ≡ p + suc i * w = omega arith in rw (← e) (ap (λ (l : List ℕ). p ∷ l) (offsets-last (p + w) w i))

pub offsets-to : (p w i : ℕ) → offsets p w (i + 1) ≡ offsets p w i ++ ((p + i * w) ∷ [])
offsets-to p w i = let e : i + 1 ≡ suc i = omega arith in rw e (offsets-last p w i)

offsets-length : (p w n : ℕ) → length (offsets p w n) ≡ n
unfolding offsets
offsets-length p w zero = refl
offsets-length p w (suc n) = ap suc (offsets-length (p + w) w n)

-- the offset of a loop that adds w each turn, and its room for any catalogue
pub offset-next : (b w i p : ℕ) → p ≡ b + i * w → p + w ≡ b + (i + 1) * w
offset-next b w i p e = omega arith

pub offset-room : (b w i r : ℕ) → b ≤ 16711425 * r → r ≤ 255 → w ≤ 255 → i ≤ 65535 → b + i * w ≤ 4278124800
offset-room b w i r h k l m = omega (arith, mul-le-mul m l)

-- a search: what is left decides
module _ (vs : List ℤ) (f : Tuple → Bool) (p w n i : ℕ) where
  pub any_none : n ≤ i → any f (map (tuple_at vs) (offsets p w (n - i))) ≡ false
  unfolding any
  any_none h = rw (offsets-none p w n i h)

  pub any_found : i < n → f (tuple_at vs p) ≡ true → any f (map (tuple_at vs) (offsets p w (n - i))) ≡ true
  unfolding any
  any_found h e = rw (offsets-from p w n i h, e)

  pub any_left : i < n → f (tuple_at vs p) ≡ false → any f (map (tuple_at vs) (offsets p w (n - i))) ≡ any f (map (tuple_at vs) (offsets (p + w) w (n - (i + 1))))
  unfolding any
  any_left h e = rw (offsets-from p w n i h, e)

-- a collection: the values kept of the rows passed
filter-length : (f : Tuple → Bool) (xs : List Tuple) → length (filter f xs) ≤ length xs
unfolding filter
filter-length f [] = omega arith
filter-length f (x ∷ xs) = go (f x) (filter-length f xs)
  where
    go : (b : Bool) → length (filter f xs) ≤ length xs → length (cons_if b x (filter f xs)) ≤ suc (length xs)
    go true h = omega arith
    go false h = omega arith

module _ (vs : List ℤ) (f : Tuple → Bool) (a p w : ℕ) where
  pub kept-start : kept vs f a p w 0 ≡ []
  unfolding kept offsets filter
  kept-start = refl

  kept_next : (i : ℕ) → kept vs f a p w (i + 1) ≡ kept vs f a p w i ++ map (λ (x : Tuple). x a) (cons_if (f (tuple_at vs (p + i * w))) (tuple_at vs (p + i * w)) [])
  unfolding kept filter
  kept_next i = rw (offsets-to p w i, map-append, filter-append f, map-append)

  pub kept-hit : (i : ℕ) → f (tuple_at vs (p + i * w)) ≡ true → kept vs f a p w (i + 1) ≡ kept vs f a p w i ++ (get_or vs (p + i * w + a) (pos 0) ∷ [])
  kept-hit i e = kept_next i ∙ rw e

  pub kept-miss : (i : ℕ) → f (tuple_at vs (p + i * w)) ≡ false → kept vs f a p w (i + 1) ≡ kept vs f a p w i
  kept-miss i e = kept_next i ∙ rw e (append-nil (kept vs f a p w i))

  pub kept-length : (i : ℕ) → length (kept vs f a p w i) ≤ i
  unfolding kept
  kept-length i = omega (arith, length-map (filter f (map (tuple_at vs) (offsets p w i))) (λ (x : Tuple). x a), filter-length f (map (tuple_at vs) (offsets p w i)), length-map (offsets p w i) (tuple_at vs), offsets-length p w i)

-- an odometer: what the rows passed gave
pub concat-to : {A : Type 0} (g : Tuple → List A) (vs : List ℤ) (p w i : ℕ) → concat_map g (map (tuple_at vs) (offsets p w (i + 1))) ≡ concat_map g (map (tuple_at vs) (offsets p w i)) ++ g (tuple_at vs (p + i * w))
unfolding concat_map
concat-to g vs p w i =
    let x = tuple_at vs (p + i * w) in
    rw (offsets-to p w i, map-append)
    (concat_map-append g (map (tuple_at vs) (offsets p w i)) (x ∷ []) ∙ ap (λ (l : List _). concat_map g (map (tuple_at vs) (offsets p w i)) ++ l) (append-nil (g x)))
