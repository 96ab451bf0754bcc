-- The parts of the table by which names are looked up, lent one at a time and given back.
use Prim.Native.Nat.{ℕ, zero, suc, ◌+◌, ◌-◌, ◌≤◌, ◌<◌}
use mathlib.Core.Bool.{Bool, true, false, cond}
use mathlib.Core.List.{List, [], ◌∷◌, ◌++◌, append-nil}
use mathlib.Core.Path.{◌≡◌, refl, sym, ap, ◌∙◌}
use native.Mathlib.Omega.{arith}
use lib.Dec.{leb}
use lib.ListN.{length, get_or, take, drop, length-drop, length-append}
use lib.Seq.{get_or-drop, take_all, take_at, drop_at, drop-drop, drop-length, length-take-le}
use borrow.Author.Tests.{le-leb, lt-leb}
use Rattle.elaborate.specs.Lookup.{room_of, chains_in, ids_in}

pub room_small : (n : ℕ) → n ≤ 1023 → 768 ≡ room_of n
unfolding room_of
room_small n h = sym (rw (le-leb n 1023 h))

pub room-large : (n : ℕ) → 1023 < n → 4608 ≡ room_of n
unfolding room_of
room-large n h = sym (rw (lt-leb n 1023 h))

pub room_most : (n : ℕ) → (512 ≤ room_of n) × (room_of n ≤ 4608)
unfolding room_of
room_most n = go (leb n 1023)
  where
    go : (b : Bool) → (512 ≤ cond b 768 4608) × (cond b 768 4608 ≤ 4608)
    go true = (omega arith, omega arith)
    go false = (omega arith, omega arith)

pub take-zero : (k : ℕ) (t : List ℕ) → ((x : ℕ) → get_or t x 0 ≡ 0) → (x : ℕ) → get_or (take k t) x 0 ≡ 0
take-zero zero [] z x = refl
take-zero zero (y ∷ t) z x = refl
take-zero (suc k) [] z x = refl
take-zero (suc k) (y ∷ t) z zero = z 0
take-zero (suc k) (y ∷ t) z (suc x) = take-zero k t (λ j. z (suc j)) x

module _ (t : List ℕ) (k : ℕ) (ek : k ≡ room_of (length t)) where
  pub chains-is : take k t ≡ chains_in t
  unfolding chains_in
  chains-is = ap (λ (n : ℕ). take n t) ek

  ids-is : drop k t ≡ ids_in t
  unfolding ids_in
  ids-is = ap (λ (n : ℕ). drop n t) ek

  pub id-is : (y : List ℕ) → y ≡ drop k t → (x : ℕ) → get_or y x 0 ≡ get_or (ids_in t) x 0
  id-is y e x = ap (λ (l : List ℕ). get_or l x 0) (e ∙ ids-is)

  pub ids-lent : take (length t - k) (drop k t) ≡ ids_in t
  ids-lent = take_all (length t - k) (drop k t) (omega (arith, length-drop k t)) ∙ ids-is

  pub ids-zero : ((x : ℕ) → get_or t x 0 ≡ 0) → (x : ℕ) → get_or (ids_in t) x 0 ≡ 0
  ids-zero z x = sym (id-is (drop k t) refl x) ∙ get_or-drop k t x 0 ∙ z (k + x)

  -- another list of the same length, by where it is cut
  chains-of : (u : List ℕ) → length u ≡ length t → take k u ≡ chains_in u
  unfolding chains_in
  chains-of u e = ap (λ (n : ℕ). take n u) (ek ∙ ap room_of (sym e))

  ids-of : (u : List ℕ) → length u ≡ length t → drop k u ≡ ids_in u
  unfolding ids_in
  ids-of u e = ap (λ (n : ℕ). drop n u) (ek ∙ ap room_of (sym e))

  -- the numbers, given back
  module _ (h : k ≤ length t) (y : List ℕ) (ey : length y ≡ length t - k) where
    abbrev numbered : List ℕ
    numbered = take k t ++ (y ++ drop (length t - k) (drop k t))

    none : drop (length t - k) (drop k t) ≡ []
    none = let n : k + (length t - k) ≡ length t = omega arith in drop-drop (length t - k) k t ∙ ap (λ (j : ℕ). drop j t) n ∙ drop-length t

    long : length numbered ≡ length t
    long = omega (arith, length-append (take k t) (y ++ drop (length t - k) (drop k t)), length-append y (drop (length t - k) (drop k t)), length-take-le k t h, ey, ap length none)

    pub numbers-back : ids_in numbered ≡ y
    numbers-back = sym (ids-of numbered long) ∙ drop_at (take k t) (y ++ drop (length t - k) (drop k t)) k (length-take-le k t h) ∙ ap (◌++◌ y) none ∙ append-nil y

    pub chains-still : chains_in numbered ≡ chains_in t
    chains-still = sym (chains-of numbered long) ∙ take_at (take k t) (y ++ drop (length t - k) (drop k t)) k (length-take-le k t h) ∙ chains-is

  -- the chains, given back
  module _ (h : k ≤ length t) (y : List ℕ) (ey : length y ≡ k) where
    abbrev chained : List ℕ
    chained = y ++ drop k t

    still-long : length chained ≡ length t
    still-long = omega (arith, length-append y (drop k t), length-drop k t, ey)

    pub chains-back : y ≡ chains_in chained
    chains-back = sym (take_at y (drop k t) k ey) ∙ chains-of chained still-long

    pub ids-still : ids_in chained ≡ ids_in t
    ids-still = sym (ids-of chained still-long) ∙ drop_at y (drop k t) k ey ∙ ids-is
