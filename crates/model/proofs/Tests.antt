-- Laws of truth values.
use Prim.Native.Nat.{ℕ, ◌≤◌, ◌<◌}
use mathlib.Core.Bool.{Bool, true, false, not, ◌&&◌, ◌||◌}
use mathlib.Core.List.{List, [], ◌∷◌, ◌++◌}
use mathlib.Core.Path.{◌≡◌, refl, sym}
use native.Mathlib.Omega.{arith}
use lib.Dec.{ltb}
use borrow.Author.Tests.{ltb-true, ltb-false}
use Rattle.model.specs.Lists.{any, all}

pub clash : {X : Type 0} → false ≡ true → X
clash h = let z : ◌≡◌ {A = ℕ} 0 1 = cc in absurd (omega arith)

pub and-inv : (a b : Bool) → a && b ≡ true → (a ≡ true) × (b ≡ true)
and-inv true b h = (refl, h)
and-inv false b h = clash h

pub and_intro : (a b : Bool) → a ≡ true → b ≡ true → a && b ≡ true
and_intro a b p q = rw (p, q)

pub and_no : {X : Type 0} (a b : Bool) → a && b ≡ false → (a ≡ false → X) → (b ≡ false → X) → X
and_no true b h k l = l h
and_no false b h k l = k refl

pub or-inv : {X : Type 0} (a b : Bool) → a || b ≡ true → (a ≡ true → X) → (b ≡ true → X) → X
or-inv true b h k l = k refl
or-inv false b h k l = l h

pub or_no : (a b : Bool) → a || b ≡ false → (a ≡ false) × (b ≡ false)
or_no true b h = clash (sym h)
or_no false b h = (refl, h)

pub or_left : (a b : Bool) → a ≡ true → a || b ≡ true
or_left a b p = rw p

pub or_right : (a b : Bool) → b ≡ true → a || b ≡ true
or_right true b p = refl
or_right false b p = p

pub or-false : (b : Bool) → b || false ≡ b
or-false true = refl
or-false false = refl

pub or_assoc : (a b c : Bool) → (a || b) || c ≡ a || (b || c)
or_assoc true b c = refl
or_assoc false b c = refl

pub and-true : (b : Bool) → b && true ≡ b
and-true true = refl
and-true false = refl

pub not-no : (a : Bool) → not a ≡ false → a ≡ true
not-no true h = refl
not-no false h = clash (sym h)

pub not_yes : (a : Bool) → not a ≡ true → a ≡ false
not_yes true h = clash h
not_yes false h = refl

module _ {A : Type 0} (t : A → Bool) where
  pub all_cons : (x : A) (xs : List A) → all t (x ∷ xs) ≡ true → (t x ≡ true) × (all t xs ≡ true)
  unfolding all
  all_cons x xs h = and-inv (t x) (all t xs) h

  pub all_append : (xs ys : List A) → all t (xs ++ ys) ≡ true → (all t xs ≡ true) × (all t ys ≡ true)
  unfolding all
  all_append [] ys h = (refl, h)
  all_append (x ∷ xs) ys h =
      let i = and-inv (t x) (all t (xs ++ ys)) h in
      let j = all_append xs ys i.1 in
      (and_intro (t x) (all t xs) i.0 j.0, j.1)

  pub any_append : (xs ys : List A) → any t (xs ++ ys) ≡ any t xs || any t ys
  unfolding any
  any_append [] ys = refl
  any_append (x ∷ xs) ys = go (t x) (any_append xs ys)
    where
      go : (b : Bool) → any t (xs ++ ys) ≡ any t xs || any t ys → b || any t (xs ++ ys) ≡ (b || any t xs) || any t ys
      go true h = refl
      go false h = h

-- a number is below another, or it is not
pub by-lt : {P : Type 0} (a b : ℕ) → (a < b → P) → (b ≤ a → P) → P
by-lt {P} a b f g = go (ltb a b) refl
  where
    go : (t : Bool) → ltb a b ≡ t → P
    go true e = f (ltb-true a b e)
    go false e = g (ltb-false a b e)
