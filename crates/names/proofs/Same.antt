-- Equal words.
use mathlib.Core.Path.{◌≡◌, refl, sym, ap₂}
use mathlib.Core.Bool.{Bool, true, false, ◌&&◌}
use mathlib.Core.List.{[], ◌∷◌}
use Prim.Native.Nat.{ℕ}
use lib.Dec.{eqb}
use borrow.Author.Tests.{eqb-true, eqb-false, eq-eqb, ne_eqb}
use Rattle.quel.specs.Results.{Word, same_word}

pub eqb-turned : (a b : ℕ) → eqb a b ≡ eqb b a
eqb-turned a b = go (eqb a b) refl
  where
    go : (d : Bool) → eqb a b ≡ d → d ≡ eqb b a
    go true e = sym (eq-eqb b a (sym (eqb-true a b e)))
    go false e = sym (ne_eqb b a (λ f. eqb-false a b e (sym f)))

pub same-turned : (v w : Word) → same_word v w ≡ same_word w v
unfolding same_word
same-turned [] [] = refl
same-turned [] (y ∷ w) = refl
same-turned (x ∷ v) [] = refl
same-turned (x ∷ v) (y ∷ w) = ap₂ ◌&&◌ (eqb-turned x y) (same-turned v w)
