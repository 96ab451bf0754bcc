-- Truth of all numbers below n.
use Prim.Native.Nat.{ℕ, zero, suc, ◌<◌}
use mathlib.Core.Bool.{Bool, true, false, ◌&&◌}
use mathlib.Core.List.{List, [], ◌∷◌, ◌++◌}
use mathlib.Core.Path.{◌≡◌, refl, sym, ap, ap₂, ◌∙◌}
use native.Mathlib.Omega.{arith}
use lib.Dec.{eqb}
use borrow.Author.Tests.{eqb-true, eqb-false}
use Rattle.model.specs.Lists.{all, below}
use Rattle.model.proofs.Tests.{and-true}

pub and-and : (a b c : Bool) → (a && b) && c ≡ a && (b && c)
and-and true b c = refl
and-and false b c = refl

pub all-last : (f : ℕ → Bool) (xs : List ℕ) (x : ℕ) → all f (xs ++ (x ∷ [])) ≡ all f xs && f x
unfolding all
all-last f [] x = and-true (f x)
all-last f (y ∷ ys) x = ap (λ b. f y && b) (all-last f ys x) ∙ sym (and-and (f y) (all f ys) (f x))

pub all_true : (f : ℕ → Bool) (n : ℕ) → ((j : ℕ) → f j ≡ true) → all f (below n) ≡ true
unfolding below all
all_true f zero h = refl
all_true f (suc n) h = all-last f (below n) n ∙ ap₂ ◌&&◌ (all_true f n h) (h n)

-- two tests that agree
all_same : (f g : ℕ → Bool) (n : ℕ) → ((j : ℕ) → j < n → f j ≡ g j) → all f (below n) ≡ all g (below n)
unfolding below all
all_same f g zero h = refl
all_same f g (suc n) h = all-last f (below n) n ∙ ap₂ ◌&&◌ (all_same f g n (λ j k. h j (omega arith))) (h n (omega arith)) ∙ sym (all-last g (below n) n)

-- two tests that agree but at s, where one asks for c too
pub all-gains : (f g : ℕ → Bool) (c : Bool) (s n : ℕ) → s < n → f s ≡ c && g s → ((j : ℕ) → j < n → (j ≡ s → ⊥) → f j ≡ g j) → all f (below n) ≡ c && all g (below n)
unfolding below
all-gains f g c s zero h a b = absurd (omega arith)
all-gains f g c s (suc n) h a b = all-last f (below n) n ∙ go (eqb n s) refl (λ l. all-gains f g c s n l a (λ j k. b j (omega arith))) ∙ ap (λ x. c && x) (sym (all-last g (below n) n))
  where
    swap : (x y w : Bool) → x && (y && w) ≡ y && (x && w)
    swap true y w = refl
    swap false true w = refl
    swap false false w = refl

    go : (x : Bool) → eqb n s ≡ x → (s < n → all f (below n) ≡ c && all g (below n)) → all f (below n) && f n ≡ c && (all g (below n) && g n)
    go true p r =
        let i = eqb-true n s p in
        ap₂ ◌&&◌ (all_same f g n (λ j k. b j (omega arith) (λ l. omega arith))) (ap f i ∙ a ∙ ap (λ y. c && g y) (sym i)) ∙ swap (all g (below n)) c (g n)
    go false p r = let d = eqb-false n s p in ap₂ ◌&&◌ (r (omega (arith, d))) (b n (omega arith) d) ∙ and-and c (all g (below n)) (g n)
