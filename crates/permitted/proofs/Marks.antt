-- Masks and the permits that they pick.
use mathlib.Core.Path.{◌≡◌, refl, sym, ap, ap₂, ◌∙◌, subst}
use mathlib.Core.Bool.{Bool, true, false, cond}
use mathlib.Core.List.{List, [], ◌∷◌, ◌++◌}
use Prim.Native.Nat.{ℕ, zero, suc, ◌+◌, ◌*◌, ◌/◌, ◌%◌, ◌≤◌, ◌<◌}
use native.Mathlib.Omega.{arith}
use lib.Dec.{eqb}
use lib.ListN.{length}
use Rattle.model.specs.Lists.{cons_if, filter, below}
use Rattle.model.proofs.Lists.{filter-append}
use Rattle.copier.specs.Guard.{picked, bits_of}
use Rattle.copier.proofs.Turns.{picked_none}

-- two tests that agree below n
pub filter-below : (p q : ℕ → Bool) (n : ℕ) → ((i : ℕ) → i < n → p i ≡ q i) → filter p (below n) ≡ filter q (below n)
unfolding below filter
filter-below p q zero h = refl
filter-below p q (suc n) h =
    filter-append p (below n) (n ∷ [])
    ∙ ap₂ (λ (l : List ℕ) (b : Bool). l ++ cons_if b n []) (filter-below p q n (λ i k. h i (omega arith))) (h n (omega arith))
    ∙ sym (filter-append q (below n) (n ∷ []))

-- bits enough for a mask
unfoldable pub Enough : ℕ → ℕ → Type 0
Enough zero m = m ≡ 0
Enough (suc l) m = Enough l (m / 2)

pub picked_same : (l n m k : ℕ) (f : ℕ → List ℕ) → Enough l m → Enough n m → picked l m k f ≡ picked n m k f
unfolding Enough picked
picked_same zero n m k f e d = sym (ap (λ i. picked n i k f) e ∙ picked_none n k f)
picked_same (suc l) zero m k f e d = ap (λ i. picked (suc l) i k f) d ∙ picked_none (suc l) k f
picked_same (suc l) (suc n) m k f e d = ap (cons_if (eqb (m % 2) 1) (f k)) (picked_same l n (m / 2) (suc k) f e d)

pub enough-itself : (n m : ℕ) → m ≤ n → Enough n m
unfolding Enough
enough-itself zero m h = omega arith
enough-itself (suc n) m h = enough-itself n (m / 2) (omega arith)

pub enough-bits : {A : Type 0} (t : A → Bool) (xs : List A) (l : ℕ) → length xs ≤ l → Enough l (bits_of t xs)
unfolding Enough bits_of
enough-bits t [] l h = none l
  where
    none : (l : ℕ) → Enough l 0
    none zero = refl
    none (suc l) = none l
enough-bits t (x ∷ xs) zero h = absurd (omega arith)
enough-bits t (x ∷ xs) (suc l) h = subst (Enough l) (sym (half (t x) (bits_of t xs))) (enough-bits t xs l (omega arith))
  where
    half : (b : Bool) (n : ℕ) → (cond b 1 0 + 2 * n) / 2 ≡ n
    half true n = omega arith
    half false n = omega arith
