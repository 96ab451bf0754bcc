-- 22 of a mask, by the outcomes of the code's tests.
use mathlib.Core.Path.{◌≡◌, sym, ap, ◌∙◌}
use mathlib.Core.Bool.{Bool, true, false, not, ◌&&◌, ◌||◌}
use Prim.Native.Nat.{ℕ}
use lib.Dec.{eqb}
use borrow.Author.Tests.{eq-eqb, ne_eqb}
use Rattle.permits.specs.Masks.{attributes_in, mask_in}

module _ (n m : ℕ) where
  pub mask-zero : m ≡ 0 → false ≡ mask_in n m
  unfolding mask_in
  mask-zero h = sym (ap (λ (b : Bool). not b && (eqb m 65535 || attributes_in n m)) (eq-eqb m 0 h))

  mask-of : (m ≡ 0 → ⊥) → mask_in n m ≡ (eqb m 65535 || attributes_in n m)
  unfolding mask_in
  mask-of h = ap (λ (b : Bool). not b && (eqb m 65535 || attributes_in n m)) (ne_eqb m 0 h)

  pub mask-all : (m ≡ 0 → ⊥) → m ≡ 65535 → true ≡ mask_in n m
  mask-all h k = sym (mask-of h ∙ ap (λ (b : Bool). b || attributes_in n m) (eq-eqb m 65535 k))

  pub mask_is : (b : Bool) → (m ≡ 0 → ⊥) → (m ≡ 65535 → ⊥) → b ≡ attributes_in n m → b ≡ mask_in n m
  mask_is b h k eb = eb ∙ sym (mask-of h ∙ ap (λ (d : Bool). d || attributes_in n m) (ne_eqb m 65535 k))
