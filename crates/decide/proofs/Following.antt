-- One branch tried, and the branches followed to their end.
use Prim.Native.Nat.{ℕ, zero, suc, ◌+◌, ◌*◌, ◌≤◌, ◌<◌}
use mathlib.Core.Bool.{Bool, false}
use mathlib.Core.List.{List}
use mathlib.Core.Path.{◌≡◌, sym, ap, ◌∙◌, subst}
use native.Mathlib.Omega.{arith}
use lib.Dec.{eqb}
use lib.IntN.{ℤ}
use lib.ListN.{get_or, drop}
use borrow.Author.Tests.{ne_eqb}
use Rattle.model.specs.Meaning.{compare}
use Rattle.numbers.specs.Numbers.{value_of}
use Rattle.numbers.specs.declared.Ratio.{Ratio}
use Rattle.evaluator.specs.Evaluation.{holds_at}
use Rattle.walks.specs.Assigned.{assigned}
use Rattle.branches.specs.Branches.{number, field, operand, holds_in, branch_holds, next, runs}
use Rattle.branches.proofs.Running.{runs-0, runs-1, runs-step, runs-stuck}

module _ (t q z ws : List ℕ) (vs m : List ℤ) (e : List ℕ) (i : ℕ) where
  -- one branch
  module _ (o : ℕ) (eo : o ≡ get_or t (8 * i) 0) where
    own : field t i 0 ≡ o
    own = let n : 8 * i + 0 ≡ 8 * i = omega arith in sym (eo ∙ ap (λ (n : ℕ). get_or t n 0) (sym n))

    pub branch-condition : (p l : ℕ) (c s : List ℕ) (b : Bool) → o ≡ 0 → p ≡ get_or t (8 * i + 1) 0 → l ≡ get_or t (8 * i + 2) 0 → c ≡ drop p q → s ≡ drop p z → b ≡ holds_at l c s ws vs m e → b ≡ branch_holds t q z ws vs m i (assigned vs e)
    unfolding branch_holds holds_in holds_at
    branch-condition p l c s b h ep el ec es eb = eb ∙ rw (ec, es, ep, el) (sym (rw (own ∙ h)))

    pub branch-compared : (a b : Ratio) (r : Bool) → (o ≡ 0 → ⊥) → (o ≡ 256 → ⊥) → value_of a ≡ operand m (get_or t (8 * i + 1) 0) (get_or t (8 * i + 1 + 1) 0) (number t (2 * i)) (assigned vs e)
        → value_of b ≡ operand m (get_or t (8 * i + 3) 0) (get_or t (8 * i + 3 + 1) 0) (number t (2 * i + 1)) (assigned vs e) → r ≡ compare o (value_of a) (value_of b) → r ≡ branch_holds t q z ws vs m i (assigned vs e)
    unfolding branch_holds holds_in
    branch-compared a b r h g ea eb er =
        let n = ap (λ (w : ℕ). eqb w 0) own ∙ ne_eqb o 0 h in
        let p = ap (λ (w : ℕ). eqb w 256) own ∙ ne_eqb o 256 g in
        let j : 8 * i + 2 ≡ 8 * i + 1 + 1 = omega arith in
        let k : 8 * i + 4 ≡ 8 * i + 3 + 1 = omega arith in
        er ∙ rw (ea, eb) (sym (rw (n, p, own, j, k)))

  -- one step of the loop, from branch i of those that start at s
  module _ (s to : ℕ) (e₁ : List ℕ) (ee : e₁ ≡ e) (h : 2 ≤ i) (et : to ≡ next t q z ws vs m i (assigned vs e₁)) (is : runs t q z ws vs m i (assigned vs e) ≡ runs t q z ws vs m s (assigned vs e)) where
    to_is : to ≡ next t q z ws vs m i (assigned vs e)
    to_is = et ∙ ap (λ (d : List ℕ). next t q z ws vs m i (assigned vs d)) ee

    pub follow-stuck : i ≤ to → false ≡ runs t q z ws vs m s (assigned vs e)
    follow-stuck g = sym (runs-stuck t q z ws vs m i (assigned vs e) h (subst (λ (n : ℕ). i ≤ n) to_is g)) ∙ is

    pub follow-on : to < i → runs t q z ws vs m to (assigned vs e) ≡ runs t q z ws vs m s (assigned vs e)
    follow-on g = ap (λ (n : ℕ). runs t q z ws vs m n (assigned vs e)) to_is ∙ sym (runs-step t q z ws vs m i (assigned vs e) h (subst (λ (n : ℕ). n < i) to_is g)) ∙ is

  -- the end
  pub follow-end : (s : ℕ) → i < 2 → runs t q z ws vs m i (assigned vs e) ≡ runs t q z ws vs m s (assigned vs e) → eqb i 0 ≡ runs t q z ws vs m s (assigned vs e)
  follow-end s h is = sym (go i h) ∙ is
    where
      go : (n : ℕ) → n < 2 → runs t q z ws vs m n (assigned vs e) ≡ eqb n 0
      go zero g = runs-0 t q z ws vs m (assigned vs e)
      go (suc zero) g = runs-1 t q z ws vs m (assigned vs e)
      go (suc (suc n)) g = absurd (omega arith)
