-- The place of a variable among those that are bound: how many come before it.
use mathlib.Core.Path.{◌≡◌, refl, sym}
use mathlib.Core.Bool.{Bool, true, false, not, cond}
use mathlib.Core.List.{List, [], ◌∷◌}
use Prim.Native.Nat.{ℕ, suc, ◌≤◌}
use native.Mathlib.Omega.{arith}
use lib.Dec.{eqb}
use lib.ListN.{length}
use borrow.Author.Tests.{eqb-true, eqb-false, eq-eqb, ne_eqb}
use Rattle.std.specs.List.{prefix_len}
use Rattle.model.specs.Lists.{index_of}
use Rattle.model.specs.Syntax.{Binding, variables}
use Rattle.model.proofs.Renaming.{length-variables}

pub prefix-index : (w : ℕ) (bs : List Binding) → prefix_len (λ (b : Binding). not (eqb b.variable w)) bs ≡ index_of w (variables bs)
unfolding index_of
prefix-index w [] = refl
prefix-index w (b ∷ bs) = go (eqb b.variable w) refl (prefix-index w bs)
  where
    go : (t : Bool) → eqb b.variable w ≡ t → prefix_len (λ (x : Binding). not (eqb x.variable w)) bs ≡ index_of w (variables bs) → prefix_len (λ (x : Binding). not (eqb x.variable w)) (b ∷ bs) ≡ cond (eqb w b.variable) 0 (suc (index_of w (variables bs)))
    go true h i = rw (h, eq-eqb w b.variable (sym (eqb-true b.variable w h)))
    go false h i = rw (h, ne_eqb w b.variable (λ e. eqb-false b.variable w h (sym e))) (omega (arith, i))

index_in : (w : ℕ) (xs : List ℕ) → index_of w xs ≤ length xs
unfolding index_of
index_in w [] = omega arith
index_in w (x ∷ xs) = go (eqb w x) (index_in w xs)
  where
    go : (t : Bool) → index_of w xs ≤ length xs → cond t 0 (suc (index_of w xs)) ≤ suc (length xs)
    go true h = omega arith
    go false h = omega arith

pub index-small : (w i : ℕ) (bs : List Binding) → i ≡ index_of w (variables bs) → i ≤ length bs
index-small w i bs e = omega (arith, index_in w (variables bs), length-variables bs)
