-- A loop over rows that passes some over.
use mathlib.Core.Path.{◌≡◌, refl, sym, ap, ◌∙◌, fun_ext}
use mathlib.Core.Bool.{Bool, true, false}
use mathlib.Core.List.{List}
use Prim.Native.Nat.{ℕ, zero, suc, ◌+◌, ◌≤◌, ◌<◌}
use native.Mathlib.Omega.{arith}
use lib.Dec.{eqb}
use borrow.Author.Tests.{eqb-true, eqb-false}
use lib.IntN.{ℤ}
use lib.ListN.{length, get_or, set}
use lib.Seq.{get_or-set_other}
use Rattle.model.specs.Lists.{update}
use Rattle.model.specs.Meaning.{Tuple}
use Rattle.catalogue.specs.Layout.{tuple_at}
use Rattle.walks.specs.Assigned.{assigned}

-- the variable's own place does not matter where it gets a tuple
pub places-alike : (vs : List ℤ) (d e : List ℕ) (v old : ℕ) (x : Tuple) → set d v old ≡ e → update (assigned vs d) v x ≡ update (assigned vs e) v x
places-alike vs d e v old x h = fun_ext λ w. go w (eqb w v) refl
  where
    go : (w : ℕ) (b : Bool) → eqb w v ≡ b → update (assigned vs d) v x w ≡ update (assigned vs e) v x w
    go w true k = rw k
    go w false k = rw k (ap (tuple_at vs) (sym (get_or-set_other d v w old (length vs) (eqb-false w v k)) ∙ ap (λ (u : List ℕ). get_or u w (length vs)) h))

-- what comes of the rows does not change where they are passed over
pub passed_over : {A : Type 0} (g : ℕ → A) (i s : ℕ) → i ≤ s → ((j : ℕ) → i ≤ j → j < s → g (j + 1) ≡ g j) → g s ≡ g i
passed_over g i zero h f = let e : i ≡ 0 = omega arith in ap g (sym e)
passed_over g i (suc s) h f = go (eqb i (suc s)) refl (λ l. passed_over g i s l (λ j a b. f j a (omega arith)))
  where
    go : (b : Bool) → eqb i (suc s) ≡ b → (i ≤ s → g s ≡ g i) → g (suc s) ≡ g i
    go true k r = ap g (sym (eqb-true i (suc s) k))
    go false k r = let l : i ≤ s = omega (arith, eqb-false i (suc s) k) in let e : suc s ≡ s + 1 = omega arith in ap g e ∙ f s l (omega arith) ∙ r l
