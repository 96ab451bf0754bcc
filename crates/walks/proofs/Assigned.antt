-- A variable's place in the assignment.
use mathlib.Core.Path.{◌≡◌, refl, ap, ◌∙◌, fun_ext}
use mathlib.Core.Bool.{Bool, true, false}
use mathlib.Core.List.{List, [], ◌∷◌}
use Prim.Native.Nat.{ℕ, zero, suc, ◌+◌, ◌<◌}
use native.Mathlib.Omega.{arith}
use lib.Dec.{eqb}
use lib.IntN.{ℤ, pos}
use lib.ListN.{length, get_or, set, replicate, length-replicate, get_or-eq_default}
use lib.Seq.{get_or-set_same, get_or-set_other}
use borrow.Author.Tests.{eqb-true, eqb-false}
use Rattle.model.specs.Lists.{update}
use Rattle.model.proofs.Lists.{get_or-same}
use Rattle.catalogue.specs.Layout.{tuple_at}
use Rattle.walks.specs.Assigned.{assigned, Unbound}

-- within the list the default does not matter
pub get_or-inside : (xs : List ℕ) (i d f : ℕ) → i < length xs → get_or xs i d ≡ get_or xs i f
get_or-inside [] i d f h = absurd (omega arith)
get_or-inside (x ∷ xs) zero d f h = refl
get_or-inside (x ∷ xs) (suc i) d f h = get_or-inside xs i d f (omega arith)

-- a variable's place set: the assignment with its tuple there
pub assigned-set : (vs : List ℤ) (e : List ℕ) (v p : ℕ) → v < length e → assigned vs (set e v p) ≡ update (assigned vs e) v (tuple_at vs p)
assigned-set vs e v p h = fun_ext λ w. go w (eqb w v) refl
  where
    go : (w : ℕ) (b : Bool) → eqb w v ≡ b → assigned vs (set e v p) w ≡ update (assigned vs e) v (tuple_at vs p) w
    go w true k = rw k (ap (tuple_at vs) (ap (λ (i : ℕ). get_or (set e v p) i (length vs)) (eqb-true w v k) ∙ get_or-set_same e v p (length vs) h))
    go w false k = rw k (ap (tuple_at vs) (get_or-set_other e v w p (length vs) (eqb-false w v k)))

-- places past the values: no variable is bound yet
pub none-bound : (vs : List ℤ) → Unbound vs (replicate 256 (length vs))
none-bound vs =
    record {
      places = omega (arith, length-replicate 256 (length vs));
      none = fun_ext λ v. fun_ext λ a. ap (λ k. get_or vs (k + a) (pos 0)) (get_or-same 256 (length vs) v) ∙ get_or-eq_default vs (pos 0) (omega arith);
    }
