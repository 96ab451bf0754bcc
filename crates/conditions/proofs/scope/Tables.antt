-- A table of the variables in reach, written and read.
use mathlib.Core.Path.{◌≡◌, refl, sym, ap, ◌∙◌, fun_ext}
use mathlib.Core.Bool.{Bool, true, false}
use mathlib.Core.List.{List}
use mathlib.Core.Option.{some}
use Prim.Native.Nat.{ℕ, suc, ◌+◌, ◌-◌, ◌<◌}
use native.Mathlib.Omega.{arith}
use lib.Dec.{eqb, ltb}
use lib.ListN.{length, get_or, set, replicate}
use lib.Seq.{get_or-set_same, get_or-set_other}
use borrow.Author.Tests.{eqb-true, eqb-false}
use Rattle.model.specs.Lists.{update}
use Rattle.model.proofs.Lists.{get_or-same}
use Rattle.model.specs.Catalogue.{Shape, attributes_at}
use Rattle.model.specs.Scope.{Scope, nobody, known_attribute}
use Rattle.conditions.specs.Reach.{reached, scope_of}

-- a variable put in reach
pub scope-set : (s : List ℕ) (v r : ℕ) → v < length s → scope_of (set s v (r + 1)) ≡ update (scope_of s) v (some r)
scope-set s v r h = fun_ext λ w. go w (eqb w v) refl
  where
    go : (w : ℕ) (b : Bool) → eqb w v ≡ b → scope_of (set s v (r + 1)) w ≡ update (scope_of s) v (some r) w
    go w true e =
        let p : get_or (set s v (r + 1)) w 0 ≡ suc r = ap (λ (i : ℕ). get_or (set s v (r + 1)) i 0) (eqb-true w v e) ∙ get_or-set_same s v (r + 1) 0 h ∙ omega arith in
        rw (e, p)
    go w false e = rw (e, get_or-set_other s v w (r + 1) 0 (eqb-false w v e))

-- no variable is in reach at first
pub scope-blank : (n : ℕ) → scope_of (replicate n 0) ≡ nobody
scope-blank n = fun_ext λ v. rw (get_or-same {A = ℕ} n 0 v)

-- one variable in reach
pub scope-one : (v r : ℕ) → v < 256 → scope_of (set (replicate 256 0) v (r + 1)) ≡ update nobody v (some r)
scope-one v r h = scope-set (replicate 256 0) v r (omega arith) ∙ ap (λ (σ : Scope). update σ v (some r)) (scope-blank 256)

-- an attribute of a variable
pub out-of-reach : (sh : Shape) (s : List ℕ) (v a x : ℕ) → x ≡ get_or s v 0 → x ≡ 0 → false ≡ known_attribute sh (scope_of s v) a
unfolding known_attribute
out-of-reach sh s v a x e h = sym (rw (sym e ∙ h))

pub in_reach : (sh : Shape) (s : List ℕ) (v a x y : ℕ) (b : Bool) → x ≡ get_or s v 0 → (x ≡ 0 → ⊥) → y ≡ x - 1 → b ≡ ltb a (attributes_at sh y) → b ≡ known_attribute sh (scope_of s v) a
unfolding known_attribute
in_reach sh s v a x y b e h ey eb =
    let p : get_or s v 0 ≡ suc y = omega arith in
    eb ∙ sym (ap (λ (n : ℕ). known_attribute sh (reached n) a) p)
