-- One turn of the loop over the uses of a variable: what one record's use adds to the mask, and what is left after it.
use mathlib.Core.Path.{◌≡◌, refl, sym, ap, ◌∙◌}
use mathlib.Core.Bool.{Bool, true, false, ◌&&◌, ◌||◌}
use mathlib.Core.List.{List, [], ◌∷◌, ◌++◌}
use Prim.Native.Nat.{ℕ, ◌*◌, ◌%◌, ◌^◌, ◌<◌, ◌≤◌}
use native.Mathlib.Nat.{zero-div}
use native.Mathlib.Omega.{arith}
use lib.Dec.{eqb}
use lib.Bits.{bit_or}
use borrow.Author.Tests.{eq-eqb, ne_eqb}
use Rattle.model.specs.Lists.{any}
use Rattle.model.specs.Syntax.{Use}
use Rattle.model.specs.Permits.{bit}
use Rattle.model.proofs.Tests.{or-false, any_append}
use Rattle.kinds.specs.Record.{record_at}
use Rattle.scans.specs.Flat.{parts_of, use_of, flat_uses, used_in}
use Rattle.scans.proofs.Walk.{flat-on, flat-over}
use Rattle.guards.specs.Uses.{used_by}
use Rattle.guards.specs.declared.uses.Used.{Used}
use Rattle.std.specs.Prelude.{Option, None, Some}
use Rattle.guards.proofs.uses.Masks.{or-bit, power}

-- a use is added to a mask
module _ (m : ℕ) (u : Option Used) (w : ℕ) where
  pub add_none : u ≡ None → (a : ℕ) → a < 16 → bit m a ≡ (bit m a || used_in (used_by u) w a)
  unfolding used_in any
  add_none e a h = sym (ap (λ (y : Option Used). bit m a || used_in (used_by y) w a) e ∙ or-false (bit m a))

  module _ (v n : ℕ) (e : u ≡ Some (record { variable = v; attribute = n })) where
    only : (a : ℕ) → used_in (used_by u) w a ≡ (eqb v w && eqb n a)
    unfolding used_in any
    only a = ap (λ (y : Option Used). used_in (used_by y) w a) e ∙ or-false (eqb v w && eqb n a)

    pub add-other : (v ≡ w → ⊥) → (a : ℕ) → a < 16 → bit m a ≡ (bit m a || used_in (used_by u) w a)
    add-other k a h = sym (ap (λ (t : Bool). bit m a || t) (only a ∙ ap (λ (t : Bool). t && eqb n a) (ne_eqb v w k)) ∙ or-false (bit m a))

    pub add-past : 16 ≤ n → (a : ℕ) → a < 16 → bit m a ≡ (bit m a || used_in (used_by u) w a)
    add-past k a h = sym (ap (λ (t : Bool). bit m a || t) (only a ∙ ap (λ (t : Bool). eqb v w && t) (ne_eqb n a (λ x. omega arith)) ∙ no (eqb v w)) ∙ or-false (bit m a))
      where
        no : (b : Bool) → (b && false) ≡ false
        no true = refl
        no false = refl

    pub add-bit : v ≡ w → n < 16 → (a : ℕ) → a < 16 → bit (bit_or m ((1 * 2 ^ n) % 65536)) a ≡ (bit m a || used_in (used_by u) w a)
    add-bit k l a h =
        ap (λ (p : ℕ). bit (bit_or m p) a) (power n l) ∙ or-bit m n a l h ∙ ap (λ (t : Bool). bit m a || t) (sym (only a ∙ ap (λ (t : Bool). t && eqb n a) (eq-eqb v w k)))

pub used_start : (w : Bool) (a : ℕ) → (bit 0 a || w) ≡ w
unfolding bit
used_start w a = rw (zero-div (2 ^ a))

-- one turn of the walk, from s to t over a record
pub used-on : (s t x : List ℕ) → parts_of s ≡ x ∷ parts_of t → (u : Option Used) → used_by u ≡ use_of (record_at x) → (v a m m' : ℕ) (w : Bool) → bit m' a ≡ (bit m a || used_in (used_by u) v a) → (bit m a || used_in (flat_uses s) v a) ≡ w → (bit m' a || used_in (flat_uses t) v a) ≡ w
unfolding used_in
used-on s t x h u eu v a m m' w em e =
    let rest : List Use = flat_uses t in
    ap (λ (b : Bool). b || used_in rest v a) em
    ∙ assoc (bit m a) (used_in (used_by u) v a) (used_in rest v a)
    ∙ ap (λ (b : Bool). bit m a || b) (sym (any_append _ (used_by u) rest) ∙ ap (λ (l : List Use). used_in (l ++ rest) v a) eu ∙ ap (λ (l : List Use). used_in l v a) (sym (flat-on use_of s t x h)))
    ∙ e
  where
    assoc : (x y z : Bool) → ((x || y) || z) ≡ (x || (y || z))
    assoc true y z = refl
    assoc false y z = refl

-- nothing is left at the end
pub used-end : (s : List ℕ) → parts_of s ≡ [] → (v a m : ℕ) (w : Bool) → (bit m a || used_in (flat_uses s) v a) ≡ w → bit m a ≡ w
unfolding used_in any
used-end s h v a m w e = sym (or-false (bit m a)) ∙ ap (λ (l : List Use). bit m a || used_in l v a) (sym (flat-over use_of s h)) ∙ e
