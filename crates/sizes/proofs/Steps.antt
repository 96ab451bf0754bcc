-- One record of a measured condition or term: what the reader of conditions does.
use mathlib.Core.Path.{◌≡◌, refl, sym, ◌∙◌}
use mathlib.Core.Bool.{Bool, true, false, not, cond}
use mathlib.Core.List.{List}
use Prim.Native.Nat.{ℕ, zero, suc, ◌-◌}
use native.Mathlib.Numerals.{sub-one}
use borrow.Author.Tests.{not-true, not-false}
use lib.ListN.{get_or}
use Rattle.kinds.specs.Tables.{record_length}
use Rattle.kinds.specs.Record.{record_at}
use Rattle.kinds.specs.declared.Record.TheVariants as R
use Rattle.sizes.specs.Measured.{accepts, children_of, child_term, Measured, leaves, children, stored, measured}
use Rattle.std.specs.Prelude.{None}

-- no record is accepted where there is none
pub none-accepted : (t : Bool) → accepts t R.Unknown ≡ false
none-accepted true = refl
none-accepted false = refl

pub zero_is : (l : ℕ) (t : Bool) (q : List ℕ) (p : ℕ) (z : List ℕ) → l ≡ 0 → leaves None z ≡ measured l t q p z
unfolding measured
zero_is l t q p z h = rw h

module _ (l : ℕ) (t : Bool) (q : List ℕ) (p : ℕ) (z : List ℕ) (h : l ≡ 0 → ⊥) where
  body : ℕ → ℕ → Measured
  body m k = cond (accepts t (record_at q)) (stored p (children (children_of k) (record_length k) (λ x m' y. measured m (child_term k) x m' y) q p z)) (leaves None z)

  level : (m : ℕ) → (m ≡ 0 → ⊥) → body (m - 1) (get_or q 0 0) ≡ measured m t q p z
  unfolding measured body
  level zero n = absurd (n refl)
  level (suc m) n = rw sub-one

  pub wrong : (b : Bool) → b ≡ accepts t (record_at q) → not b ≡ true → leaves None z ≡ measured l t q p z
  unfolding body
  wrong b eb e =
      let w : accepts t (record_at q) ≡ false = sym eb ∙ not-true b e in
      sym (rw w) ∙ level l h

  pub whole : (b : Bool) (k n a : ℕ) (s : Bool) → b ≡ accepts t (record_at q) → not b ≡ false → k ≡ get_or q 0 0 → n ≡ children_of k → s ≡ child_term k → a ≡ record_length k → stored p (children n a (λ x m y. measured (l - 1) s x m y) q p z) ≡ measured l t q p z
  unfolding body
  whole b k n a s eb e ek en es ea =
      let w : accepts t (record_at q) ≡ true = sym eb ∙ not-false b e in
      rw (en, es, ea, ek) (sym (rw w) ∙ level l h)
