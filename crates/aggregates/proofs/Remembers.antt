-- How a value is kept in the memo.
use mathlib.Core.Path.{◌≡◌, refl, sym, ap, ◌∙◌, subst}
use mathlib.Core.Bool.{true, false}
use mathlib.Core.List.{List}
use Prim.Native.Nat.{ℕ, zero, suc, ◌+◌, ◌*◌}
use native.Mathlib.Omega.{arith}
use lib.IntN.{ℤ, pos, nat_abs, ◌+ℤ◌}
use lib.Signed.{le_z}
use lib.ListN.{set}
use mir.Syntax.{w64}
use mir.Val.{SFits, to_z, of_z}
use mir.Facts.{to_z-of_z}
use Rattle.model.specs.Meaning as M
use Rattle.numbers.specs.Numbers.{Small, fraction, value_of}
use Rattle.numbers.specs.Memo.{remembered, numerator_of, mark_of}
use Rattle.numbers.specs.declared.Ratio.{Ratio}
use Rattle.numbers.proofs.Signed.{fits64}
use Rattle.numbers.proofs.Laws.{value_none, is_number, value-some}

pub remembered-is : (m y w : List ℤ) (v i : ℕ) (x : M.Value) (n d : ℤ) → i ≡ 2 * v → n ≡ numerator_of x → d ≡ mark_of x → y ≡ set m i n → w ≡ set y (i + 1) d → w ≡ remembered m v x
unfolding remembered
remembered-is m y w v i x n d ei en ed ey ew = ew ∙ rw (ey, ei, en, ed)

-- how a value is kept, by the test of its denominator
module _ (x : Ratio) (s : Small x) where
  pub numerator-none : le_z (to_z w64 (of_z w64 x.denominator)) (pos 0) ≡ true → pos 0 ≡ numerator_of (value_of x)
  numerator-none h = sym (ap numerator_of (value_none x s h))

  pub numerator-some : le_z (to_z w64 (of_z w64 x.denominator)) (pos 0) ≡ false → x.numerator ≡ numerator_of (value_of x)
  numerator-some h = sym (ap numerator_of (value-some x (is_number x s h)))

  mark-of : (n : ℤ) (d : ℕ) → mark_of (fraction n d) ≡ pos (suc d)
  mark-of n zero = refl
  mark-of n (suc d) = refl

  mark-bits : to_z w64 (of_z w64 x.denominator) +ℤ pos 1 ≡ pos (suc (nat_abs x.denominator))
  mark-bits = ap (λ (z : ℤ). z +ℤ pos 1) (to_z-of_z (fits64 x.denominator (omega (arith, s.denominator))) ∙ s.sign) ∙ ap pos (omega arith)

  pub mark-fits : SFits w64 (to_z w64 (of_z w64 x.denominator) +ℤ pos 1)
  mark-fits = subst (SFits w64) (sym mark-bits) (fits64 _ (omega (arith, s.denominator)))

  pub mark-is : to_z w64 (of_z w64 (to_z w64 (of_z w64 x.denominator) +ℤ pos 1)) ≡ mark_of (value_of x)
  mark-is = to_z-of_z mark-fits ∙ mark-bits ∙ sym (mark-of x.numerator (nat_abs x.denominator))
