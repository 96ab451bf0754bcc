-- What a memo knows keeps its bounds, and is what was remembered last.
use mathlib.Core.Path.{◌≡◌, refl, sym, ap, ap₂, ◌∙◌, subst}
use mathlib.Core.Bool.{Bool, true, false, cond}
use mathlib.Core.List.{List, [], ◌∷◌}
use Prim.Native.Nat.{ℕ, zero, suc, ◌+◌, ◌-◌, ◌*◌, ◌≤◌}
use native.Mathlib.Omega.{arith}
use native.Mathlib.Numerals.{sub-one}
use lib.IntN.{ℤ, pos, negsuc, neg_ℤ, nat_abs, ◌-ℤ◌}
use lib.Signed.{lt_z}
use lib.Dec.{leb, eqb}
use lib.ListN.{length, get_or}
use mir.Syntax.{w64}
use mir.Val.{SFits}
use Rattle.numbers.proofs.Signed.{fits64}
use borrow.Author.Tests.{leb-true, le-ltb}
use Rattle.model.proofs.Tests.{and-inv, clash}
use Rattle.model.specs.Meaning as M
use Rattle.numbers.specs.Numbers.{Small, fraction, value_of}
use Rattle.numbers.specs.Memo.{within, knows, recalled, numerator_at, mark_at, numerator_of, mark_of}
use Rattle.numbers.proofs.Laws.{small-over}
use Rattle.numbers.specs.declared.Ratio.{Ratio}

-- bounds on both sides bound the absolute value
pub abs-within : (k : ℕ) (z : ℤ) → within (neg_ℤ (pos (suc k))) z (pos (suc k)) ≡ true → nat_abs z ≤ suc k
abs-within k (pos n) h = leb-true n (suc k) h
abs-within k (negsuc n) h = let l = leb-true n k (and-inv (leb n k) true h).0 in omega arith

positive : (k : ℕ) (z : ℤ) → within (pos 1) z (pos k) ≡ true → (1 ≤ nat_abs z) × (nat_abs z ≤ k) × (z ≡ pos (nat_abs z))
positive k (pos n) h = let i = and-inv (leb 1 n) (leb n k) h in (leb-true 1 n i.0, leb-true n k i.1, refl)
positive k (negsuc n) h = clash h

less : (n : ℕ) → 1 ≤ n → pos n -ℤ pos 1 ≡ pos (n - 1)
less zero h = absurd (omega arith)
less (suc n) h = rw (le-ltb (suc n) 1 (omega arith))

-- a mark less 1 is a denominator
pub mark-less : (z : ℤ) → within (pos 1) z (pos 65536) ≡ true → (z -ℤ pos 1 ≡ pos (nat_abs z - 1)) × (nat_abs z - 1 ≤ 65535)
mark-less z h = let p = positive 65536 z h in (ap (λ (y : ℤ). y -ℤ pos 1) p.2 ∙ less (nat_abs z) p.0, omega (arith, p.1))

-- what is read of a memo that knows the variable: the mark d, and the numerator n
module _ (m : List ℤ) (v i : ℕ) (d : ℤ) (h : knows m v ≡ true) (ei : i ≡ 2 * v) (ed : d ≡ get_or m (i + 1) (pos 0)) where
  inside : (nat_abs (numerator_at m v) ≤ 140735340871680) × (within (pos 1) (mark_at m v) (pos 65536) ≡ true)
  unfolding knows
  inside =
      let k = and-inv (within (neg_ℤ (pos 140735340871680)) (numerator_at m v) (pos 140735340871680)) (within (pos 1) (mark_at m v) (pos 65536)) h in
      (abs-within 140735340871679 (numerator_at m v) k.0, k.1)

  mark-read : d -ℤ pos 1 ≡ pos (nat_abs (mark_at m v) - 1)
  mark-read = ap (λ (z : ℤ). z -ℤ pos 1) (ed ∙ ap (λ (j : ℕ). get_or m (j + 1) (pos 0)) ei) ∙ (mark-less (mark_at m v) inside.1).0

  pub recall-fits : SFits w64 (d -ℤ pos 1)
  recall-fits = subst (SFits w64) (sym mark-read) (fits64 _ (omega (arith, (mark-less (mark_at m v) inside.1).1)))

  pub recall-is : (n : ℤ) (r : Ratio) → n ≡ get_or m i (pos 0) → r ≡ record { numerator = n; denominator = d -ℤ pos 1 } → (value_of r ≡ recalled m v) × Small r
  unfolding recalled
  recall-is n r en er =
      let same : r ≡ record { numerator = numerator_at m v; denominator = pos (nat_abs (mark_at m v) - 1) } = er ∙ ap₂ (λ (x y : ℤ). record { numerator = x; denominator = y }) (en ∙ ap (λ (j : ℕ). get_or m j (pos 0)) ei) mark-read in
      (ap value_of same, subst Small (sym same) (small-over (numerator_at m v) (nat_abs (mark_at m v) - 1) inside.0 (mark-less (mark_at m v) inside.1).1))

-- values that are read back as they were kept: those of aggregates, whose denominators are not 0
abbrev pub Keeps : M.Value → Type 0
Keeps x = fraction (numerator_of x) (nat_abs (mark_of x) - 1) ≡ x

keeps-pick : (b : Bool) (x y : M.Value) → Keeps x → Keeps y → Keeps (cond b x y)
keeps-pick true x y h k = h
keeps-pick false x y h k = k

keeps-average : (xs : List ℤ) → Keeps (M.average xs)
unfolding M.average
keeps-average [] = refl
keeps-average (x ∷ xs) = ap (fraction (M.sum (x ∷ xs))) (sub-one (suc (suc (length xs))))

keeps-best : (beaten : ℤ → ℤ → Bool) (xs : List ℤ) → Keeps (M.best beaten xs)
unfolding M.best
keeps-best beaten [] = refl
keeps-best beaten (x ∷ xs) = refl

pub keeps-aggregate : (f : ℕ) (xs : List ℤ) → Keeps (M.aggregate f xs)
unfolding M.aggregate
keeps-aggregate f xs =
    keeps-pick (eqb f 1) _ _ refl
    (keeps-pick (eqb f 2) _ _ refl
    (keeps-pick (eqb f 3) _ _ (keeps-average xs)
    (keeps-pick (eqb f 4) _ _ (keeps-best lt_z xs) (keeps-best (λ a b. lt_z b a) xs))))
