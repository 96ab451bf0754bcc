-- Bytes written often.
use Prim.Native.Nat.{ℕ, zero, suc, ◌+◌}
use mathlib.Core.List.{List, [], ◌∷◌, ◌++◌, append_assoc}
use mathlib.Core.Path.{◌≡◌, refl, sym, ap, ◌∙◌}
use native.Mathlib.Omega.{arith}
use native.Mathlib.Numerals.{add-one}
use lib.ListN.{length, length-append}
use lib.Seq.{sets}
use Rattle.quel.specs.Writing.{often}
use Rattle.copier.proofs.Sets.{sets_then}
use mathlib.Core.Bool.{false}
use lib.Dec.{eqb, leb}
use Rattle.elaborate.specs.declared.modes.Mode.{Mode}
use Rattle.elaborate.specs.declared.modes.Mode.TheVariants as M
use Rattle.elaborate.specs.Modes.{mode_no}

pub often-length : (n b : ℕ) → length (often n b []) ≡ n
unfolding often
often-length zero b = refl
often-length (suc n) b = ap suc (often-length n b)

often-more : (n b : ℕ) → often n b [] ++ (b ∷ []) ≡ often (suc n) b []
unfolding often
often-more zero b = refl
often-more (suc n) b = ap (λ (l : List ℕ). b ∷ l) (often-more n b)

pub often-start : (d : List ℕ) (at b : ℕ) → d ≡ sets d at (often 0 b [])
unfolding often
often-start d at b = refl

pub often-turn : (d x y : List ℕ) (at i b : ℕ) → x ≡ sets d at (often i b []) → y ≡ sets x (at + i) (b ∷ []) → y ≡ sets d at (often (i + 1) b [])
often-turn d x y at i b ex ey =
    sets_then (often i b []) d at (b ∷ []) x y (at + i) ex (ap (λ (n : ℕ). at + n) (sym (often-length i b))) ey
    ∙ ap (sets d at) (often-more i b ∙ ap (λ (n : ℕ). often n b []) (sym (add-one i)))

-- three runs one after the other
pub three : (d x y r : List ℕ) (at p q s : ℕ) (a b c : List ℕ)
    → p ≡ at + length a → x ≡ sets d at a → q ≡ p + length b → y ≡ sets x p b → s ≡ q + length c → r ≡ sets y q c
    → (s ≡ at + length (a ++ (b ++ c))) × (r ≡ sets d at (a ++ (b ++ c)))
three d x y r at p q s a b c ep ex eq ey es er =
    let xy : y ≡ sets d at (a ++ b) = sets_then a d at b x y p ex ep ey in
    let l = length-append a b in (
      omega (arith, ep, eq, es, length-append a (b ++ c), length-append b c),
      sets_then (a ++ b) d at c y r q xy (omega (arith, ep, eq, l)) er ∙ ap (sets d at) (append_assoc a b c),
    )

-- V's, ^'s and a sign
pub opened-all : (d x y r : List ℕ) (at p q s n o l a : ℕ) (c : List ℕ)
    → n ≡ o → l ≡ a → p ≡ at + n → x ≡ sets d at (often n 20 []) → q ≡ p + l → y ≡ sets x p (often l 19 []) → s ≡ q + length c → r ≡ sets y q c
    → (s ≡ at + length (often o 20 [] ++ (often a 19 [] ++ c))) × (r ≡ sets d at (often o 20 [] ++ (often a 19 [] ++ c)))
opened-all d x y r at p q s n o l a c en el ep ex eq ey es er =
    three d x y r at p q s (often o 20 []) (often a 19 []) c
    (omega (arith, ep, en, often-length o 20)) (ex ∙ ap (λ (m : ℕ). sets d at (often m 20 [])) en)
    (omega (arith, eq, el, often-length a 19)) (ey ∙ ap (λ (m : ℕ). sets x p (often m 19 [])) el) es er

-- a mode in which neither V's nor ^'s are opened
pub neither : (m : Mode) → (m ≡ M.Condition → ⊥) → (m ≡ M.Conjunct → ⊥) → (eqb (mode_no m) 0 ≡ false) × (leb (mode_no m) 1 ≡ false)
neither M.Condition a b = absurd (a refl)
neither M.Conjunct a b = absurd (b refl)
neither M.Factor a b = (refl, refl)
neither M.Rest a b = (refl, refl)
neither M.InSome a b = (refl, refl)
neither M.InAttribute a b = (refl, refl)
neither M.InAggregate a b = (refl, refl)
