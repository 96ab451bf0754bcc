-- A branch written in the table, and read back.
use Prim.Native.Nat.{ℕ, zero, suc, ◌+◌, ◌≤◌, ◌<◌}
use mathlib.Core.List.{List, [], ◌∷◌}
use mathlib.Core.Path.{◌≡◌, refl, ap, ◌∙◌}
use native.Mathlib.Omega.{arith}
use lib.ListN.{length, get_or, set, length-set}
use lib.Seq.{sets, get_or-set_same, get_or-set_other}

-- stores one after the other
eight : (t : List ℕ) (i a b c d e f g h : ℕ) → set (set (set (set (set (set (set (set t i a) (i + 1) b) (i + 2) c) (i + 3) d) (i + 4) e) (i + 5) f) (i + 6) g) (i + 7) h ≡ sets t i (a ∷ b ∷ c ∷ d ∷ e ∷ f ∷ g ∷ h ∷ [])
eight t i a b c d e f g h =
    let i₁ : i + 1 ≡ suc i = omega arith in
    let i₂ : i + 2 ≡ suc (suc i) = omega arith in
    let i₃ : i + 3 ≡ suc (suc (suc i)) = omega arith in
    let i₄ : i + 4 ≡ suc (suc (suc (suc i))) = omega arith in
    let i₅ : i + 5 ≡ suc (suc (suc (suc (suc i)))) = omega arith in
    let i₆ : i + 6 ≡ suc (suc (suc (suc (suc (suc i))))) = omega arith in
    let i₇ : i + 7 ≡ suc (suc (suc (suc (suc (suc (suc i)))))) = omega arith in
    rw (i₁, i₂, i₃, i₄, i₅, i₆, i₇)

pub written : (t : List ℕ) (i o a b c d met x unmet y : ℕ) → x ≡ met → y ≡ unmet
    → set (set (set (set (set (set (set (set t i o) (i + 1) a) (i + 2) b) (i + 3) c) (i + 4) d) (i + 5) x) (i + 6) y) (i + 7) 0 ≡ sets t i (o ∷ a ∷ b ∷ c ∷ d ∷ met ∷ unmet ∷ 0 ∷ [])
written t i o a b c d met x unmet y ex ey = rw (ex, ey) (eight t i o a b c d met unmet 0)

pub four : (t : List ℕ) (i a b c d : ℕ) → set (set (set (set t i a) (i + 1) b) (i + 2) c) (i + 3) d ≡ sets t i (a ∷ b ∷ c ∷ d ∷ [])
four t i a b c d =
    let i₁ : i + 1 ≡ suc i = omega arith in
    let i₂ : i + 2 ≡ suc (suc i) = omega arith in
    let i₃ : i + 3 ≡ suc (suc (suc i)) = omega arith in
    rw (i₁, i₂, i₃)

module _ {A : Type 0} (d : A) where
  -- what stands before a run, behind it, and in it
  pub sets-before : (vs l : List A) (i n : ℕ) → n < i → get_or (sets l i vs) n d ≡ get_or l n d
  sets-before [] l i n h = refl
  sets-before (a ∷ vs) l i n h = sets-before vs (set l i a) (suc i) n (omega arith) ∙ get_or-set_other l i n a d (λ e. absurd (omega (arith, e)))

  pub sets-after : (vs l : List A) (i n : ℕ) → i + length vs ≤ n → get_or (sets l i vs) n d ≡ get_or l n d
  sets-after [] l i n h = refl
  sets-after (a ∷ vs) l i n h = sets-after vs (set l i a) (suc i) n (omega arith) ∙ get_or-set_other l i n a d (λ e. absurd (omega (arith, e)))

  pub sets-at : (vs l : List A) (i j : ℕ) → i + length vs ≤ length l → j < length vs → get_or (sets l i vs) (i + j) d ≡ get_or vs j d
  sets-at [] l i j h k = absurd (omega arith)
  sets-at (a ∷ vs) l i zero h k =
      let e : i + 0 ≡ i = omega arith in
      ap (λ (n : ℕ). get_or (sets (set l i a) (suc i) vs) n d) e ∙ sets-before vs (set l i a) (suc i) i (omega arith) ∙ get_or-set_same l i a d (omega arith)
  sets-at (a ∷ vs) l i (suc j) h k =
      let e : i + suc j ≡ suc i + j = omega arith in
      ap (λ (n : ℕ). get_or (sets (set l i a) (suc i) vs) n d) e ∙ sets-at vs (set l i a) (suc i) j (omega (arith, length-set l i a)) (omega arith)
