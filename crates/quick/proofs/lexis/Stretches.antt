-- A counted loop over bytes of one class: what is left, added to what was passed, is the whole.
use Prim.Native.Nat.{ℕ, zero, suc, ◌+◌, ◌*◌, ◌-◌, ◌≤◌}
use mathlib.Core.Bool.{true, false}
use mathlib.Core.List.{List}
use mathlib.Core.Path.{◌≡◌, refl, sym, ◌∙◌, ap, subst}
use native.Mathlib.Nat.{le-mul_of_pos_right, mul_comm}
use native.Mathlib.Omega.{arith}
use native.Mathlib.Numerals.{add-one}
use lib.ListN.{length, get_or, drop}
use Rattle.quel.specs.Tokens.{run}
use Rattle.quel.specs.Lexical.{first}
use Rattle.tokens.specs.Spans.{within, positional, capped}
use Rattle.tokens.proofs.Places.{run-stops, run-goes}
use Rattle.tokens.proofs.Values.{capped-low}
use Rattle.quick.specs.Lexis.{Stretch}

pub record Sofar (text : List ℕ) (low high base start i j v : ℕ) : Type 0 where
  pub ends : j + length (run (within low high) (drop j text)) ≡ i + length (run (within low high) (drop i text))
  pub spells : capped (positional base low v (run (within low high) (drop j text))) ≡ capped (positional base low start (run (within low high) (drop i text)))

module _ (text : List ℕ) (low high base start i : ℕ) where
  pub sofar-none : Sofar text low high base start i (i + 0) start
  sofar-none = subst (λ (j : ℕ). Sofar text low high base start i j start) (let z : i ≡ i + 0 = omega arith in z) (record { ends = refl; spells = refl })

  module _ (n v : ℕ) (h : Sofar text low high base start i (i + n) v) where
    pub sofar-more : first (within low high) (drop (i + n) text) ≡ true → (w : ℕ) → w ≡ base * v + (get_or text (i + n) 0 - low) → Sofar text low high base start i (i + (n + 1)) w
    unfolding positional
    sofar-more f w e = subst (λ (j : ℕ). Sofar text low high base start i j w) (let z : i + n + 1 ≡ i + (n + 1) = omega arith in z) (record {
      ends = omega (arith, h.ends, ap length (run-goes (within low high) text (i + n) f));
      spells =
          ap (λ (x : ℕ). capped (positional base low x (run (within low high) (drop (i + n + 1) text)))) e
          ∙ (ap (λ (l : List ℕ). capped (positional base low v l)) (sym (run-goes (within low high) text (i + n) f)) ∙ h.spells);
    })

    pub sofar-ends : first (within low high) (drop (i + n) text) ≡ false → v ≤ 288230376151711744 → Stretch text low high base start i (i + n) v
    unfolding positional
    sofar-ends f l = record {
      ends = omega (arith, h.ends, ap length (run-stops (within low high) text (i + n) f));
      spells = sym (capped-low v l) ∙ (ap (λ (x : List ℕ). capped (positional base low v x)) (sym (run-stops (within low high) text (i + n) f)) ∙ h.spells);
    }

-- the largest number of n digits after a start
unfoldable pub most : ℕ → ℕ → ℕ → ℕ
most base start zero = start
most base start (suc n) = base * most base start n + (base - 1)

module _ (base start : ℕ) (b : 1 ≤ base) where
  most-up : (n : ℕ) → most base start n ≤ most base start (suc n)
  unfolding most
  most-up n = omega (arith, le-mul_of_pos_right (most base start n) b, mul_comm (most base start n) base)

  most-le : (n k m : ℕ) → m ≡ k + n → most base start n ≤ most base start m
  most-le n zero m e = subst (λ (x : ℕ). most base start n ≤ most base start x) (let z : n ≡ m = omega arith in z) (omega arith)
  most-le n (suc k) m e = subst (λ (x : ℕ). most base start n ≤ most base start x) (let z : suc (k + n) ≡ m = omega arith in z) (omega (arith, most-le n k (k + n) refl, most-up (k + n)))

  pub most-within : (n m v : ℕ) → n ≤ m → v ≤ most base start n → v ≤ most base start m
  most-within n m v l h = omega (arith, h, most-le n (m - n) m (omega arith))

-- twelve letters, ten digits
pub letters-more : (n v d : ℕ) → v ≤ most 26 1 n → d ≤ 25 → 26 * v + d ≤ most 26 1 (n + 1)
unfolding most
letters-more n v d h k = subst (λ (x : ℕ). 26 * v + d ≤ most 26 1 x) (sym (add-one n)) (omega (arith, h, k))

pub letters-fit : (n v : ℕ) → n ≤ 12 → v ≤ most 26 1 n → v ≤ 190857913323364351
unfolding most
letters-fit n v l h = most-within 26 1 (omega arith) n 12 v l h

pub digits_more : (n v d : ℕ) → v ≤ most 10 0 n → d ≤ 9 → 10 * v + d ≤ most 10 0 (n + 1)
unfolding most
digits_more n v d h k = subst (λ (x : ℕ). 10 * v + d ≤ most 10 0 x) (sym (add-one n)) (omega (arith, h, k))

pub digits-fit : (n v : ℕ) → n ≤ 10 → v ≤ most 10 0 n → v ≤ 9999999999
unfolding most
digits-fit n v l h = most-within 10 0 (omega arith) n 10 v l h
