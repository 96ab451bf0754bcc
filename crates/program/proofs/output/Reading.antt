-- The values of a file: a turn of the loop over its bytes.
use mathlib.Core.Path.{◌≡◌, refl, sym, ap, ◌∙◌}
use mathlib.Core.Bool.{Bool, true, not, ◌||◌}
use mathlib.Core.List.{List, [], ◌∷◌, ◌++◌, append-nil, append_assoc}
use Prim.Native.Nat.{ℕ, suc, ◌+◌, ◌*◌, ◌/◌, ◌%◌, ◌≤◌, ◌<◌}
use native.Mathlib.Omega.{arith}
use native.Mathlib.Numerals.{add-one}
use lib.Dec.{eqb}
use lib.IntN.{ℤ}
use lib.ListN.{length, get_or, take, drop, set, length-drop}
use lib.Seq.{drop-cons, take-suc-set}
use borrow.Author.Tests.{lt-ltb, le-ltb}
use Rattle.model.specs.Meaning.{signed}
use Rattle.program.specs.Output as O

pub numbers-short : (xs : List ℕ) → length xs < 4 → O.numbers xs ≡ []
unfolding O.numbers
numbers-short [] h = refl
numbers-short (a ∷ []) h = refl
numbers-short (a ∷ b ∷ []) h = refl
numbers-short (a ∷ b ∷ c ∷ []) h = refl
numbers-short (a ∷ b ∷ c ∷ d ∷ r) h = absurd (omega arith)

numbers-step : (file : List ℕ) (k : ℕ) → k + 4 ≤ length file → O.numbers (drop k file) ≡ signed (get_or file k 0) (get_or file (k + 1) 0) (get_or file (k + 2) 0) (get_or file (k + 3) 0) ∷ O.numbers (drop (k + 4) file)
unfolding O.numbers
numbers-step file k h =
    let n1 : suc k ≡ k + 1 = omega arith in
    let n2 : suc (k + 1) ≡ k + 2 = omega arith in
    let n3 : suc (k + 2) ≡ k + 3 = omega arith in
    let n4 : suc (k + 3) ≡ k + 4 = omega arith in
    let d0 : drop k file ≡ get_or file k 0 ∷ drop (k + 1) file = drop-cons file k 0 (omega arith) ∙ ap (λ (j : ℕ). get_or file k 0 ∷ drop j file) n1 in
    let d1 : drop (k + 1) file ≡ get_or file (k + 1) 0 ∷ drop (k + 2) file = drop-cons file (k + 1) 0 (omega arith) ∙ ap (λ (j : ℕ). get_or file (k + 1) 0 ∷ drop j file) n2 in
    let d2 : drop (k + 2) file ≡ get_or file (k + 2) 0 ∷ drop (k + 3) file = drop-cons file (k + 2) 0 (omega arith) ∙ ap (λ (j : ℕ). get_or file (k + 2) 0 ∷ drop j file) n3 in
    let d3 : drop (k + 3) file ≡ get_or file (k + 3) 0 ∷ drop (k + 4) file = drop-cons file (k + 3) 0 (omega arith) ∙ ap (λ (j : ℕ). get_or file (k + 3) 0 ∷ drop j file) n4 in
    ap O.numbers (d0 ∙ ap (λ (l : List ℕ). get_or file k 0 ∷ l) (d1 ∙ ap (λ (l : List ℕ). get_or file (k + 1) 0 ∷ l) (d2 ∙ ap (λ (l : List ℕ). get_or file (k + 2) 0 ∷ l) d3)))

-- the first i values, and those that the bytes from k on stand for, are all
module _ (file : List ℕ) (vs : List ℤ) (i k : ℕ) (e : take i vs ++ O.numbers (drop k file) ≡ O.numbers file) where
  pub values-turn : k + 4 ≤ length file → i < length vs → (v : ℤ) → v ≡ signed (get_or file k 0) (get_or file (k + 1) 0) (get_or file (k + 2) 0) (get_or file (k + 3) 0)
      → take (i + 1) (set vs i v) ++ O.numbers (drop (k + 4) file) ≡ O.numbers file
  values-turn h l v ev =
      ap (λ (j : ℕ). take j (set vs i v) ++ O.numbers (drop (k + 4) file)) (add-one i)
      ∙ ap (λ (q : List ℤ). q ++ O.numbers (drop (k + 4) file)) (take-suc-set vs i v l)
      ∙ append_assoc (take i vs) (v ∷ []) (O.numbers (drop (k + 4) file))
      ∙ ap (λ (z : ℤ). take i vs ++ (z ∷ O.numbers (drop (k + 4) file))) ev
      ∙ ap (λ (q : List ℤ). take i vs ++ q) (sym (numbers-step file k h))
      ∙ e

  pub values-end : k ≡ 4 * i → k ≤ length file → length file < k + 4 → take (length file / 4) vs ≡ O.numbers file
  values-end ek h l =
      let n : length file / 4 ≡ i = omega arith in
      ap (λ (j : ℕ). take j vs) n ∙ sym (append-nil (take i vs))
      ∙ ap (λ (q : List ℤ). take i vs ++ q) (sym (numbers-short (drop k file) (omega (arith, length-drop k file))))
      ∙ e

-- the two grounds of an unreadable file
pub unreadable-long : (file : List ℕ) → 32768 < length file → true ≡ O.unreadable file
unreadable-long file h = sym (ap (λ (b : Bool). b || not (eqb (length file % 4) 0)) (lt-ltb 32768 (length file) h))

pub unreadable-odd : (file : List ℕ) → length file ≤ 32768 → not (eqb (length file % 4) 0) ≡ O.unreadable file
unreadable-odd file h = sym (ap (λ (b : Bool). b || not (eqb (length file % 4) 0)) (le-ltb 32768 (length file) h))
