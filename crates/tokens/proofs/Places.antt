-- Bytes from a place on: the first of them, and the longest front that passes.
use Prim.Native.Nat.{ℕ, ◌+◌, ◌≤◌, ◌<◌}
use mathlib.Core.Bool.{Bool, true, false, cond, ◌&&◌}
use mathlib.Core.List.{List, [], ◌∷◌}
use mathlib.Core.Path.{◌≡◌, refl, sym, ◌∙◌, ap}
use native.Mathlib.Omega.{arith}
use native.Mathlib.Numerals.{add-one}
use lib.Dec.{eqb, leb}
use lib.ListN.{length, get_or, take, drop, length-drop, drop_of_length-le}
use lib.Seq.{drop-cons}
use borrow.Author.Tests.{leb-true, leb-false, eq-eqb, ne_eqb}
use Rattle.model.specs.Lists.{all}
use Rattle.model.proofs.Tests.{clash, and-inv}
use Rattle.quel.specs.Tokens.{run, past}
use Rattle.quel.specs.Lexical.{first}
use Rattle.tokens.specs.Spans.{within}

pub split : (text : List ℕ) (i : ℕ) → i < length text → drop i text ≡ get_or text i 0 ∷ drop (i + 1) text
split text i h = rw (add-one, drop-cons text i 0)

module _ (p : ℕ → Bool) where
  pub first-at : (text : List ℕ) (i : ℕ) → i < length text → first p (drop i text) ≡ p (get_or text i 0)
  first-at text i h = ap (first p) (split text i h)

  pub first-end : (text : List ℕ) (i : ℕ) → length text ≤ i → first p (drop i text) ≡ false
  first-end text i h = ap (first p) (drop_of_length-le text h)

  first_some : (s : List ℕ) → first p s ≡ true → 1 ≤ length s
  first_some [] h = clash h
  first_some (b ∷ s) h = omega arith

  pub first-lt : (text : List ℕ) (i : ℕ) → first p (drop i text) ≡ true → i < length text
  first-lt text i h = omega (arith, first_some (drop i text) h, length-drop i text)

  stop-run : (s : List ℕ) → first p s ≡ false → run p s ≡ []
  unfolding run
  stop-run [] h = refl
  stop-run (b ∷ s) h = rw h

  go-run : (b : ℕ) (s : List ℕ) → p b ≡ true → run p (b ∷ s) ≡ b ∷ run p s
  unfolding run
  go-run b s h = rw h

  pub run_length : (s : List ℕ) → length (run p s) ≤ length s
  unfolding run
  run_length [] = omega arith
  run_length (b ∷ s) = go (p b) (run_length s)
    where
      go : (x : Bool) → length (run p s) ≤ length s → length (cond x (b ∷ run p s) []) ≤ length (b ∷ s)
      go true h = omega arith
      go false h = omega arith

  pub take-run : (s : List ℕ) → take (length (run p s)) s ≡ run p s
  unfolding run
  take-run [] = refl
  take-run (b ∷ s) = go (p b) (take-run s)
    where
      go : (x : Bool) → take (length (run p s)) s ≡ run p s → take (length (cond x (b ∷ run p s) [])) (b ∷ s) ≡ cond x (b ∷ run p s) []
      go true h = ap (λ (l : List ℕ). b ∷ l) h
      go false h = refl

  pub drop-run : (s : List ℕ) → drop (length (run p s)) s ≡ past p s
  unfolding run past
  drop-run [] = refl
  drop-run (b ∷ s) = go (p b) (drop-run s)
    where
      go : (x : Bool) → drop (length (run p s)) s ≡ past p s → drop (length (cond x (b ∷ run p s) [])) (b ∷ s) ≡ cond x (past p s) (b ∷ s)
      go true h = h
      go false h = refl

  pub run-all : (s : List ℕ) → all p (run p s) ≡ true
  unfolding run all
  run-all [] = refl
  run-all (b ∷ s) = go (p b) refl (run-all s)
    where
      go : (x : Bool) → p b ≡ x → all p (run p s) ≡ true → all p (cond x (b ∷ run p s) []) ≡ true
      go true e h = rw (e, h)
      go false e h = refl

  -- at a place of a text
  module _ (text : List ℕ) (i : ℕ) where
    pub run-stops : first p (drop i text) ≡ false → run p (drop i text) ≡ []
    run-stops h = stop-run (drop i text) h

    module _ (h : first p (drop i text) ≡ true) where
      pub passed : p (get_or text i 0) ≡ true
      passed = sym (first-at text i (first-lt text i h)) ∙ h

      pub run-goes : run p (drop i text) ≡ get_or text i 0 ∷ run p (drop (i + 1) text)
      run-goes = ap (run p) (split text i (first-lt text i h)) ∙ go-run (get_or text i 0) (drop (i + 1) text) passed

pub within-bounds : (low high b : ℕ) → within low high b ≡ true → (low ≤ b) × (b ≤ high)
within-bounds low high b h = let i = and-inv (leb low b) (leb b high) h in (leb-true low b i.0, leb-true b high i.1)

-- one byte as a class
pub only : (k b : ℕ) → within k k b ≡ eqb b k
only k b = go (leb k b) refl (leb b k) refl
  where
    go : (x : Bool) → leb k b ≡ x → (y : Bool) → leb b k ≡ y → x && y ≡ eqb b k
    go true e true f = sym (eq-eqb b k (omega (arith, leb-true k b e, leb-true b k f)))
    go true e false f = sym (ne_eqb b k (λ h. omega (arith, leb-false b k f)))
    go false e y f = sym (ne_eqb b k (λ h. omega (arith, leb-false k b e)))
