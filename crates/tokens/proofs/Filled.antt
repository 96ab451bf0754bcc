-- Spaces after letters, and whether these are a name.
use mathlib.Core.Path.{◌≡◌, refl, sym, ap, ap₂, ◌∙◌}
use mathlib.Core.Bool.{Bool, true, false, not, ◌&&◌}
use mathlib.Core.List.{List, [], ◌∷◌}
use Prim.Native.Nat.{ℕ, ◌+◌, ◌<◌, ◌≤◌}
use native.Mathlib.Numerals.{add-one}
use native.Mathlib.Omega.{arith}
use lib.Dec.{eqb, leb}
use lib.ListN.{length, get_or, drop, drop_of_length-le}
use lib.Seq.{drop-cons}
use borrow.Author.Tests.{le-leb, lt-leb, leb-true, leb-false, ne_eqb}
use Rattle.std.specs.Prelude.{zero, suc, Option, Some, None, option_map, is_none}
use Rattle.std.specs.List.{list_all}
use Rattle.model.specs.Lists.{all}
use Rattle.quel.specs.Tokens.{is_letter, run, reserved, is_reserved}
use Rattle.tokens.specs.Spans.{capped}
use Rattle.tokens.specs.Kinds.{number_of, code_of, kind_spelled, nonzero, is_name}
use Rattle.tokens.specs.declared.Kind.{Kind}
use Rattle.tokens.proofs.Places.{run-all}
use Rattle.tokens.proofs.Words.{reserved-kind}

module _ (y : List ℕ) (p : ℕ → Bool) where
  module _ (i : ℕ) (s : Bool) (h : i < length y) (e : all p (drop i y) ≡ s) where
    here : drop i y ≡ get_or y i 0 ∷ drop (i + 1) y
    here = drop-cons y i 0 h ∙ ap (λ (n : ℕ). get_or y i 0 ∷ drop n y) (sym (add-one i))

    pub spaces-on : p (get_or y i 0) ≡ true → all p (drop (i + 1) y) ≡ s
    unfolding all
    spaces-on hp = sym (ap (λ (t : Bool). t && all p (drop (i + 1) y)) hp) ∙ sym (ap (all p) here) ∙ e

    pub spaces-stop : p (get_or y i 0) ≡ false → false ≡ s
    unfolding all
    spaces-stop hp = sym (ap (λ (t : Bool). t && all p (drop (i + 1) y)) hp) ∙ sym (ap (all p) here) ∙ e

  no_more : (i : ℕ) → length y ≤ i → true ≡ all p (drop i y)
  unfolding all
  no_more i h = sym (ap (all p) (drop_of_length-le y h))

  and-assoc : (s b r : Bool) → (s && b) && r ≡ s && (b && r)
  and-assoc true b r = refl
  and-assoc false b r = refl

  -- every byte looked at: one more behind the letters, and the end
  pub spaces-met : (n i : ℕ) (s b : Bool) → i < length y → s && all p (drop i y) ≡ all p (drop n y) → b ≡ p (get_or y i 0) → (s && b) && all p (drop (i + 1) y) ≡ all p (drop n y)
  unfolding all
  spaces-met n i s b h e k = and-assoc s b (all p (drop (i + 1) y)) ∙ ap (λ (t : Bool). s && (t && all p (drop (i + 1) y))) k ∙ ap (λ (t : Bool). s && t) (sym (ap (all p) (here i (all p (drop i y)) h refl))) ∙ e

  pub spaces-seen : (n i : ℕ) (s : Bool) → length y ≤ i → (i ≤ n → s ≡ true) → (n ≤ i → s && all p (drop i y) ≡ all p (drop n y)) → s ≡ all p (drop n y)
  spaces-seen n i s h l e = go (leb n i) refl
    where
      whole : (s : Bool) → s ≡ s && true
      whole true = refl
      whole false = refl

      go : (t : Bool) → leb n i ≡ t → s ≡ all p (drop n y)
      go true f = whole s ∙ ap (λ (t : Bool). s && t) (no_more i h) ∙ e (leb-true n i f)
      go false f = let k = leb-false n i f in l (omega arith) ∙ no_more n (omega (arith, h))

  -- from the nth on
  module _ (n : ℕ) where
    pub spaces-first : (i : ℕ) → i ≡ n → all p (drop i y) ≡ all p (drop n y)
    spaces-first i e = ap (λ (m : ℕ). all p (drop m y)) e

    pub spaces-end : (i : ℕ) → length y ≤ i → (n ≤ i → all p (drop i y) ≡ all p (drop n y)) → true ≡ all p (drop n y)
    spaces-end i h e = go (leb n i) refl
      where
        go : (t : Bool) → leb n i ≡ t → true ≡ all p (drop n y)
        go true f = no_more i h ∙ e (leb-true n i f)
        go false f = no_more n (omega (arith, leb-false n i f))

-- a test of each element, as std and the model have it
pub same-all : (p : ℕ → Bool) (xs : List ℕ) → list_all p xs ≡ all p xs
unfolding all
same-all p [] = refl
same-all p (x ∷ xs) = ap (λ (b : Bool). p x && b) (same-all p xs)

-- whether letters are a name, by the outcomes of the tests
module _ (x : List ℕ) (n : ℕ) (en : n ≡ length (run is_letter x)) where
  name_of : is_name x ≡ (leb 1 n && (all (λ b. eqb b 32) (drop n x) && not (is_reserved (run is_letter x))))
  unfolding is_name
  name_of = ap (λ (m : ℕ). leb 1 m && (all (λ b. eqb b 32) (drop m x) && not (is_reserved (run is_letter x)))) (sym en)

  pub no-letters : n ≡ 0 → false ≡ is_name x
  no-letters z = sym (name_of ∙ ap (λ (t : Bool). t && (all (λ b. eqb b 32) (drop n x) && not (is_reserved (run is_letter x)))) (lt-leb 1 n (omega arith)))

  module _ (nz : n ≡ 0 → ⊥) (s : Bool) (es : s ≡ all (λ b. eqb b 32) (drop n x)) where
    name-rest : is_name x ≡ (s && not (is_reserved (run is_letter x)))
    name-rest = name_of ∙ ap₂ (λ (t u : Bool). t && (u && not (is_reserved (run is_letter x)))) (le-leb 1 n (omega (arith, nz))) (sym es)

    pub not-filled : s ≡ false → false ≡ is_name x
    not-filled f = sym (name-rest ∙ ap (λ (t : Bool). t && not (is_reserved (run is_letter x))) f)

    pub filled : s ≡ true → (v : ℕ) (o : Option Kind) → v ≡ capped (code_of (run is_letter x)) → option_map number_of o ≡ nonzero (kind_spelled reserved v) → is_none o ≡ is_name x
    filled f v o ev eo =
        missing o (kind_spelled reserved v) eo
        ∙ ap not (ap (λ (u : ℕ). not (eqb (kind_spelled reserved u) 0)) ev ∙ reserved-kind (run is_letter x) (run-all is_letter x))
        ∙ sym (name-rest ∙ ap (λ (t : Bool). t && not (is_reserved (run is_letter x))) f)
      where
        missing : (o : Option Kind) (n : ℕ) → option_map number_of o ≡ nonzero n → is_none o ≡ not (not (eqb n 0))
        missing None zero e = refl
        missing None (suc n) e = cc
        missing (Some k) zero e = cc
        missing (Some k) (suc n) e = sym (ap (λ (b : Bool). not (not b)) (ne_eqb (suc n) 0 (λ z. omega arith)))
