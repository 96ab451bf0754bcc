-- A name, letter by letter.
use mathlib.Core.Path.{◌≡◌, refl, sym, ap, ap₂, ◌∙◌}
use mathlib.Core.Bool.{Bool, true, false, cond}
use mathlib.Core.List.{List, [], ◌∷◌}
use Prim.Native.Nat.{ℕ, zero, suc, ◌+◌, ◌<◌, ◌≤◌}
use native.Mathlib.Omega.{arith}
use Rattle.std.specs.Prelude.{Some}
use lib.Dec.{eqb, leb}
use lib.ListN.{length, take, drop, length-drop}
use lib.Seq.{take_all}
use borrow.Author.Tests.{le-leb, lt-leb}
use Rattle.model.specs.Lists.{all}
use Rattle.quel.specs.Results.{Word, same_word}
use Rattle.quel.specs.Tokens.{is_letter, run}
use Rattle.quel.specs.Names.{is_padded}
use Rattle.tokens.specs.Spans.{capped}
use Rattle.tokens.specs.Kinds.{code_of, nonzero, is_name}
use Rattle.tokens.specs.Codes.{Spelt}
use Rattle.tokens.proofs.Places.{run-all, run_length}
use Rattle.tokens.proofs.Values.{above, capped-low}
use Rattle.tokens.proofs.Words.{same_number}
use Rattle.tokens.proofs.Codes.{code-small}
use Rattle.names.specs.Entries.{name_at}
use Rattle.names.specs.Search.{good_code}

-- whether a name is good
module _ (x : List ℕ) (at : ℕ) where
  abbrev rest : List ℕ
  rest = drop at x

  pub padded-cut : length x < at + 12 → false ≡ is_padded (name_at x at) rest
  unfolding is_padded
  padded-cut h = sym (rw (lt-leb 12 (length rest) (omega (arith, length-drop at x, h))))

  pub padded-is : at + 12 ≤ length x → is_padded (name_at x at) rest ≡ is_name (take 12 rest)
  unfolding is_padded is_name name_at
  padded-is h = rw (le-leb 12 (length rest) (omega (arith, length-drop at x, h)))

-- a code is not 0
pub code-some : (w : Word) → 1 ≤ capped (code_of w)
code-some w = go (leb (code_of w) 288230376151711744)
  where
    go : (b : Bool) → 1 ≤ cond b (code_of w) 288230376151711744
    go true = above 1 w
    go false = omega arith

-- the code of a good name
module _ (x : List ℕ) (at : ℕ) where
  pub code-not : false ≡ is_padded (name_at x at) (drop at x) → 0 ≡ good_code x at
  unfolding good_code
  code-not h = ap (λ (t : Bool). cond t (capped (code_of (name_at x at))) 0) h

  code_is : (n : ℕ) → n ≡ capped (code_of (name_at x at)) → true ≡ is_padded (name_at x at) (drop at x) → n ≡ good_code x at
  unfolding good_code
  code_is n e h = e ∙ ap (λ (t : Bool). cond t (capped (code_of (name_at x at))) 0) h

  -- by whether the twelve bytes are a name
  module _ (h : at + 12 ≤ length x) (g : Bool) (e : g ≡ is_name (take 12 (drop at x))) where
    pub code-named : (n : ℕ) → n ≡ capped (code_of (name_at x at)) → g ≡ true → n ≡ good_code x at
    code-named n en t = code_is n en (sym t ∙ e ∙ sym (padded-is x at h))

    pub code-unnamed : g ≡ false → 0 ≡ good_code x at
    code-unnamed t = code-not (sym t ∙ e ∙ sym (padded-is x at h))

    pub named-some : (n : ℕ) → n ≡ capped (code_of (run is_letter (take 12 (drop at x)))) → g ≡ true → Some n ≡ nonzero (good_code x at)
    unfolding name_at
    named-some n en t = some n (omega (arith, en, code-some (run is_letter (take 12 (drop at x))))) ∙ ap nonzero (code-named n en t)
      where
        some : (n : ℕ) → 1 ≤ n → Some n ≡ nonzero n
        some zero l = absurd (omega arith)
        some (suc n) l = refl

take-most : (n : ℕ) (y : List ℕ) → length (take n y) ≤ n
take-most zero [] = omega arith
take-most zero (b ∷ y) = omega arith
take-most (suc n) [] = omega arith
take-most (suc n) (b ∷ y) = omega (arith, take-most n y)

-- a name of the list, compared by its code
module _ (x : List ℕ) (at : ℕ) where
  name-letters : all is_letter (name_at x at) ≡ true
  unfolding name_at
  name-letters = run-all is_letter (take 12 (drop at x))

  name-short : length (name_at x at) ≤ 12
  unfolding name_at
  name-short = omega (arith, run_length is_letter (take 12 (drop at x)), take-most 12 (drop at x))

  pub same-code-as : (v c : ℕ) (w : Word) → v ≡ capped (code_of (name_at x at)) → Spelt w c → eqb v c ≡ same_word (name_at x at) w
  same-code-as v c w ev s =
      let l = code-small (name_at x at) name-letters name-short in
      ap₂ eqb (ev ∙ capped-low (code_of (name_at x at)) (omega arith)) s.code ∙ same_number (name_at x at) w name-letters l s.letters

  -- the name in the part of twelve bytes, and in what is left where there are fewer
  pub name-run : (n : ℕ) → n ≡ 12 → run is_letter (take n (drop at x)) ≡ name_at x at
  unfolding name_at
  name-run n e = ap (λ (m : ℕ). run is_letter (take m (drop at x))) e

  pub name-tail : (y : List ℕ) → y ≡ drop at x → length x < at + 12 → run is_letter y ≡ name_at x at
  unfolding name_at
  name-tail y e h = ap (run is_letter) (e ∙ sym (take_all 12 (drop at x) (omega (arith, length-drop at x, h))))
