-- A name of the list, letter by letter.
use Prim.Native.Nat.{ℕ, ◌+◌, ◌*◌, ◌-◌, ◌≤◌, ◌<◌}
use mathlib.Core.Bool.{Bool, true, false, not, cond, ◌&&◌}
use mathlib.Core.List.{List, []}
use mathlib.Core.Path.{◌≡◌, refl, sym, ap, ap₂, ◌∙◌}
use Rattle.std.specs.Prelude.{Option, Some, None, MatchOption}
use native.Mathlib.Omega.{arith}
use lib.Dec.{eqb, leb}
use lib.ListN.{length, get_or, take, drop, drop_of_length-le, length-take}
use borrow.Author.Tests.{le-leb, lt-leb, eqb-true, eqb-false}
use Rattle.model.specs.Lists.{all, Every}
use Rattle.quel.specs.Tokens.{is_letter, run, reserved, is_reserved}
use Rattle.tokens.specs.Spans.{positional, capped}
use Rattle.tokens.specs.Kinds.{code_of, kind_spelled, is_name}
use Rattle.tokens.proofs.Places.{first-at, run-goes, run-stops, run-all, run_length}
use Rattle.tokens.proofs.Values.{capped-low, above}
use Rattle.tokens.proofs.Words.{reserved-kind, no_word}
use Rattle.tokens.proofs.Codes.{code-small}
use Rattle.names.specs.Entries.{name_at}
use Rattle.names.specs.Search.{good_code}
use Rattle.names.proofs.Words.{code-named, code-unnamed}
use Rattle.quick.specs.Index.{padded_code, letter_code}

-- the first i of twelve bytes are letters, and spell the code
pub record Letters (x : List ℕ) (i code : ℕ) : Type 0 where
  pub count : length (run is_letter x) ≡ i + length (run is_letter (drop i x))
  pub spells : positional 26 65 code (run is_letter (drop i x)) ≡ code_of (run is_letter x)

pub letters-start : (x : List ℕ) → Letters x 0 1
letters-start x = record { count = omega arith; spells = refl }

module _ (x : List ℕ) (s : length x ≡ 12) where
  short : code_of (run is_letter x) < 288230376151711744
  short = code-small (run is_letter x) (run-all is_letter x) (omega (arith, run_length is_letter x))

  module _ (i code : ℕ) (f : Letters x i code) where
    -- there is room for a letter more
    pub letters-small : code < 288230376151711744
    letters-small = omega (arith, above code (run is_letter (drop i x)), f.spells, short)

    module _ (h : i < length x) where
      pub letters-next : is_letter (get_or x i 0) ≡ true → (v : ℕ) → v ≡ 26 * code + (get_or x i 0 - 65) → Letters x (i + 1) v
      unfolding positional
      letters-next e v ev =
          let g = run-goes is_letter x i (first-at is_letter x i h ∙ e) in
          record {
            count = omega (arith, f.count, ap length g);
            spells = ap (λ (n : ℕ). positional 26 65 n (run is_letter (drop (i + 1) x))) ev ∙ sym (ap (positional 26 65 code) g) ∙ f.spells;
          }

      pub letters-stop : is_letter (get_or x i 0) ≡ false → (r : ℕ) → r ≡ padded_code i code x → r ≡ letter_code x
      unfolding positional letter_code
      letters-stop e r er =
          let g = run-stops is_letter x i (first-at is_letter x i h ∙ e) in
          er ∙ ap₂ (λ (n c : ℕ). padded_code n c x) (omega (arith, f.count, ap length g)) (sym (ap (positional 26 65 code) g) ∙ f.spells)

      -- what is found there, of a code that some letters spell
      pub letters-found : is_letter (get_or x i 0) ≡ false → 1 ≤ code → (r : Option ℕ) → MatchOption r (0 ≡ padded_code i code x) (λ c. (c ≡ code) × (c ≡ padded_code i code x)) → MatchOption r (0 ≡ letter_code x) (λ c. (1 ≤ c) × (c ≡ letter_code x))
      letters-found e l None m = letters-stop e 0 m
      letters-found e l (Some c) m = (omega (arith, l, m.0), letters-stop e c m.1)

    pub letters-all : length x ≤ i → i ≤ 12 → code ≡ letter_code x
    unfolding positional letter_code padded_code run all
    letters-all h l =
        let g : drop i x ≡ [] = drop_of_length-le x h in
        let n : length (run is_letter x) ≡ 12 = omega (arith, f.count, ap (λ (y : List ℕ). length (run is_letter y)) g) in
        sym (ap (λ (y : List ℕ). positional 26 65 code (run is_letter y)) g) ∙ f.spells
        ∙ sym (ap (λ (m : ℕ). cond (leb 1 m && all (λ b. eqb b 32) (drop m x)) (code_of (run is_letter x)) 0) n
        ∙ ap (λ (y : List ℕ). cond (all (λ b. eqb b 32) y) (code_of (run is_letter x)) 0) (drop_of_length-le x {i = 12} (omega (arith, s))))

-- by how many letters there are, and whether spaces follow
module _ (x : List ℕ) (n code : ℕ) where
  pub padded-none : n ≡ 0 → 0 ≡ padded_code n code x
  unfolding padded_code
  padded-none e = sym (rw (lt-leb 1 n (omega arith)))

  pub padded-some : (n ≡ 0 → ⊥) → (t : Bool) → t ≡ all (λ b. eqb b 32) (drop n x) → cond t code 0 ≡ padded_code n code x
  unfolding padded_code
  padded-some nz t e = ap (λ (b : Bool). cond b code 0) e ∙ sym (rw (le-leb 1 n (omega (arith, nz))))

-- above RANGE only RETRIEVE is reserved
pub free-above : (c : ℕ) → 19658916 < c → not (eqb c 346837159270) ≡ eqb (kind_spelled reserved c) 0
unfolding kind_spelled Every positional
free-above c h = go (eqb c 346837159270) refl
  where
    low : (n : ℕ) → n ≤ 19658916 → c ≡ n → ⊥
    low n l e = omega arith

    go : (b : Bool) → eqb c 346837159270 ≡ b → not b ≡ eqb (kind_spelled reserved c) 0
    go true e = sym (ap (λ (n : ℕ). eqb (kind_spelled reserved n) 0) (eqb-true c 346837159270 e))
    go false e =
        sym (ap (λ (k : ℕ). eqb k 0)
        (no_word reserved c (low 19658916 (omega arith), (eqb-false c 346837159270 e, (low 26747 (omega arith), (low 783124 (omega arith), (low 897 (omega arith), (low 47 (omega arith), (low 13055269 (omega arith), (low 30276 (omega arith), (low 18126 (omega arith), (low 25711 (omega arith), (low 25909 (omega arith), tt)))))))))))))

-- a good name, by the kind of its code
module _ (x : List ℕ) (at : ℕ) (h : at + 12 ≤ length x) (n : ℕ) (en : n ≡ 12) (c k : ℕ) (ec : c ≡ letter_code (take n (drop at x))) (ek : k ≡ kind_spelled reserved c) where
  abbrev name : List ℕ
  name = take 12 (drop at x)

  abbrev letters : List ℕ
  letters = run is_letter name

  abbrev framed : Bool
  framed = leb 1 (length letters) && all (λ b. eqb b 32) (drop (length letters) name)

  split : is_name name ≡ (framed && not (is_reserved letters))
  unfolding is_name
  split = go (leb 1 (length letters)) (all (λ b. eqb b 32) (drop (length letters) name)) (not (is_reserved letters))
    where
      go : (a b d : Bool) → (a && (b && d)) ≡ ((a && b) && d)
      go true b d = refl
      go false b d = refl

  pub by_kind : (t : Bool) → eqb k 0 ≡ t → cond t c 0 ≡ good_code x at
  unfolding letter_code padded_code name_at
  by_kind t et = go framed refl t et
    where
      is : c ≡ cond framed (code_of letters) 0
      is = ec ∙ ap (λ (m : ℕ). letter_code (take m (drop at x))) en

      small : code_of letters < 288230376151711744
      small = code-small letters (run-all is_letter name) (omega (arith, run_length is_letter name, most 12 (drop at x)))
        where
          most : (m : ℕ) (y : List ℕ) → length (take m y) ≤ m
          most m y = omega (arith, length-take m y)

      go : (b : Bool) → framed ≡ b → (t : Bool) → eqb k 0 ≡ t → cond t c 0 ≡ good_code x at
      go false e t et = zero_of t ∙ code-unnamed x at h false (sym (split ∙ ap (λ (b : Bool). b && not (is_reserved letters)) e)) refl
        where
          zero_of : (t : Bool) → cond t c 0 ≡ 0
          zero_of true = is ∙ ap (λ (b : Bool). cond b (code_of letters) 0) e
          zero_of false = refl
      go true e t et = last t et
        where
          code_is : c ≡ capped (code_of letters)
          code_is = is ∙ ap (λ (b : Bool). cond b (code_of letters) 0) e ∙ sym (capped-low (code_of letters) (omega (arith, small)))

          kept : not (eqb k 0) ≡ is_reserved letters
          kept = ap (λ (m : ℕ). not (eqb m 0)) (ek ∙ ap (kind_spelled reserved) code_is) ∙ reserved-kind letters (run-all is_letter name)

          whole : is_name name ≡ not (not (eqb k 0))
          whole = split ∙ ap₂ (λ (a b : Bool). a && not b) e (sym kept)

          last : (t : Bool) → eqb k 0 ≡ t → cond t c 0 ≡ good_code x at
          last true et = code-named x at h true (sym (whole ∙ ap (λ (b : Bool). not (not b)) et)) c code_is refl
          last false et = code-unnamed x at h false (sym (whole ∙ ap (λ (b : Bool). not (not b)) et)) refl
