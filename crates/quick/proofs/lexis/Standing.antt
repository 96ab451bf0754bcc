-- Words, signs and numbers, with the blanks behind them.
use Prim.Native.Nat.{ℕ, zero, suc, ◌+◌, ◌-◌, ◌%◌, ◌≤◌, ◌<◌}
use mathlib.Core.Bool.{Bool, true, false, cond, not}
use mathlib.Core.List.{List, [], ◌∷◌}
use mathlib.Core.Path.{◌≡◌, refl, sym, ◌∙◌, ap, ap₂, subst}
use native.Mathlib.Omega.{arith}
use lib.Dec.{eqb, leb}
use lib.ListN.{length, get_or, drop, length-drop}
use borrow.Author.Tests.{le-leb, eq-eqb, ne_eqb, eqb-true, not-false}
use Rattle.quel.specs.Results.{ok, Word}
use Rattle.quel.specs.Tokens.{Sign, Token, name, number, function, sign, key, RANGE, RETRIEVE, NOT, SOME, IN, or, COUNT, SUM, AVE, MAX, MIN, equal, unequal, less, at_most, more, at_least, is_letter, reserved, word_in, sign_in, run, with_equal, token}
use Rattle.quel.specs.Lexical.{first}
use Rattle.quel.specs.Elaboration.{operator_of}
use Rattle.tokens.specs.Spans.{within, positional, capped}
use Rattle.tokens.specs.Kinds.{kind_spelled}
use Rattle.tokens.specs.Table.{token_of}
use Rattle.tokens.specs.Codes.{Spelt}
use Rattle.tokens.proofs.Places.{run_length, run-all, first-lt, run-stops, run-goes, only}
use Rattle.tokens.proofs.Words.{word-token}
use Rattle.parts.specs.Parts.{Copied, Spells}
use Rattle.parts.specs.Places.{WordAt, NameAt, TokenAt, SignAt, FunctionAt}
use Rattle.parts.proofs.Cuts.{spells_then, spells-sign, spells-alone, spells-both, spells-word, spells-number, spells-negative}
use Rattle.quick.specs.Lexis.{Blanks, Stretch, DigitsAt}
use Rattle.quick.proofs.lexis.Bytes.{first-there, there, blanks-none}

some_first : (p : ℕ → Bool) (s : List ℕ) → 1 ≤ length (run p s) → first p s ≡ true
unfolding run
some_first p [] h = absurd (omega arith)
some_first p (b ∷ s) h = go (p b) refl h
  where
    go : (x : Bool) → p b ≡ x → 1 ≤ length (cond x (b ∷ run p s) []) → p b ≡ true
    go true e h = e
    go false e h = absurd (omega arith)

pub some : (n : ℕ) → (n ≡ 0 → ⊥) → 1 ≤ n
some n h = omega (arith, h)

pub unreserved : (k : ℕ) → not (eqb k 0) ≡ false → k ≡ 0
unreserved k e = eqb-true k 0 (not-false (eqb k 0) e)

-- only what stands there has a code
pub some-code : (n v : ℕ) → (n ≡ 0 → v ≡ 0) → 1 ≤ v → 1 ≤ n
some-code zero v h e = absurd (omega (arith, h refl, e))
some-code (suc n) v h e = omega arith

-- the token that a word is, by its code
pub word-is : (w : Word) (v n : ℕ) → Spelt w v → token_of (kind_spelled reserved v) w n ≡ word_in reserved w
word-is w v n s = ap (λ (x : ℕ). token_of (kind_spelled reserved x) w n) s.code ∙ word-token w n s.letters

module _ (text : List ℕ) where
  stretch-first : (low high base start i j v : ℕ) → Stretch text low high base start i j v → i < j → first (within low high) (drop i text) ≡ true
  stretch-first low high base start i j v s l = some_first (within low high) (drop i text) (omega (arith, s.ends))

  stretch-inside : (low high base start i j v : ℕ) → Stretch text low high base start i j v → i < j → j ≤ length text
  stretch-inside low high base start i j v s l =
      omega (arith, s.ends, first-lt (within low high) text i (stretch-first low high base start i j v s l), run_length (within low high) (drop i text), length-drop i text)

  pub token-then : (i j k : ℕ) (t : Token) → TokenAt text i j t → Blanks text j k → TokenAt text i k t
  token-then i j k t a b = record { spells = spells_then text a.spells b.spells; inside = b.inside a.inside }

  pub sign-then : (i j k n : ℕ) → SignAt text i j n → Blanks text j k → SignAt text i k n
  sign-then i j k n a b = record { is = a.is; spells = spells_then text a.spells b.spells; number = a.number; inside = b.inside a.inside }

  pub word-here : (i j k v : ℕ) → Stretch text 65 90 26 1 i j v → i < j → v < 288230376151711744 → Blanks text j k → WordAt text i k v
  word-here i j k v s l m b =
      let w = run is_letter (drop i text) in
      let f = stretch-first 65 90 26 1 i j v s l in
      let p : Spelt w v = record { letters = run-all is_letter (drop i text); code = s.spells } in
      record {
        word = w;
        spells = spells_then text (subst (λ (x : ℕ). Spells text i x (word_in reserved w ∷ [])) (sym s.ends) (subst (λ (t : Token). Spells text i (i + length w) (t ∷ [])) (word-is w v 0 p) (spells-word text i f v 0 s.spells))) b.spells;
        spelt = p;
        small = m;
        inside = b.inside (stretch-inside 65 90 26 1 i j v s l);
      }

  module _ (i j v : ℕ) (a : WordAt text i j v) where
    word-token-at : (t : Token) → word_in reserved a.word ≡ t → TokenAt text i j t
    word-token-at t e = record { spells = subst (λ (x : Token). Spells text i j (x ∷ [])) e a.spells; inside = a.inside }

    -- a reserved word, by its kind
    pub key_here : (k : ℕ) (t : Token) → kind_spelled reserved v ≡ k → ((w : Word) → token_of k w 0 ≡ t) → TokenAt text i j t
    key_here k t e h = word-token-at t (sym (word-is a.word v 0 a.spelt) ∙ ap (λ (x : ℕ). token_of x a.word 0) e ∙ h a.word)

    pub name-here : kind_spelled reserved v ≡ 0 → NameAt text i j v
    unfolding token_of
    name-here e =
        let n : word_in reserved a.word ≡ name a.word = sym (word-is a.word v 0 a.spelt) ∙ ap (λ (x : ℕ). token_of x a.word 0) e in
        record { word = a.word; spells = (word-token-at (name a.word) n).spells; named = n; spelt = a.spelt; small = a.small; inside = a.inside }

    pub function-here : (k : ℕ) → k ≡ kind_spelled reserved v → 2 ≤ k → k ≤ 6 → FunctionAt text i j (k - 1)
    unfolding token_of
    function-here k e l m = go k (sym e) l m
      where
        go : (k : ℕ) → kind_spelled reserved v ≡ k → 2 ≤ k → k ≤ 6 → FunctionAt text i j (k - 1)
        go zero e l m = absurd (omega arith)
        go (suc zero) e l m = absurd (omega arith)
        go (suc (suc zero)) e l m = let t = key_here 2 (function COUNT) e (λ w. refl) in record { is = COUNT; spells = t.spells; number = refl; inside = t.inside }
        go (suc (suc (suc zero))) e l m = let t = key_here 3 (function SUM) e (λ w. refl) in record { is = SUM; spells = t.spells; number = refl; inside = t.inside }
        go (suc (suc (suc (suc zero)))) e l m = let t = key_here 4 (function AVE) e (λ w. refl) in record { is = AVE; spells = t.spells; number = refl; inside = t.inside }
        go (suc (suc (suc (suc (suc zero))))) e l m = let t = key_here 5 (function MAX) e (λ w. refl) in record { is = MAX; spells = t.spells; number = refl; inside = t.inside }
        go (suc (suc (suc (suc (suc (suc zero)))))) e l m = let t = key_here 6 (function MIN) e (λ w. refl) in record { is = MIN; spells = t.spells; number = refl; inside = t.inside }
        go (suc (suc (suc (suc (suc (suc (suc k))))))) e l m = absurd (omega arith)

  -- RANGE RETRIEVE NOT SOME IN
  module _ (i j v : ℕ) (a : WordAt text i j v) where
    pub range-here : v ≡ 19658916 → TokenAt text i j (key RANGE)
    unfolding token_of kind_spelled positional
    range-here e = key_here i j v a 13 (key RANGE) (ap (kind_spelled reserved) e) (λ w. refl)

    pub retrieve-here : v ≡ 346837159270 → TokenAt text i j (key RETRIEVE)
    unfolding token_of kind_spelled positional
    retrieve-here e = key_here i j v a 14 (key RETRIEVE) (ap (kind_spelled reserved) e) (λ w. refl)

    pub not-here : v ≡ 26747 → TokenAt text i j (key NOT)
    unfolding token_of kind_spelled positional
    not-here e = key_here i j v a 15 (key NOT) (ap (kind_spelled reserved) e) (λ w. refl)

    pub some-here : v ≡ 783124 → TokenAt text i j (key SOME)
    unfolding token_of kind_spelled positional
    some-here e = key_here i j v a 16 (key SOME) (ap (kind_spelled reserved) e) (λ w. refl)

    pub in-here : v ≡ 897 → TokenAt text i j (key IN)
    unfolding token_of kind_spelled positional
    in-here e = key_here i j v a 17 (key IN) (ap (kind_spelled reserved) e) (λ w. refl)

  pub digits-here : (i j v : ℕ) → DigitsAt text i j v → v ≤ 2147483647 → TokenAt text i j (number v)
  digits-here i j v d l =
      let s = d.digits in
      token-then i d.stop j (number v)
      (record {
        spells = subst (λ (x : ℕ). Spells text i x (number v ∷ [])) (sym s.ends) (spells-number text i v s.spells (stretch-first 48 57 10 0 i d.stop v s d.some) l);
        inside = stretch-inside 48 57 10 0 i d.stop v s d.some;
      })
      d.blanks

  pub minus-here : (i j v : ℕ) → i < length text → get_or text i 0 ≡ 45 → DigitsAt text (i + 1) j v → v ≤ 2147483648 → TokenAt text i j (number ((4294967296 - v) % 4294967296))
  minus-here i j v l b d m =
      let s = d.digits in let t = number ((4294967296 - v) % 4294967296) in
      token-then i d.stop j t
      (record {
        spells = subst (λ (x : ℕ). Spells text i x (t ∷ [])) (sym s.ends) (spells-negative text i v s.spells l b (omega (arith, s.ends, d.some)) m);
        inside = stretch-inside 48 57 10 0 (i + 1) d.stop v s d.some;
      })
      d.blanks

-- by the bytes of a copy
module _ (copy text : List ℕ) (c : Copied copy text) (i : ℕ) where
  pub byte-there : (b : ℕ) → get_or copy i 0 ≡ b → 1 ≤ b → i < length text
  byte-there b e l = there (leb 1) refl copy text c i (le-leb 1 (get_or copy i 0) (omega (arith, e, l)))

  pub byte-here : (b : ℕ) (t : Token) → get_or copy i 0 ≡ b → 1 ≤ b → ((x : List ℕ) → token b x ≡ ok t x) → TokenAt text i (i + 1) t
  byte-here b t e l h =
      let m = byte-there b e l in
      record { spells = spells-sign text i t m (λ r. ap (λ (x : ℕ). token x r) (sym (c.same i) ∙ e) ∙ h r); inside = omega (arith, m) }

  pub minus-there : (j v : ℕ) → get_or copy i 0 ≡ 45 → DigitsAt text (i + 1) j v → v ≤ 2147483648 → TokenAt text i j (number ((4294967296 - v) % 4294967296))
  minus-there j v e d l = minus-here text i j v (byte-there 45 e (omega arith)) (sym (c.same i) ∙ e) d l

  -- V, with no letter behind it
  pub or-here : get_or copy i 0 ≡ 86 → is_letter (get_or copy (i + 1) 0) ≡ false → TokenAt text i (i + 1) (key or)
  unfolding positional token_of kind_spelled
  or-here e h =
      let f : first is_letter (drop i text) ≡ true = first-there is_letter refl copy text c i ∙ ap is_letter e in
      let w : run is_letter (drop i text) ≡ 86 ∷ [] =
      run-goes is_letter text i f ∙ ap₂ (λ (x : ℕ) (l : List ℕ). x ∷ l) (sym (c.same i) ∙ e) (run-stops is_letter text (i + 1) (first-there is_letter refl copy text c (i + 1) ∙ h)) in
      let s : Stretch text 65 90 26 1 i (i + 1) 47 = record { ends = omega (arith, ap length w); spells = sym (ap (λ (l : List ℕ). capped (positional 26 65 1 l)) w) } in
      key_here text i (i + 1) 47 (word-here text i (i + 1) (i + 1) 47 s (omega arith) (omega arith) (blanks-none text (i + 1))) 18 (key or) refl (λ x. refl)

  pub equal-here : get_or copy i 0 ≡ 61 → SignAt text i (i + 1) 1
  unfolding token sign_in
  equal-here e = let t = byte-here 61 (sign equal) e (omega arith) (λ r. refl) in record { is = equal; spells = t.spells; number = refl; inside = t.inside }

  pub unequal-here : get_or copy i 0 ≡ 35 → SignAt text i (i + 1) 2
  unfolding token sign_in
  unequal-here e = let t = byte-here 35 (sign unequal) e (omega arith) (λ r. refl) in record { is = unequal; spells = t.spells; number = refl; inside = t.inside }

  module _ (n : ℕ) (l : i < length text) (s t : Sign) (e : (x : List ℕ) → token (get_or text i 0) x ≡ with_equal (sign s) (sign t) x) where
    after : first (within 61 61) (drop (i + 1) text) ≡ eqb (get_or copy (i + 1) 0) 61
    after = first-there (within 61 61) refl copy text c (i + 1) ∙ only 61 (get_or copy (i + 1) 0)

    pub alone-here : operator_of s ≡ n → (get_or copy (i + 1) 0 ≡ 61 → ⊥) → SignAt text i (i + 1) n
    alone-here o h = record { is = s; spells = spells-alone text i l (sign s) (sign t) e (after ∙ ne_eqb (get_or copy (i + 1) 0) 61 h); number = o; inside = omega arith }

    pub both-here : operator_of t ≡ n + 1 → get_or copy (i + 1) 0 ≡ 61 → SignAt text i (i + 2) (n + 1)
    both-here o h =
        let f = after ∙ eq-eqb (get_or copy (i + 1) 0) 61 h in
        record { is = t; spells = spells-both text i l (sign s) (sign t) e f; number = o; inside = omega (arith, first-lt (within 61 61) text (i + 1) f) }

  module _ (j k : ℕ) where
    abbrev Opens : ℕ → Type 0
    Opens n = (s t : Sign) → i < length text → ((x : List ℕ) → token (get_or text i 0) x ≡ with_equal (sign s) (sign t) x) → operator_of s ≡ n → operator_of t ≡ n + 1 → SignAt text i j k

    pub less-here : get_or copy i 0 ≡ 60 → Opens 3 → SignAt text i j k
    unfolding token
    less-here e f = f less at_most (byte-there 60 e (omega arith)) (λ r. ap (λ (x : ℕ). token x r) (sym (c.same i) ∙ e)) refl refl

    pub more-here : get_or copy i 0 ≡ 62 → Opens 5 → SignAt text i j k
    unfolding token
    more-here e f = f more at_least (byte-there 62 e (omega arith)) (λ r. ap (λ (x : ℕ). token x r) (sym (c.same i) ∙ e)) refl refl
