-- The tokens from one place of a text to another.
use Prim.Native.Nat.{ℕ, suc, ◌+◌, ◌-◌, ◌%◌, ◌≤◌, ◌<◌}
use mathlib.Core.Bool.{Bool, true, false}
use mathlib.Core.List.{List, [], ◌∷◌, ◌++◌, append_assoc, append-nil}
use mathlib.Core.Path.{◌≡◌, refl, sym, ◌∙◌, ap, ap₂, subst}
use native.Mathlib.Omega.{arith}
use lib.Dec.{eqb}
use lib.ListN.{length, get_or, drop, drop_of_length-le}
use lib.Seq.{drop-drop}
use borrow.Author.Tests.{le-leb, lt-leb, eqb-true}
use Rattle.model.proofs.Tests.{clash}
use Rattle.quel.specs.Results.{fail, ok}
use Rattle.quel.specs.Tokens.{Token, number, is_blank, is_letter, is_digit, reserved, word_in, sign_in, run, past, decimal, plain, negative, with_equal, token, tokens_from, tokens}
use Rattle.quel.specs.Lexical.{first, Spelled, nothing, blank}
use Rattle.quel.proofs.Lexical.{spelled-cut, cut-spelled}
use Rattle.quel.proofs.Results.{never}
use Rattle.tokens.specs.Table.{token_of}
use Rattle.tokens.specs.Pieces.{leading}
use Rattle.tokens.specs.Spans.{within, positional, capped}
use Rattle.tokens.specs.Kinds.{code_of, kind_spelled}
use Rattle.tokens.proofs.Places.{split, run-all, drop-run, within-bounds, only}
use Rattle.tokens.proofs.Values.{capped-exact, decimals}
use Rattle.tokens.proofs.Words.{word-token}
use Rattle.parts.specs.Parts.{Spells}

-- a blank begins no token
not-blank : (b : ℕ) (bs : List ℕ) (t : Token) (r : List ℕ) → token b bs ≡ ok t r → is_blank b ≡ false
unfolding token sign_in
not-blank b bs t r h = go (eqb b 32) (eqb b 10) (eqb b 13) refl refl refl
  where
    is : (c : ℕ) → token c bs ≡ fail → eqb b c ≡ true → is_blank b ≡ false
    is c e f = never t r (sym e ∙ ap (λ (x : ℕ). token x bs) (sym (eqb-true b c f)) ∙ h)

    go : (x y z : Bool) → eqb b 32 ≡ x → eqb b 10 ≡ y → eqb b 13 ≡ z → is_blank b ≡ false
    go true y z e f g = is 32 refl e
    go false true z e f g = is 10 refl f
    go false false true e f g = is 13 refl g
    go false false false e f g = rw (e, f, g)

leads : (s r : List ℕ) (t : Token) (ts : List Token) → leading s ≡ ok t r → Spelled r ts → Spelled s (t ∷ ts)
unfolding tokens_from
leads [] r t ts h p = never t r h
leads (b ∷ bs) r t ts h p = cut-spelled (suc (suc (length r))) (b ∷ bs) (t ∷ ts) [] go
  where
    go : tokens_from (suc (suc (length r))) (b ∷ bs) ≡ ok (t ∷ ts) []
    go = rw (tokens_from, not-blank b bs t r h, h, spelled-cut p (suc (length r)) (omega arith))

letter-leads : (s : List ℕ) → first is_letter s ≡ true → leading s ≡ ok (word_in reserved (run is_letter s)) (past is_letter s)
unfolding token run past
letter-leads [] h = clash h
letter-leads (b ∷ r) h = rw h

digit-leads : (s : List ℕ) → first is_digit s ≡ true → leading s ≡ plain (run is_digit s) (past is_digit s)
unfolding token run past
digit-leads [] h = clash h
digit-leads (b ∷ r) h = let i = within-bounds 48 57 b h in rw (lt-leb 65 b (omega (arith, i.1)), h)

module _ (text : List ℕ) where
  pub spells-none : (i : ℕ) → Spells text i i []
  spells-none i = record { before = λ s p. p }

  pub spells_then : {i j k : ℕ} {ts us : List Token} → Spells text i j ts → Spells text j k us → Spells text i k (ts ++ us)
  spells_then {i} {ts} {us} p q = record { before = λ s h. subst (Spelled (drop i text)) (sym (append_assoc ts us s)) (p.before (us ++ s) (q.before s h)) }

  pub spells-blank : (i : ℕ) → i < length text → is_blank (get_or text i 0) ≡ true → Spells text i (i + 1) []
  spells-blank i l e = record { before = λ s h. subst (λ (x : List ℕ). Spelled x s) (sym (split text i l)) (blank e h) }

  -- one token more
  pub spells-token : (i n : ℕ) (t : Token) → leading (drop i text) ≡ ok t (drop n (drop i text)) → Spells text i (i + n) (t ∷ [])
  spells-token i n t e = record { before = λ s h. leads (drop i text) (drop n (drop i text)) t s e (subst (λ (x : List ℕ). Spelled x s) (sym (drop-drop n i text)) h) }

  -- a sign of one byte
  pub spells-sign : (i : ℕ) (t : Token) → i < length text → ((r : List ℕ) → token (get_or text i 0) r ≡ ok t r) → Spells text i (i + 1) (t ∷ [])
  spells-sign i t l e = spells-token i 1 t (ap leading (split text i l) ∙ e (drop (i + 1) text) ∙ ap (λ (x : List ℕ). ok t x) (ap (drop 1) (sym (split text i l))))

  -- < or >, with or without an = after it
  module _ (i : ℕ) (l : i < length text) (s t : Token) (e : (r : List ℕ) → token (get_or text i 0) r ≡ with_equal s t r) where
    opens : leading (drop i text) ≡ with_equal s t (drop (i + 1) text)
    opens = ap leading (split text i l) ∙ e (drop (i + 1) text)

    one_less : drop 1 (drop i text) ≡ drop (i + 1) text
    one_less = ap (drop 1) (split text i l)

    pub spells-alone : first (within 61 61) (drop (i + 1) text) ≡ false → Spells text i (i + 1) (s ∷ [])
    unfolding with_equal
    spells-alone h = spells-token i 1 s (opens ∙ go (drop (i + 1) text) h ∙ ap (λ (x : List ℕ). ok s x) (sym one_less))
      where
        go : (r : List ℕ) → first (within 61 61) r ≡ false → with_equal s t r ≡ ok s r
        go [] h = refl
        go (b ∷ r) h = rw (sym (only 61 b) ∙ h)

    pub spells-both : first (within 61 61) (drop (i + 1) text) ≡ true → Spells text i (i + 2) (t ∷ [])
    unfolding with_equal
    spells-both h = spells-token i 2 t (opens ∙ go (drop (i + 1) text) h ∙ ap (λ (x : List ℕ). ok t (drop 1 x)) (sym one_less) ∙ ap (λ (x : List ℕ). ok t x) (drop-drop 1 1 (drop i text)))
      where
        go : (r : List ℕ) → first (within 61 61) r ≡ true → with_equal s t r ≡ ok t (drop 1 r)
        go [] h = clash h
        go (b ∷ r) h = rw (sym (only 61 b) ∙ h)

  -- a word, by its code
  module _ (i : ℕ) (h : first is_letter (drop i text) ≡ true) where
    abbrev word_here : List ℕ
    word_here = run is_letter (drop i text)

    pub spells-word : (v n : ℕ) → v ≡ capped (code_of word_here) → Spells text i (i + length word_here) (token_of (kind_spelled reserved v) word_here n ∷ [])
    spells-word v n e =
        spells-token i (length word_here) (token_of (kind_spelled reserved v) word_here n)
        (letter-leads (drop i text) h
        ∙ ap₂ (λ (t : Token) (x : List ℕ). ok t x) (sym (ap (λ (x : ℕ). token_of (kind_spelled reserved x) word_here n) e ∙ word-token word_here n (run-all is_letter (drop i text)))) (sym (drop-run is_letter (drop i text))))

  -- digits, with and without a minus before them
  module _ (i : ℕ) where
    abbrev digits_here : List ℕ
    digits_here = run is_digit (drop i text)

    module _ (v : ℕ) (e : v ≡ capped (positional 10 48 0 digits_here)) where
      value : v < 288230376151711744 → decimal 0 digits_here ≡ v
      value l = sym (decimals 0 digits_here) ∙ capped-exact (positional 10 48 0 digits_here) v (sym e) l

      pub spells-number : first is_digit (drop i text) ≡ true → v ≤ 2147483647 → Spells text i (i + length digits_here) (number v ∷ [])
      unfolding plain
      spells-number h l = spells-token i (length digits_here) (number v) (digit-leads (drop i text) h ∙ rw (value (omega arith), le-leb v 2147483647 l, drop-run is_digit (drop i text)))

  pub spells-negative : (i v : ℕ) → v ≡ capped (positional 10 48 0 (run is_digit (drop (i + 1) text))) → i < length text → get_or text i 0 ≡ 45 → 1 ≤ length (run is_digit (drop (i + 1) text)) → v ≤ 2147483648
      → Spells text i (i + 1 + length (run is_digit (drop (i + 1) text))) (number ((4294967296 - v) % 4294967296) ∷ [])
  unfolding token negative
  spells-negative i v e l b k m =
      let ds = run is_digit (drop (i + 1) text) in
      subst (λ (j : ℕ). Spells text i j (number ((4294967296 - v) % 4294967296) ∷ [])) (let z : i + (1 + length ds) ≡ i + 1 + length ds = omega arith in z)
      (spells-token i (1 + length ds) (number ((4294967296 - v) % 4294967296))
      (ap leading (split text i l) ∙ ap (λ (x : ℕ). token x (drop (i + 1) text)) b
      ∙ rw (value (i + 1) v e (omega arith), le-leb 1 (length ds) k, le-leb v 2147483648 m)
      (ap (λ (x : List ℕ). ok (number ((4294967296 - v) % 4294967296)) x)
      (sym (drop-run is_digit (drop (i + 1) text)) ∙ ap (drop (length ds)) (ap (drop 1) (sym (split text i l))) ∙ drop-drop (length ds) 1 (drop i text)
      ∙ ap (λ (j : ℕ). drop j (drop i text)) (let z : 1 + length ds ≡ 1 + length ds = refl in z)))))

  -- all of them
  pub spells-whole : {i : ℕ} {ts : List Token} → Spells text 0 i ts → length text ≤ i → length text ≤ 2000 → tokens text ≡ ok ts []
  unfolding tokens
  spells-whole {i} {ts} p l m =
      rw (le-leb (length text) 2000 m)
      (spelled-cut (subst (Spelled text) (append-nil ts) (p.before [] (subst (λ (x : List ℕ). Spelled x []) (sym (drop_of_length-le text l)) nothing))) (suc (length text)) (omega arith))
