-- Each way to begin a token, as the code reads it.
use Prim.Native.Nat.{ℕ, suc, ◌-◌, ◌%◌, ◌≤◌, ◌<◌}
use mathlib.Core.Bool.{Bool, true, false, ◌&&◌}
use mathlib.Core.List.{List, [], ◌∷◌}
use mathlib.Core.Path.{◌≡◌, refl, sym, ◌∙◌, ap₂, subst}
use native.Mathlib.Omega.{arith}
use lib.Dec.{leb}
use lib.ListN.{length, get_or, take, drop}
use Rattle.std.proofs.lemmas.List.{take_all}
use borrow.Author.Tests.{le-leb, lt-leb, ne_eqb}
use Rattle.model.proofs.Tests.{clash}
use Rattle.std.specs.Prelude.{zero, Option, option_map, unwrap_or, Some, None, eqb}
use Rattle.quel.specs.Results.{Read, fail, ok, found}
use Rattle.quel.specs.Tokens.{Token, word_in, reserved, sign_in, signs, is_letter, is_digit, run, past, decimal, plain, negative, with_equal, token}
use Rattle.quel.specs.Lexical.{first}
use Rattle.tokens.specs.Spans.{positional, capped}
use Rattle.tokens.specs.Table.{token_of}
use Rattle.tokens.specs.Kinds.{number_of, code_of, kind_spelled, sign_kind, nonzero}
use Rattle.tokens.specs.Pieces.{leading, Leads, Opens, Single}
use Rattle.tokens.specs.declared.Piece.{Piece}
use Rattle.tokens.specs.declared.Kind.{Kind}
use Rattle.tokens.specs.declared.Kind.TheVariants as K
use Rattle.tokens.proofs.Places.{run_length, drop-run, run-all, within-bounds}
use Rattle.tokens.proofs.Values.{capped_le, capped-exact, decimals}
use Rattle.tokens.proofs.Words.{word-token, sign-token}

-- a token's parts
abbrev pub piece : Kind → ℕ → ℕ → Option Piece
piece k n v = Some (record { kind = k; size = n; value = v })

some-run : (p : ℕ → Bool) (s : List ℕ) → first p s ≡ true → 1 ≤ length (run p s)
unfolding run
some-run p [] h = clash h
some-run p (b ∷ r) h = rw h (omega arith)

letter-leads : (s : List ℕ) → first is_letter s ≡ true → leading s ≡ ok (word_in reserved (run is_letter s)) (past is_letter s)
unfolding token run past
letter-leads [] h = clash h
letter-leads (b ∷ r) h = rw h

module _ (s : List ℕ) (o : Option Kind) (v n : ℕ) (h : first is_letter s ≡ true) (e₀ : v ≡ capped (code_of (run is_letter s))) (e₁ : option_map number_of o ≡ nonzero (kind_spelled reserved v)) (e₂ : n ≡ length (run is_letter s)) where
  name-else : (o : Option Kind) (n : ℕ) → option_map number_of o ≡ nonzero n → number_of (unwrap_or o K.Name) ≡ n
  name-else None zero e = refl
  name-else None (suc n) e = cc
  name-else (Some k) zero e = cc
  name-else (Some k) (suc n) e = cc

  pub word-reads : Leads (piece (unwrap_or o K.Name) n v) s
  word-reads = record {
    says = rw (name-else o (kind_spelled reserved v) e₁, e₀, e₂, drop-run is_letter s, word-token (run is_letter s) (capped (code_of (run is_letter s))) (run-all is_letter s)) (sym (letter-leads s h));
    fits = (omega (arith, some-run is_letter s h), omega (arith, run_length is_letter s));
    names = λ z. (record { letters = run-all is_letter s; code = e₀ }, some-run is_letter s h);
  }

digit-leads : (s : List ℕ) → first is_digit s ≡ true → leading s ≡ plain (run is_digit s) (past is_digit s)
unfolding token run past
digit-leads [] h = clash h
digit-leads (b ∷ r) h = let i = within-bounds 48 57 b h in rw (lt-leb 65 b (omega (arith, i.1)), h)

-- the value of digits
module _ (ds : List ℕ) (v : ℕ) (e : v ≡ capped (positional 10 48 0 ds)) where
  value-small : v < 288230376151711744 → decimal 0 ds ≡ v
  value-small h = sym (decimals 0 ds) ∙ capped-exact (positional 10 48 0 ds) v (sym e) h

  value-large : v ≤ decimal 0 ds
  value-large = omega (arith, e, (capped_le (positional 10 48 0 ds)).0, decimals 0 ds)

module _ (s : List ℕ) (v n : ℕ) (h : first is_digit s ≡ true) (e : v ≡ capped (positional 10 48 0 (run is_digit s))) where
  pub number-refused : 2147483647 < v → Leads None s
  unfolding plain
  number-refused l = record { says = sym (digit-leads s h ∙ rw (lt-leb (decimal 0 (run is_digit s)) 2147483647 (omega (arith, value-large (run is_digit s) v e)))); fits = tt; names = tt }

  pub number-reads : n ≡ length (run is_digit s) → v ≤ 2147483647 → Leads (piece K.Number n v) s
  unfolding plain token_of
  number-reads f l = record {
    says = rw (f, drop-run is_digit s, digit-leads s h, value-small (run is_digit s) v e (omega arith), le-leb v 2147483647 l);
    fits = (omega (arith, some-run is_digit s h), omega (arith, run_length is_digit s));
    names = λ z. absurd (omega arith);
  }

-- after a minus
module _ (r : List ℕ) where
  minus-leads : leading (45 ∷ r) ≡ negative (run is_digit r) (past is_digit r)
  unfolding token
  minus-leads = refl

  pub no-digits : length (run is_digit r) ≡ 0 → Leads None (45 ∷ r)
  unfolding negative
  no-digits e = record { says = sym (minus-leads ∙ rw (lt-leb 1 (length (run is_digit r)) (omega arith))); fits = tt; names = tt }

  module _ (v : ℕ) (e : v ≡ capped (positional 10 48 0 (run is_digit r))) where
    pub minus-refused : 2147483648 < v → Leads None (45 ∷ r)
    unfolding negative
    minus-refused l = record { says = sym (minus-leads ∙ (rw (lt-leb (decimal 0 (run is_digit r)) 2147483648 (omega (arith, value-large (run is_digit r) v e))) (go (leb 1 (length (run is_digit r)))))); fits = tt; names = tt }
      where
        go : (x : Bool) → Rattle.quel.specs.Results.need {S = List ℕ} (x && false) (ok (Rattle.quel.specs.Tokens.number ((4294967296 - decimal 0 (run is_digit r)) % 4294967296)) (past is_digit r)) ≡ fail
        go true = refl
        go false = refl

    pub minus-reads : (n u : ℕ) → u ≡ (4294967296 - v) % 4294967296 → n ≡ suc (length (run is_digit r)) → 1 ≤ length (run is_digit r) → v ≤ 2147483648 → Leads (piece K.Number n u) (45 ∷ r)
    unfolding negative token_of
    minus-reads n u f g k l = record {
      says = rw (f, g, drop-run is_digit r, minus-leads, value-small (run is_digit r) v e (omega arith), le-leb 1 (length (run is_digit r)) k, le-leb v 2147483648 l);
      fits = (omega arith, omega (arith, run_length is_digit r));
      names = λ z. absurd (omega arith);
    }

-- < and >
pub opens_less : Opens 9 10 60
unfolding token token_of
opens_less = record { some-alone = omega arith; some-with = omega arith; reads = λ r w v n m. refl }

pub opens_more : Opens 11 12 62
unfolding token token_of
opens_more = record { some-alone = omega arith; some-with = omega arith; reads = λ r w v n m. refl }

module _ (k j : Kind) (b : ℕ) (o : Opens (number_of k) (number_of j) b) where
  pub equal-reads : (r : List ℕ) → first (λ c. eqb c 61) r ≡ true → Leads (piece j 2 0) (b ∷ r)
  unfolding with_equal
  equal-reads [] h = clash h
  equal-reads (c ∷ r) h = record { says = sym (o.reads (c ∷ r) [] (run is_letter (b ∷ c ∷ r)) 0 0 ∙ rw h); fits = (omega arith, omega arith); names = λ z. absurd (omega (arith, o.some-with)) }

  pub alone-reads : (r : List ℕ) → first (λ c. eqb c 61) r ≡ false → Leads (piece k 1 0) (b ∷ r)
  unfolding with_equal
  alone-reads [] h = record { says = sym (o.reads [] (run is_letter (b ∷ [])) [] 0 0); fits = (omega arith, omega arith); names = λ z. absurd (omega (arith, o.some-alone)) }
  alone-reads (c ∷ r) h = record { says = sym (o.reads (c ∷ r) (run is_letter (b ∷ c ∷ r)) [] 0 0 ∙ rw h); fits = (omega arith, omega arith); names = λ z. absurd (omega (arith, o.some-alone)) }

-- a sign of one byte
module _ (b : ℕ) (r : List ℕ) (s : Single b) where
  single-leads : leading (b ∷ r) ≡ found (sign_in signs b) λ t. ok t r
  unfolding token
  single-leads = rw (s.no-letter, s.no_digit, s.no_minus, s.no_less, s.no_more)

  pub single-reads : (o : Option Kind) → option_map number_of o ≡ nonzero (sign_kind signs b) → Leads (option_map (λ (k : Kind). record { kind = k; size = 1; value = 0 }) o) (b ∷ r)
  single-reads o e = go (sign_kind signs b) refl o e
    where
      go : (n : ℕ) → sign_kind signs b ≡ n → (o : Option Kind) → option_map number_of o ≡ nonzero n → Leads (option_map (λ (k : Kind). record { kind = k; size = 1; value = 0 }) o) (b ∷ r)
      go zero f None e = record { says = sym (single-leads ∙ (sym (sign-token b [] 0 r) ∙ rw f)); fits = tt; names = tt }
      go zero f (Some k) e = cc
      go (suc n) f None e = cc
      go (suc n) f (Some k) e =
          let q : number_of k ≡ suc n = cc in
          record { says = rw q (sym (single-leads ∙ (sym (sign-token b (run is_letter (b ∷ r)) 0 r) ∙ rw (f, ne_eqb (suc n) 0 (λ z. omega arith))))); fits = (omega arith, omega arith); names = λ y. absurd (omega arith) }

-- the same at the front of bytes
pub fronts : (p : Option Piece) (s : List ℕ) (b : ℕ) → 1 ≤ length s → get_or s 0 0 ≡ b → Leads p (b ∷ take (length s - 1) (drop 1 s)) → Leads p s
fronts p [] b h e l = absurd (omega arith)
fronts p (c ∷ s) b h e l = subst (Leads p) (ap₂ (λ (x : ℕ) (xs : List ℕ). x ∷ xs) (sym e) (take_all (length {A = ℕ} (c ∷ s) - 1) s (omega arith))) l
