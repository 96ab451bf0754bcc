-- The kind of a word or a sign is that of its token.
use Prim.Native.Nat.{ℕ, ◌≤◌, ◌<◌}
use mathlib.Core.Bool.{Bool, true, false, not, cond, ◌||◌}
use mathlib.Core.List.{List, [], ◌∷◌}
use mathlib.Core.Option.{some}
use mathlib.Core.Path.{◌≡◌, refl, sym, ◌∙◌, ap, ap₂}
use native.Mathlib.Omega.{arith}
use lib.Dec.{eqb}
use borrow.Author.Tests.{eqb-true, eq-eqb, ne_eqb}
use Rattle.model.specs.Lists.{any, all, Every}
use Rattle.model.proofs.Tests.{clash, and-inv}
use Rattle.quel.specs.Results.{fail, ok, found, Word, same_word}
use Rattle.quel.specs.Tokens.{Token, word_in, reserved, is_reserved, sign_in, signs, is_letter}
use Rattle.tokens.specs.Spans.{positional, capped}
use Rattle.tokens.specs.Table.{token_of}
use Rattle.tokens.specs.Kinds.{kind_of, code_of, kind_spelled, sign_kind}
use Rattle.tokens.proofs.Values.{capped-low, capped-exact, same_code}

same-yes : (w v : Word) → same_word w v ≡ true → w ≡ v
unfolding same_word
same-yes [] [] h = refl
same-yes [] (y ∷ ys) h = clash h
same-yes (x ∷ xs) [] h = clash h
same-yes (x ∷ xs) (y ∷ ys) h =
    let i = and-inv (eqb x y) (same_word xs ys) h in ap₂ (λ (a : ℕ) (l : List ℕ). a ∷ l) (eqb-true x y i.0) (same-yes xs ys i.1)

same_self : (w : Word) → same_word w w ≡ true
unfolding same_word
same_self [] = refl
same_self (x ∷ xs) = rw (eq-eqb x x refl, same_self xs)

-- a token that its kind alone makes
record Fixed (t : Token) : Type 0 where
  makes : (w : Word) (n : ℕ) → token_of (kind_of t) w n ≡ t
  some-kind : 1 ≤ kind_of t

record Spelling (p : Word × Token) : Type 0 where
  letters : all is_letter p.0 ≡ true
  small : code_of p.0 < 288230376151711744
  token : Fixed p.1

-- numbers are compared as words are
pub same_number : (p w : Word) → all is_letter p ≡ true → code_of p < 288230376151711744 → all is_letter w ≡ true → eqb (code_of p) (capped (code_of w)) ≡ same_word p w
same_number p w a h b = go (same_word p w) refl
  where
    go : (x : Bool) → same_word p w ≡ x → eqb (code_of p) (capped (code_of w)) ≡ x
    go true e = let q = same-yes p w e in rw (← q) (eq-eqb (code_of p) (capped (code_of p)) (sym (capped-low (code_of p) (omega arith))))
    go false e =
        ne_eqb (code_of p) (capped (code_of w)) λ f.
        let q = same_code w p b a (capped-exact (code_of w) (code_of p) (sym f) h) in clash (sym e ∙ (ap (same_word p) q ∙ same_self p))

spells : (ps : List (Word × Token)) → Every Spelling ps → (w : Word) (n : ℕ) → all is_letter w ≡ true → token_of (kind_spelled ps (capped (code_of w))) w n ≡ word_in ps w
unfolding kind_spelled word_in Every token_of
spells [] ev w n a = refl
spells (p ∷ ps) ev w n a = rw (same_number p.0 w ev.0.letters ev.0.small a) (go (same_word p.0 w) (spells ps ev.1 w n a))
  where
    go : (x : Bool) → token_of (kind_spelled ps (capped (code_of w))) w n ≡ word_in ps w → token_of (cond x (kind_of p.1) (kind_spelled ps (capped (code_of w)))) w n ≡ cond x p.1 (word_in ps w)
    go true h = ev.0.token.makes w n
    go false h = h

all-spelled : Every Spelling reserved
unfolding Every token_of positional all
all-spelled = (
  record { letters = refl; small = omega arith; token = record { makes = λ w n. refl; some-kind = omega arith } },
  (
    record { letters = refl; small = omega arith; token = record { makes = λ w n. refl; some-kind = omega arith } },
    (
      record { letters = refl; small = omega arith; token = record { makes = λ w n. refl; some-kind = omega arith } },
      (
        record { letters = refl; small = omega arith; token = record { makes = λ w n. refl; some-kind = omega arith } },
        (
          record { letters = refl; small = omega arith; token = record { makes = λ w n. refl; some-kind = omega arith } },
          (
            record { letters = refl; small = omega arith; token = record { makes = λ w n. refl; some-kind = omega arith } },
            (
              record { letters = refl; small = omega arith; token = record { makes = λ w n. refl; some-kind = omega arith } },
              (
                record { letters = refl; small = omega arith; token = record { makes = λ w n. refl; some-kind = omega arith } },
                (
                  record { letters = refl; small = omega arith; token = record { makes = λ w n. refl; some-kind = omega arith } },
                  (
                    record { letters = refl; small = omega arith; token = record { makes = λ w n. refl; some-kind = omega arith } },
                    (record { letters = refl; small = omega arith; token = record { makes = λ w n. refl; some-kind = omega arith } }, tt),
                  ),
                ),
              ),
            ),
          ),
        ),
      ),
    ),
  ),
)

-- a word of the table has a kind other than 0
kind-of : (ps : List (Word × Token)) → Every Spelling ps → (w : Word) → all is_letter w ≡ true → not (eqb (kind_spelled ps (capped (code_of w))) 0) ≡ any (λ (p : Word × Token). same_word p.0 w) ps
unfolding kind_spelled Every any
kind-of [] ev w a = refl
kind-of (p ∷ ps) ev w a = rw (same_number p.0 w ev.0.letters ev.0.small a) (go (same_word p.0 w) (kind-of ps ev.1 w a))
  where
    go : (x : Bool) → not (eqb (kind_spelled ps (capped (code_of w))) 0) ≡ any (λ (p : Word × Token). same_word p.0 w) ps
        → not (eqb (cond x (kind_of p.1) (kind_spelled ps (capped (code_of w)))) 0) ≡ (x || any (λ (p : Word × Token). same_word p.0 w) ps)
    go true h = let k = ev.0.token.some-kind in rw (ne_eqb (kind_of p.1) 0 (λ e. omega arith))
    go false h = h

pub reserved-kind : (w : Word) → all is_letter w ≡ true → not (eqb (kind_spelled reserved (capped (code_of w))) 0) ≡ is_reserved w
unfolding is_reserved
reserved-kind w a = kind-of reserved all-spelled w a

pub word-token : (w : Word) (n : ℕ) → all is_letter w ≡ true → token_of (kind_spelled reserved (capped (code_of w))) w n ≡ word_in reserved w
word-token = spells reserved all-spelled

-- signs
signed : (ps : List (ℕ × Token)) → Every (λ (p : ℕ × Token). Fixed p.1) ps → (b : ℕ) (w : Word) (n : ℕ) (r : List ℕ)
    → cond (eqb (sign_kind ps b) 0) fail (ok (token_of (sign_kind ps b) w n) r) ≡ found {S = List ℕ} (sign_in ps b) λ t. ok t r
unfolding sign_kind sign_in Every
signed [] ev b w n r = refl
signed (p ∷ ps) ev b w n r = go (eqb p.0 b) (signed ps ev.1 b w n r)
  where
    go : (x : Bool) → cond (eqb (sign_kind ps b) 0) fail (ok (token_of (sign_kind ps b) w n) r) ≡ found {S = List ℕ} (sign_in ps b) (λ t. ok t r)
        → cond (eqb (cond x (kind_of p.1) (sign_kind ps b)) 0) fail (ok (token_of (cond x (kind_of p.1) (sign_kind ps b)) w n) r) ≡ found {S = List ℕ} (cond x (some p.1) (sign_in ps b)) (λ t. ok t r)
    go true h = let k = ev.0.some-kind in rw (ne_eqb (kind_of p.1) 0 (λ e. omega arith), ev.0.makes w n)
    go false h = h

all-signed : Every (λ (p : ℕ × Token). Fixed p.1) signs
unfolding Every token_of
all-signed = (
  record { makes = λ w n. refl; some-kind = omega arith },
  (
    record { makes = λ w n. refl; some-kind = omega arith },
    (
      record { makes = λ w n. refl; some-kind = omega arith },
      (
        record { makes = λ w n. refl; some-kind = omega arith },
        (
          record { makes = λ w n. refl; some-kind = omega arith },
          (
            record { makes = λ w n. refl; some-kind = omega arith },
            (
              record { makes = λ w n. refl; some-kind = omega arith },
              (
                record { makes = λ w n. refl; some-kind = omega arith },
                (record { makes = λ w n. refl; some-kind = omega arith }, tt),
              ),
            ),
          ),
        ),
      ),
    ),
  ),
)

pub sign-token : (b : ℕ) (w : Word) (n : ℕ) (r : List ℕ) → cond (eqb (sign_kind signs b) 0) fail (ok (token_of (sign_kind signs b) w n) r) ≡ found {S = List ℕ} (sign_in signs b) λ t. ok t r
sign-token = signed signs all-signed

-- what is not in the table
pub no_word : (ps : List (Word × Token)) (v : ℕ) → Every (λ (p : Word × Token). v ≡ code_of p.0 → ⊥) ps → kind_spelled ps v ≡ 0
unfolding kind_spelled Every
no_word [] v ev = refl
no_word (p ∷ ps) v ev = rw (ne_eqb (code_of p.0) v (λ e. ev.0 (sym e))) (no_word ps v ev.1)
