-- The loop that stores: the tokens held so far, before those of what is left, are the text's.
use Prim.Native.Nat.{ℕ, zero, suc, ◌+◌, ◌≤◌, ◌<◌}
use mathlib.Core.Bool.{Bool, true, false}
use mathlib.Core.List.{List, [], ◌∷◌, ◌++◌, append_assoc, append-nil}
use mathlib.Core.Path.{◌≡◌, refl, sym, ◌∙◌, ap, ap₂, subst}
use native.Mathlib.Omega.{arith}
use native.Mathlib.Numerals.{add-one}
use lib.Dec.{leb}
use lib.ListN.{length, get_or, drop, set, length-drop, drop_of_length-le}
use lib.Seq.{get_or-set_same, get_or-set_other, drop-drop}
use borrow.Author.Tests.{leb-true, leb-false, le-leb, lt-leb}
use Rattle.std.specs.Prelude.{None}
use Rattle.quel.specs.Results.{Read, fail, ok, then}
use Rattle.quel.specs.Tokens.{Token, is_blank, is_letter, run, tokens_from, tokens}
use Rattle.quel.specs.Lexical.{first}
use Rattle.quel.proofs.Results.{never}
use Rattle.quel.proofs.Lexical.{spelled-cut, cut-spelled}
use Rattle.tokens.specs.Codes.{Spelt, Coded}
use Rattle.tokens.specs.Table.{Table, token_of, word_in, token_at, tokens_at}
use Rattle.tokens.specs.Pieces.{leading, Leads}
use Rattle.tokens.specs.Kinds.{number_of}
use Rattle.tokens.specs.declared.Kind.{Kind}
use Rattle.tokens.proofs.Leading.{piece}
use Rattle.tokens.proofs.Places.{split, first-at}

abbrev Tokens : Type 0
Tokens = Read (List ℕ) (List Token)

-- with steps enough
abbrev pub lex : List ℕ → Tokens
lex s = tokens_from (suc (length s)) s

fuel : (n : ℕ) (s : List ℕ) → length s < n → tokens_from n s ≡ lex s
fuel n s h = go (tokens_from n s) refl
  where
    none : (x : Tokens) → lex s ≡ x → tokens_from n s ≡ fail → fail ≡ x
    none fail f e = refl
    none (ok ts r) f e = never ts [] (sym e ∙ spelled-cut (cut-spelled (suc (length s)) s ts r f) n h)

    go : (x : Tokens) → tokens_from n s ≡ x → x ≡ lex s
    go fail e = none (lex s) refl e
    go (ok ts r) e = let p = cut-spelled n s ts r e in sym e ∙ (spelled-cut p n h ∙ sym (spelled-cut p (suc (length s)) (omega arith)))

lex-blank : (b : ℕ) (s : List ℕ) → is_blank b ≡ true → lex (b ∷ s) ≡ lex s
unfolding tokens_from
lex-blank b s e = rw (tokens_from, e)

abbrev pub before : Token → Tokens → Tokens
before t x = then x λ ts r. ok (t ∷ ts) r

lex-token : (s : List ℕ) (t : Token) (n : ℕ) → first is_blank s ≡ false → leading s ≡ ok t (drop n s) → 1 ≤ n → n ≤ length s → lex s ≡ before t (lex (drop n s))
unfolding tokens_from
lex-token [] t n f e h l = absurd (omega arith)
lex-token (b ∷ s) t n f e h l = rw (tokens_from, f, e, fuel (suc (length s)) (drop n (b ∷ s)) (omega (arith, length-drop n (b ∷ s))))

lex-refused : (s : List ℕ) → 1 ≤ length s → first is_blank s ≡ false → leading s ≡ fail → lex s ≡ fail
unfolding tokens_from
lex-refused [] h f e = absurd (omega arith)
lex-refused (b ∷ s) h f e = rw (tokens_from, f, e)

lex-end : lex [] ≡ ok [] []
unfolding tokens_from
lex-end = refl

-- arrays with one token more
module _ (text K S N : List ℕ) (n k a v : ℕ) where
  abbrev old : Table
  old = record { kinds = K; starts = S; numbers = N }

  abbrev pub new : Table
  new = record { kinds = set K n k; starts = set S n a; numbers = set N n v }

  kept : (i : ℕ) → i < n → token_at text new i ≡ token_at text old i
  unfolding token_at word_in
  kept i h =
      rw (
        get_or-set_other K n i k 0 (λ e. omega arith),
        get_or-set_other S n i a 0 (λ e. omega arith),
        get_or-set_other N n i v 0 (λ e. omega arith),
      )

  added : n < length K → n < length S → n < length N → token_at text new n ≡ token_of k (run is_letter (drop a text)) v
  unfolding token_at word_in
  added h₁ h₂ h₃ = rw (get_or-set_same K n k 0 h₁, get_or-set_same S n a 0 h₂, get_or-set_same N n v 0 h₃)

  module _ (h₁ : n < length K) (h₂ : n < length S) (h₃ : n < length N) (c : Coded text old n) (p : k ≡ 0 → Spelt (run is_letter (drop a text)) v × (1 ≤ length (run is_letter (drop a text)))) where
    last-coded : k ≡ 0 → Spelt (word_in text new n) (get_or (set N n v) n 0) × (1 ≤ length (word_in text new n))
    unfolding word_in
    last-coded z = rw (get_or-set_same S n a 0 h₂, get_or-set_same N n v 0 h₃) (p z)

    coded-at : (i : ℕ) → i < n + 1 → (x : Bool) → leb n i ≡ x → get_or (set K n k) i 0 ≡ 0 → Spelt (word_in text new i) (get_or (set N n v) i 0) × (1 ≤ length (word_in text new i))
    unfolding word_in
    coded-at i l true e z =
        let q : n ≡ i = omega (arith, leb-true n i e) in
        subst (λ (j : ℕ). Spelt (word_in text new j) (get_or (set N n v) j 0) × (1 ≤ length (word_in text new j))) q (last-coded (sym (get_or-set_same K n k 0 h₁) ∙ (ap (λ (j : ℕ). get_or (set K n k) j 0) q ∙ z)))
    coded-at i l false e z =
        let q = leb-false n i e in
        rw (
          get_or-set_other S n i a 0 (λ e. omega arith),
          get_or-set_other N n i v 0 (λ e. omega arith),
        ) (c.spelt i q (sym (get_or-set_other K n i k 0 (λ e. omega arith)) ∙ z))

    coded-more : Coded text new (n + 1)
    coded-more = record { spelt = λ i l z. coded-at i l (leb n i) refl z }

  more : (i j : ℕ) → i + j ≡ n → tokens_at text new i (suc j) ≡ tokens_at text old i j ++ (token_at text new n ∷ [])
  unfolding tokens_at
  more i zero e = ap (λ (x : ℕ). token_at text new x ∷ []) (omega arith)
  more i (suc j) e = ap₂ (λ (t : Token) (ts : List Token). t ∷ ts) (kept i (omega arith)) (more (suc i) j (omega arith))

-- tokens before those of the rest
abbrev ahead : List Token → Tokens → Tokens
ahead ts fail = fail
ahead ts (ok us r) = ok (ts ++ us) r

ahead_none : (x : Tokens) → ahead [] x ≡ x
ahead_none fail = refl
ahead_none (ok us r) = refl

ahead_more : (ts : List Token) (t : Token) (x : Tokens) → ahead (ts ++ (t ∷ [])) x ≡ ahead ts (before t x)
ahead_more ts t fail = refl
ahead_more ts t (ok us r) = rw append_assoc

pub record Held (text K S N : List ℕ) (at n : ℕ) : Type 0 where
  pub reads : ahead (tokens_at text (record { kinds = K; starts = S; numbers = N }) 0 n) (lex (drop at text)) ≡ lex text
  pub behind : n ≤ at
  pub inside : at ≤ length text
  pub coded : Coded text (record { kinds = K; starts = S; numbers = N }) n

pub none-coded : (text : List ℕ) (t : Table) → Coded text t 0
none-coded text t = record { spelt = λ i l z. absurd (omega arith) }

pub held_start : (text K S N : List ℕ) → Held text K S N 0 0
unfolding tokens_at
held_start text K S N = record {
  reads = ahead_none (lex text);
  behind = omega arith;
  inside = omega arith;
  coded = none-coded text (record { kinds = K; starts = S; numbers = N });
}

pub too_long : (text : List ℕ) → 2000 < length text → tokens text ≡ fail
unfolding tokens
too_long text h = rw (lt-leb (length text) 2000 h)

module _ (text K S N : List ℕ) (at n : ℕ) (h : Held text K S N at n) (short : length text ≤ 2000) where
  whole : tokens text ≡ lex text
  unfolding tokens
  whole = rw (le-leb (length text) 2000 short)

  pub held-end : length text ≤ at → ok (tokens_at text (record { kinds = K; starts = S; numbers = N }) 0 n) [] ≡ tokens text
  held-end l =
      let t : Table = record { kinds = K; starts = S; numbers = N } in
      sym (ap (ahead (tokens_at text t 0 n)) (ap lex (drop_of_length-le text l) ∙ lex-end) ∙ nil (tokens_at text t 0 n)) ∙ (h.reads ∙ sym whole)
    where
      nil : (ts : List Token) → ahead ts (ok [] []) ≡ ok ts []
      nil ts = ap (λ (us : List Token). ok us []) (append-nil ts)

  module _ (l : at < length text) where
    pub held-blank : is_blank (get_or text at 0) ≡ true → Held text K S N (at + 1) n
    held-blank e = record {
      reads =
          ap (ahead (tokens_at text (record { kinds = K; starts = S; numbers = N }) 0 n)) (sym (ap lex (split text at l) ∙ lex-blank (get_or text at 0) (drop (at + 1) text) e))
          ∙ h.reads;
      behind = omega (arith, h.behind);
      inside = omega arith;
      coded = h.coded;
    }

    module _ (w : is_blank (get_or text at 0) ≡ false) where
      word : first is_blank (drop at text) ≡ false
      word = first-at is_blank text at l ∙ w

      pub held-refused : Leads None (drop at text) → fail ≡ tokens text
      held-refused p =
          ap (ahead (tokens_at text (record { kinds = K; starts = S; numbers = N }) 0 n)) (sym (lex-refused (drop at text) (omega (arith, length-drop at text)) word (sym p.says)))
          ∙ (h.reads ∙ sym whole)

      module _ (kind : Kind) (m v : ℕ) (p : Leads (piece kind m v) (drop at text)) where
        abbrev k : ℕ
        k = number_of kind

        pub held-room : (1 ≤ m) × (at + m ≤ length text)
        held-room = (p.fits.0, omega (arith, p.fits.1, length-drop at text))

        pub held_more : n < length K → n < length S → n < length N → Held text (set K n (number_of kind)) (set S n at) (set N n v) (at + m) (n + 1)
        held_more h₁ h₂ h₃ = record {
          reads =
              ap (λ (ts : List Token). ahead ts (lex (drop (at + m) text))) (ap (tokens_at text (new text K S N n k at v) 0) (add-one n) ∙ (more text K S N n k at v 0 n (omega arith) ∙ ap (λ (t : Token). tokens_at text (old text K S N n k at v) 0 n ++ (t ∷ [])) (added text K S N n k at v h₁ h₂ h₃)))
              ∙ (ahead_more (tokens_at text (old text K S N n k at v) 0 n) (token_of k (run is_letter (drop at text)) v) (lex (drop (at + m) text))
              ∙ (ap (ahead (tokens_at text (old text K S N n k at v) 0 n)) turned ∙ h.reads));
          behind = omega (arith, h.behind, p.fits.0);
          inside = held-room.1;
          coded = coded-more text K S N n k at v h₁ h₂ h₃ h.coded p.names;
        }
          where
            turned : before (token_of k (run is_letter (drop at text)) v) (lex (drop (at + m) text)) ≡ lex (drop at text)
            turned =
                ap (λ (s : List ℕ). before (token_of k (run is_letter (drop at text)) v) (lex s)) (sym (drop-drop m at text))
                ∙ sym (lex-token (drop at text) (token_of k (run is_letter (drop at text)) v) m word (sym p.says) p.fits.0 p.fits.1)
