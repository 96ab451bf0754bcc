-- The first n kinds say the same as all, for tokens before the nth; their codes too.
use Prim.Native.Nat.{ℕ, zero, suc, ◌+◌, ◌≤◌, ◌<◌}
use mathlib.Core.Bool.{Bool}
use mathlib.Core.List.{List, ◌∷◌}
use mathlib.Core.Path.{◌≡◌, refl, sym, ap, ap₂, ◌∙◌}
use native.Mathlib.Omega.{arith}
use lib.ListN.{length, get_or, take, drop}
use lib.Seq.{get_or-take, length-take-le}
use Rattle.quel.specs.Tokens.{Token, is_letter, run}
use Rattle.tokens.specs.Codes.{Coded}
use Rattle.tokens.specs.Table.{token_of, word_in, token_at, tokens_at}
use Rattle.reader.specs.Verdict.{is_text}
use Rattle.elaborate.specs.Places.{table, tokens_from}

module _ (text ks ss ns : List ℕ) (n : ℕ) where
  same-tokens : (m i : ℕ) → i + m ≤ n → tokens_at text (table ks ss ns) i m ≡ tokens_at text (table (take n ks) ss ns) i m
  unfolding tokens_at token_at word_in
  same-tokens zero i h = refl
  same-tokens (suc m) i h =
      ap₂ (λ (t : Token) (ts : List Token). t ∷ ts)
      (ap (λ (k : ℕ). token_of k (run is_letter (drop (get_or ss i 0) text)) (get_or ns i 0)) (sym (get_or-take n ks i 0 (omega arith))))
      (same-tokens m (suc i) (omega arith))

  pub first-tokens : n ≤ length ks → tokens_at text (table ks ss ns) 0 n ≡ tokens_from text (table (take n ks) ss ns) 0
  unfolding tokens_from
  first-tokens h = same-tokens n 0 (omega arith) ∙ ap (λ (m : ℕ). tokens_at text (table (take n ks) ss ns) 0 m) (omega (arith, length-take-le n ks h))

  -- what is told of the first n kinds
  pub first-told : n ≤ length ks → (b : Bool) → b ≡ is_text (tokens_at text (table (take n ks) ss ns) 0 (length (take n ks))) → b ≡ is_text (tokens_at text (table ks ss ns) 0 n)
  first-told h b e =
      e ∙ ap is_text (ap (tokens_at text (table (take n ks) ss ns) 0) (length-take-le n ks h) ∙ sym (same-tokens n 0 (omega arith)))

-- the first n kinds
pub coded-first : (text K S N : List ℕ) (n : ℕ) → n ≤ length K → Coded text (table K S N) n → Coded text (table (take n K) S N) (length (take n K))
unfolding word_in
coded-first text K S N n h c = record { spelt = λ i l z. let m : i < n = omega (arith, l, length-take-le n K h) in c.spelt i m (sym (get_or-take n K i 0 m) ∙ z) }
