-- The RANGE list relation by relation, and its numbers where all symbols are used.
use Prim.Native.Nat.{ℕ, suc, ◌+◌, ◌≤◌}
use mathlib.Core.Bool.{Bool, true, false}
use mathlib.Core.List.{List, [], ◌∷◌, ◌++◌, append_assoc, append-nil, map-append}
use mathlib.Core.Option.{some}
use mathlib.Core.Path.{◌≡◌, refl, sym, ◌∙◌, ap, ap₂}
use native.Mathlib.Omega.{arith}
use lib.ListN.{length}
use Rattle.model.specs.Lists.{Every, concat_map}
use Rattle.model.proofs.Lists.{concat_map-append}
use Rattle.quel.specs.Results.{ok, Word, Several, each, has_word}
use Rattle.quel.specs.Tree.{Range}
use Rattle.quel.specs.Names.{Entry, relation_named}
use Rattle.quel.specs.Elaboration.{Symbol, bind_symbols, bind_ranges}
use Rattle.quel.proofs.Results.{ok-value, ok-left, then-inv, found-inv}
use Rattle.parts.specs.Ranges.{with_number, numbered, after, in_order, over, words_of, AllUsed, Ranged}
use Rattle.parts.proofs.Given.{as_byte_lem}

words-over : (q : ℕ) (xs : List Word) → words_of (over q xs) ≡ xs
words-over q [] = refl
words-over q (x ∷ xs) = ap (λ (l : List Word). x ∷ l) (words-over q xs)

-- one after another
pub numbered-append : (us : List Word) (n : ℕ) (ss zs : List Symbol) → numbered us n (ss ++ zs) ≡ numbered us n ss ++ numbered us (after us n ss) zs
unfolding numbered after
numbered-append us n [] zs = refl
numbered-append us n (s ∷ ss) zs = go (has_word s.word us) refl (λ k. numbered-append us k ss zs)
  where
    go : (b : Bool) → has_word s.word us ≡ b → ((k : ℕ) → numbered us k (ss ++ zs) ≡ numbered us k ss ++ numbered us (after us k ss) zs) → numbered us n ((s ∷ ss) ++ zs) ≡ numbered us n (s ∷ ss) ++ numbered us (after us n (s ∷ ss)) zs
    go true e ih = rw (numbered, after, e, ih (suc n))
    go false e ih = rw (numbered, after, e, ih n)

pub after-append : (us : List Word) (n : ℕ) (ss zs : List Symbol) → after us n (ss ++ zs) ≡ after us (after us n ss) zs
unfolding after
after-append us n [] zs = refl
after-append us n (s ∷ ss) zs = go (has_word s.word us) refl (λ k. after-append us k ss zs)
  where
    go : (b : Bool) → has_word s.word us ≡ b → ((k : ℕ) → after us k (ss ++ zs) ≡ after us (after us k ss) zs) → after us n ((s ∷ ss) ++ zs) ≡ after us (after us n (s ∷ ss)) zs
    go true e ih = rw (after, e, ih (suc n))
    go false e ih = rw (after, e, ih n)

module _ (es : List Entry) where
  symbols-bound : (us : List Word) (q : ℕ) (xs : List Word) (n : ℕ) → bind_symbols es us q xs n ≡ ok (numbered us n (over q xs)) (after us n (over q xs))
  unfolding bind_symbols numbered after
  symbols-bound us q [] n = refl
  symbols-bound us q (x ∷ xs) n = go (has_word x us) refl (symbols-bound us q xs)
    where
      go : (b : Bool) → has_word x us ≡ b → ((k : ℕ) → bind_symbols es us q xs k ≡ ok (numbered us k (over q xs)) (after us k (over q xs))) → bind_symbols es us q (x ∷ xs) n ≡ ok (numbered us n (over q (x ∷ xs))) (after us n (over q (x ∷ xs)))
      go true e ih = rw (bind_symbols, numbered, after, e, ih (suc n))
      go false e ih = rw (bind_symbols, numbered, after, e, ih n)

  -- one relation more
  ranges-bound : (us : List Word) (gs : List Range) (g : Range) (q : ℕ) (n : ℕ) (ss : List Symbol) (m : ℕ) → relation_named es g.relation ≡ some q → bind_ranges es us gs n ≡ ok ss m
      → bind_ranges es us (gs ++ (g ∷ [])) n ≡ ok (ss ++ numbered us m (over q (each g.symbols))) (after us m (over q (each g.symbols)))
  unfolding bind_ranges
  ranges-bound us [] g q n ss m f e =
      rw (f, symbols-bound us q (each g.symbols) n, append-nil (numbered us n (over q (each g.symbols))), sym (ok-value e), sym (ok-left e))
  ranges-bound us (x ∷ gs) g q n ss m f e =
      found-inv ss m (relation_named es x.relation) _ e λ k g₀ e.
      then-inv ss m (bind_symbols es us k (each x.symbols) n) _ e λ ys j g₁ e.
      then-inv ss m (bind_ranges es us gs j) _ e λ ws i g₂ e.
      rw (g₀, g₁, ranges-bound us gs g q j ws m f (g₂ ∙ ap (λ (a : ℕ). ok ws a) (ok-left e)))
      (ap (λ (s : List Symbol). ok s (after us m (over q (each g.symbols)))) (sym (append_assoc ys ws (numbered us m (over q (each g.symbols)))) ∙ ap (λ (s : List Symbol). s ++ numbered us m (over q (each g.symbols))) (ok-value e)))

  pub ranged-none : Ranged es [] []
  unfolding bind_ranges concat_map numbered after
  ranged-none = record { binds = λ us n. refl; words = refl }

  pub ranged-last : {gs : List Range} {ss : List Symbol} {q : ℕ} (w : Word) (xs : Several Word) → Ranged es gs ss → relation_named es w ≡ some q → Ranged es (gs ++ (record { relation = w; symbols = xs } ∷ [])) (ss ++ over q (each xs))
  unfolding concat_map
  ranged-last {gs} {ss} {q} w xs p e = record {
    binds = λ us n. ranges-bound us gs (record { relation = w; symbols = xs }) q n (numbered us n ss) (after us n ss) e (p.binds us n)
        ∙ ap₂ (λ (s : List Symbol) (m : ℕ). ok s m) (sym (numbered-append us n ss (over q (each xs)))) (sym (after-append us n ss (over q (each xs))));
    words = map-append (λ (s : Symbol). s.word) ss (over q (each xs)) ∙ ap₂ (λ (x y : List Word). x ++ y) p.words (words-over q (each xs) ∙ sym (append-nil (each xs)))
        ∙ sym (concat_map-append (λ (g : Range). each g.symbols) gs (record { relation = w; symbols = xs } ∷ []));
  }

-- all of them used: numbers in order
pub numbered-all : (us : List Word) (n : ℕ) (ss : List Symbol) → AllUsed us ss → n + length ss ≤ 256 → numbered us n ss ≡ in_order n ss
unfolding numbered in_order Every
numbered-all us n [] a l = refl
numbered-all us n (s ∷ ss) a l = rw (numbered, a.0, as_byte_lem n (omega (arith, l)), numbered-all us (suc n) ss a.1 (omega (arith, l)))

pub after-all : (us : List Word) (n : ℕ) (ss : List Symbol) → AllUsed us ss → after us n ss ≡ n + length ss
unfolding after Every
after-all us n [] a = omega arith
after-all us n (s ∷ ss) a = rw (after, a.0, after-all us (suc n) ss a.1) (omega arith)

pub in-order-last : (n : ℕ) (ss : List Symbol) (s : Symbol) → in_order n (ss ++ (s ∷ [])) ≡ in_order n ss ++ (with_number s (n + length ss) ∷ [])
unfolding in_order
in-order-last n [] s = ap (λ (k : ℕ). with_number s k ∷ []) (omega arith)
in-order-last n (z ∷ ss) s = ap (λ (l : List Symbol). with_number z n ∷ l) (in-order-last (suc n) ss s ∙ ap (λ (k : ℕ). in_order (suc n) ss ++ (with_number s k ∷ [])) (omega arith))
