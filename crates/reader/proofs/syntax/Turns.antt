-- The loop over tokens: the machine on what is left gives the whole.
use Prim.Native.Nat.{ℕ, zero, suc, ◌+◌, ◌-◌, ◌%◌, ◌≤◌, ◌<◌}
use mathlib.Core.Bool.{Bool, true, false, cond, ◌&&◌}
use mathlib.Core.List.{List, [], ◌∷◌}
use mathlib.Core.Path.{◌≡◌, refl, sym, ◌∙◌, ap, ap₂}
use native.Mathlib.Omega.{arith}
use native.Mathlib.Numerals.{add-one}
use lib.Dec.{eqb, ltb}
use lib.ListN.{length, get_or, set, get_or-eq_default}
use lib.Seq.{get_or-set_same, get_or-set_other}
use borrow.Author.Tests.{eqb-true, eqb-false, lt-ltb, le-ltb, ne_eqb, ltb-true, ltb-false}
use Rattle.model.proofs.Tests.{and-inv}
use Rattle.quel.specs.Tokens.{Token, name, number, key, point}
use Rattle.tokens.specs.Table.{Table, fixed, token_of, word_in, token_at, tokens_at}
use Rattle.reader.specs.Machine.{sort_of, sort, rules, pick, top, below, mode_after, stack_after, may_end, is_empty, accepts}
use Rattle.reader.specs.Verdict.{is_text}
use Rattle.std.specs.Prelude.{Option, Some, None}
use Rattle.reader.specs.Machine.{move, sort_number, code_of, AreSmall}
use Rattle.reader.specs.declared.syntax.Sort.{Sort}
use Rattle.reader.specs.declared.syntax.Move.{Move}
use Rattle.reader.specs.declared.syntax.Move.TheVariants as M
use Rattle.reader.proofs.syntax.Steps.{dead}
use Rattle.reader.proofs.syntax.Agrees.{agrees}

-- a test of all numbers below n
unfoldable pub up_to : (ℕ → Bool) → ℕ → Bool
up_to f zero = true
up_to f (suc n) = f n && up_to f n

up-to : (f : ℕ → Bool) (n : ℕ) → up_to f n ≡ true → (k : ℕ) → k < n → f k ≡ true
unfolding up_to
up-to f zero h k l = absurd (omega arith)
up-to f (suc n) h k l = let i = and-inv (f n) (up_to f n) h in go (eqb k n) refl i.0 (up-to f n i.1 k)
  where
    go : (x : Bool) → eqb k n ≡ x → f n ≡ true → (k < n → f k ≡ true) → f k ≡ true
    go true e a b = ap f (eqb-true k n e) ∙ a
    go false e a b = b (omega (arith, eqb-false k n e))

-- a kind's sort is its token's
plain-sort : (k : ℕ) (w : List ℕ) (n : ℕ) → sort_of (token_of k w n) ≡ sort_of (token_of k [] 0)
unfolding token_of
plain-sort k w n = go (eqb k 0) (eqb k 1)
  where
    go : (x y : Bool) → sort_of (cond x (name w) (cond y (number n) (get_or fixed (k - 2) (key point)))) ≡ sort_of (cond x (name []) (cond y (number 0) (get_or fixed (k - 2) (key point))))
    go true y = refl
    go false true = refl
    go false false = refl

known : up_to (λ k. eqb (sort_of (token_of k [] 0)) (sort k)) 26 ≡ true
unfolding up_to token_of sort
known = refl

high : (k : ℕ) → 26 ≤ k → sort_of (token_of k [] 0) ≡ sort k
unfolding token_of sort
high k h =
    rw (
      ne_eqb k 0 (λ e. omega arith),
      ne_eqb k 1 (λ e. omega arith),
      get_or-eq_default fixed (key point) {n = k - 2} (omega arith),
      le-ltb k 2 (omega arith),
      le-ltb k 7 (omega arith),
      le-ltb k 13 (omega arith),
      ne_eqb k 19 (λ e. omega arith),
      lt-ltb 25 k (omega arith),
    )

sort-token : (k : ℕ) (w : List ℕ) (n : ℕ) → sort_of (token_of k w n) ≡ sort k
sort-token k w n = plain-sort k w n ∙ go (ltb k 26) refl
  where
    go : (x : Bool) → ltb k 26 ≡ x → sort_of (token_of k [] 0) ≡ sort k
    go true e = eqb-true (sort_of (token_of k [] 0)) (sort k) (up-to (λ k. eqb (sort_of (token_of k [] 0)) (sort k)) 26 known k (ltb-true k 26 e))
    go false e = high k (ltb-false k 26 e)

-- the modes kept, from below place d down to place 0
pub kept : List ℕ → ℕ → List ℕ
kept stack zero = []
kept stack (suc d) = get_or stack d 0 ∷ kept stack d

kept_set : (stack : List ℕ) (j x d : ℕ) → d ≤ j → kept (set stack j x) d ≡ kept stack d
unfolding kept
kept_set stack j x zero h = refl
kept_set stack j x (suc d) h = ap₂ (λ (a : ℕ) (l : List ℕ). a ∷ l) (get_or-set_other stack j d x 0 (λ e. omega arith)) (kept_set stack j x d (omega arith))

kept-more : (stack : List ℕ) (d m : ℕ) → d < length stack → kept (set stack d m) (d + 1) ≡ m ∷ kept stack d
unfolding kept
kept-more stack d m h = ap (kept (set stack d m)) (add-one d) ∙ ap₂ (λ (a : ℕ) (l : List ℕ). a ∷ l) (get_or-set_same stack d m 0 h) (kept_set stack d m d (omega arith))

kept-less : (stack : List ℕ) (d : ℕ) → (d ≡ 0 → ⊥) → kept stack d ≡ get_or stack (d - 1) 0 ∷ kept stack (d - 1)
unfolding kept
kept-less stack zero h = absurd (h refl)
kept-less stack (suc d) h = let e : d ≡ suc d - 1 = omega arith in ap (λ (j : ℕ). get_or stack j 0 ∷ kept stack j) e

kept-empty : (stack : List ℕ) (d : ℕ) → is_empty (kept stack d) ≡ eqb d 0
unfolding kept
kept-empty stack zero = refl
kept-empty stack (suc d) = sym (ne_eqb (suc d) 0 (λ e. omega arith))

-- the machine in the middle of the tokens
pub record Ran (kinds stack : List ℕ) (mode depth i : ℕ) : Type 0 where
  pub rest : (text : List ℕ) (t : Table) → t.kinds ≡ kinds → accepts (kept stack depth) mode (tokens_at text t i (length kinds - i)) ≡ accepts [] 1 (tokens_at text t 0 (length kinds))
  pub deep : depth ≤ i

pub ran-start : (kinds stack : List ℕ) → Ran kinds stack 1 0 0
unfolding kept
ran-start kinds stack = record { rest = λ text t e. ap (λ (m : ℕ). accepts [] 1 (tokens_at text t 0 m)) (omega arith); deep = omega arith }

module _ (kinds stack : List ℕ) (mode depth i : ℕ) (h : Ran kinds stack mode depth i) where
  abbrev n : ℕ
  n = length kinds

  next-token : (text : List ℕ) (t : Table) → i < n → tokens_at text t i (n - i) ≡ token_at text t i ∷ tokens_at text t (i + 1) (n - (i + 1))
  unfolding tokens_at
  next-token text t l =
      let e : n - i ≡ suc (n - (i + 1)) = omega arith in
      ap (tokens_at text t i) e ∙ ap (λ (j : ℕ). token_at text t i ∷ tokens_at text t j (n - (i + 1))) (sym (add-one i))

  token-sort : (text : List ℕ) (t : Table) → t.kinds ≡ kinds → sort_of (token_at text t i) ≡ sort (get_or kinds i 0)
  unfolding token_at
  token-sort text t e = sort-token (get_or t.kinds i 0) (word_in text t i) (get_or t.numbers i 0) ∙ ap (λ (l : List ℕ). sort (get_or l i 0)) e

  -- what is left after a token
  abbrev after : List ℕ → Table → List Token
  after text t = tokens_at text t (i + 1) (n - (i + 1))

  module _ (l : i < n) (s : Sort) (es : sort_number s ≡ sort (get_or kinds i 0)) where
    stepped : (v : ℕ) → v ≡ pick (get_or rules mode []) (sort_number s) → (text : List ℕ) (t : Table) → t.kinds ≡ kinds
        → accepts (stack_after v (kept stack depth)) (mode_after v (top (kept stack depth))) (after text t) ≡ accepts [] 1 (tokens_at text t 0 n)
    unfolding accepts move
    stepped v ev text t e =
        sym (
        ap (accepts (kept stack depth) mode) (next-token text t l)
        ∙ ap (λ (x : ℕ). accepts (stack_after x (kept stack depth)) (mode_after x (top (kept stack depth))) (after text t)) (ap (move mode) (token-sort text t e ∙ sym es) ∙ sym ev)
        ) ∙ h.rest text t e

    -- the move that was taken
    abbrev pub Takes : Option Move → Type 0
    Takes o = (code_of o ≡ pick (get_or rules mode []) (sort_number s)) × AreSmall o

    -- no text
    abbrev pub Refused : Type 0
    Refused = (text : List ℕ) (t : Table) → t.kinds ≡ kinds → false ≡ is_text (tokens_at text t 0 n)

    pub stops-none : Takes None → Refused
    stops-none o text t e = sym (dead (kept stack depth) (after text t)) ∙ (stepped 0 o.0 text t e ∙ agrees (tokens_at text t 0 n))

    pub stops-low : Takes (Some M.Back) → depth ≡ 0 → Refused
    unfolding kept
    stops-low o z text t e = sym (dead [] (after text t)) ∙ (ap (λ (d : ℕ). accepts (below (kept stack d)) (top (kept stack d)) (after text t)) (sym z) ∙ (stepped 96 o.0 text t e ∙ agrees (tokens_at text t 0 n)))

    pub ran-to : (m : ℕ) → Takes (Some (M.To m)) → Ran kinds stack m depth (i + 1)
    ran-to m o = record {
      rest = λ text t e. sym (alone (after text t)) ∙ stepped m o.0 text t e;
      deep = omega (arith, h.deep);
    }
      where
        alone : (ts : List Token) → accepts (stack_after m (kept stack depth)) (mode_after m (top (kept stack depth))) ts ≡ accepts (kept stack depth) m ts
        alone ts = rw (lt-ltb m 32 o.1)

    module _ (m : ℕ) (room : depth < length stack) where
      pub ran-aggregate : Takes (Some (M.Aggregate m)) → Ran kinds (set stack depth m) 25 (depth + 1) (i + 1)
      ran-aggregate o = record {
        rest = λ text t e. sym (inner (after text t)) ∙ stepped (32 + m) o.0 text t e;
        deep = omega (arith, h.deep);
      }
        where
          inner : (ts : List Token) → accepts (stack_after (32 + m) (kept stack depth)) (mode_after (32 + m) (top (kept stack depth))) ts ≡ accepts (kept (set stack depth m) (depth + 1)) 25 ts
          inner ts =
              let r : (32 + m) % 32 ≡ m = omega (arith, o.1) in
              rw (le-ltb (32 + m) 32 (omega arith), lt-ltb (32 + m) 96 (omega (arith, o.1)), lt-ltb (32 + m) 64 (omega (arith, o.1)), r, kept-more stack depth m room)

      pub ran-open : Takes (Some (M.Open m)) → Ran kinds (set stack depth m) 13 (depth + 1) (i + 1)
      ran-open o = record {
        rest = λ text t e. sym (inner (after text t)) ∙ stepped (64 + m) o.0 text t e;
        deep = omega (arith, h.deep);
      }
        where
          inner : (ts : List Token) → accepts (stack_after (64 + m) (kept stack depth)) (mode_after (64 + m) (top (kept stack depth))) ts ≡ accepts (kept (set stack depth m) (depth + 1)) 13 ts
          inner ts =
              let r : (64 + m) % 32 ≡ m = omega (arith, o.1) in
              rw (le-ltb (64 + m) 32 (omega arith), lt-ltb (64 + m) 96 (omega (arith, o.1)), le-ltb (64 + m) 64 (omega arith), r, kept-more stack depth m room)

    pub ran-back : Takes (Some M.Back) → (depth ≡ 0 → ⊥) → Ran kinds stack (get_or stack (depth - 1) 0) (depth - 1) (i + 1)
    ran-back o z = record {
      rest = λ text t e. sym (ap (λ (σ : List ℕ). accepts (below σ) (top σ) (after text t)) (kept-less stack depth z)) ∙ stepped 96 o.0 text t e;
      deep = omega (arith, h.deep);
    }

  pub ran-end : n ≤ i → (r : Bool) → r ≡ (may_end mode && eqb depth 0) → (text : List ℕ) (t : Table) → t.kinds ≡ kinds → r ≡ is_text (tokens_at text t 0 n)
  unfolding accepts tokens_at
  ran-end l r e text t f =
      let none : 0 ≡ n - i = omega arith in
      e ∙ (ap (λ (b : Bool). may_end mode && b) (sym (kept-empty stack depth))
      ∙ (ap (λ (j : ℕ). accepts (kept stack depth) mode (tokens_at text t i j)) none ∙ (h.rest text t f ∙ agrees (tokens_at text t 0 n))))

-- outside the modes there is no rule
abbrev pub Apart : ℕ → ℕ → Type 0
Apart m zero = Unit {0}
Apart m (suc n) = Apart m n × (m ≡ suc n → ⊥)

apart : (m n : ℕ) → Apart m n → 1 ≤ m → n < m
apart m zero a h = omega arith
apart m (suc n) a h = omega (arith, apart m n a.0 h, a.1)

pub no_mode : (m s : ℕ) → Apart m 29 → 0 ≡ pick (get_or rules m []) s
no_mode m s a = go (eqb m 0) refl
  where
    go : (x : Bool) → eqb m 0 ≡ x → 0 ≡ pick (get_or rules m []) s
    go true e = ap (λ (m : ℕ). pick (get_or rules m []) s) (sym (eqb-true m 0 e))
    go false e = ap (λ (l : List (ℕ × ℕ)). pick l s) (sym (get_or-eq_default rules [] {n = m} (omega (arith, apart m 29 a (omega (arith, eqb-false m 0 e))))))
