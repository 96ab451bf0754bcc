-- An action is its record, or a refusal; then the rest of the loop.
use Prim.Native.Nat.{ℕ, zero, suc, ◌≤◌}
use mathlib.Core.Bool.{Bool, true, false}
use mathlib.Core.List.{List, [], ◌∷◌, map}
use mathlib.Core.Option.{Option, none, some}
use mathlib.Core.Path.{◌≡◌, refl, sym, ap, ap₂, ◌∙◌}
use native.Mathlib.Omega.{arith}
use lib.Dec.{eqb}
use borrow.Author.Tests.{ne_eqb, eqb-true}
use Rattle.model.specs.Encoding.{encode_t}
use Rattle.quel.specs.Results.{fail, ok, found, Word, same_word}
use Rattle.quel.specs.Names.{Entry, Bytes, relation_named, attribute_named, value_named}
use Rattle.quel.specs.Elaboration.{Symbol, symbol_in, head_only, inside, as_byte}
use Rattle.quel.specs.Writing.{Written, before, Reaches, inner, around}
use Rattle.model.proofs.Tests.{clash, and-inv}
use Rattle.elaborate.specs.Reach.{known_of, known_by}
use Rattle.elaborate.specs.Actions.{use_item, head_item, use_by, head_by, some_by, value_by, item_of, perform}
use Rattle.elaborate.specs.Puts.{putting, symbol_by, reach_after, number_after, written}

-- equal words are one word
word-is : (a b : Word) → same_word a b ≡ true → a ≡ b
unfolding same_word
word-is [] [] h = refl
word-is [] (y ∷ ys) h = clash h
word-is (x ∷ xs) [] h = clash h
word-is (x ∷ xs) (y ∷ ys) h =
    let i = and-inv (eqb x y) (same_word xs ys) h in
    ap₂ (λ (n : ℕ) (l : List ℕ). n ∷ l) (eqb-true x y i.0) (word-is xs ys i.1)

symbol-word : (x : Word) (ρ : List Symbol) (s : Symbol) → symbol_in x ρ ≡ some s → s.word ≡ x
unfolding symbol_in
symbol-word x [] s h = let z : ◌≡◌ {A = ℕ} 0 1 = cc in absurd (omega arith)
symbol-word x (r ∷ ρ) s h = go (symbol-word x ρ s) (same_word r.word x) refl h
  where
    go : (symbol_in x ρ ≡ some s → s.word ≡ x) → (b : Bool) → same_word r.word x ≡ b → elim b [ true ↦ some r | false ↦ symbol_in x ρ ] ≡ some s → s.word ≡ x
    go k true e i = let z : r ≡ s = cc in ap (λ (y : Symbol). y.word) (sym z) ∙ word-is r.word x e
    go k false e i = k i

module _ (es : List Entry) (g v : ℕ) (x₀ x₁ x₂ x₃ x₄ : Word) (σ : Reaches) (n : ℕ) (k : Reaches → ℕ → Written) where
  use-put : perform es 1 g v x₀ x₁ x₂ x₃ x₄ σ n k ≡ putting (item_of es 1 g v x₀ x₂ x₃ x₄ (inner σ) n) (λ it. written it (k (reach_after 1 x₁ x₂ it σ) (number_after 1 n)))
  use-put = first (symbol_in x₀ (inner σ))
    where
      third : (u : ℕ) (o : Option ℕ) → found o (λ i. before (λ bs. 33 ∷ u ∷ i ∷ bs) (k σ n)) ≡ putting (use_by u o) (λ it. written it (k σ n))
      third u none = refl
      third u (some i) = refl

      second : (r : ℕ) (o : Option ℕ) → found o (λ u. found (attribute_named es r x₂) λ i. before (λ bs. 33 ∷ u ∷ i ∷ bs) (k σ n)) ≡ putting (use_item es x₂ (known_by r o)) (λ it. written it (k σ n))
      second r none = refl
      second r (some u) = third u (attribute_named es r x₂)

      first : (o : Option Symbol) → found o (λ s. found s.variable λ u. found (attribute_named es s.relation x₂) λ i. before (λ bs. 33 ∷ u ∷ i ∷ bs) (k σ n)) ≡ putting (use_item es x₂ (known_of o)) (λ it. written it (k σ n))
      first none = refl
      first (some s) = second s.relation s.variable

  value-put : perform es 2 g v x₀ x₁ x₂ x₃ x₄ σ n k ≡ putting (item_of es 2 g v x₀ x₂ x₃ x₄ (inner σ) n) (λ it. written it (k (reach_after 2 x₁ x₂ it σ) (number_after 2 n)))
  value-put = go (value_named es x₀)
    where
      go : (o : Option Bytes) → found o (λ (b : Bytes). before (λ bs. 32 ∷ b.b0 ∷ b.b1 ∷ b.b2 ∷ b.b3 ∷ bs) (k σ n)) ≡ putting (value_by o) (λ it. written it (k σ n))
      go none = refl
      go (some b) = refl

  head-put : perform es 4 g v x₀ x₁ x₂ x₃ x₄ σ n k ≡ putting (item_of es 4 g v x₀ x₂ x₃ x₄ (inner σ) n) (λ it. written it (k (reach_after 4 x₁ x₂ it σ) (number_after 4 n)))
  head-put = first (symbol_in x₂ (inner σ)) refl
    where
      second : (s : Symbol) → s.word ≡ x₂ → (o : Option ℕ)
          → found o (λ i. before (λ bs. 34 ∷ g ∷ as_byte n ∷ s.relation ∷ i ∷ bs) (k (inside s (as_byte n) (inner σ) ∷ σ) (suc n)))
          ≡ putting (head_by g (as_byte n) s.relation o) (λ it. written it (k ((symbol_by x₂ it ∷ map head_only (inner σ)) ∷ σ) (suc n)))
      second s e none = refl
      second s e (some i) =
          ap (λ (x : Word). before (λ bs. 34 ∷ g ∷ as_byte n ∷ s.relation ∷ i ∷ bs) (k ((record { word = x; relation = s.relation; variable = some (as_byte n) } ∷ map head_only (inner σ)) ∷ σ) (suc n))) e

      first : (o : Option Symbol) → symbol_in x₂ (inner σ) ≡ o
          → found o (λ s. found (attribute_named es s.relation x₄) λ i. before (λ bs. 34 ∷ g ∷ as_byte n ∷ s.relation ∷ i ∷ bs) (k (inside s (as_byte n) (inner σ) ∷ σ) (suc n)))
          ≡ putting (head_item es g n x₄ (known_of o)) (λ it. written it (k ((symbol_by x₂ it ∷ map head_only (inner σ)) ∷ σ) (suc n)))
      first none e = refl
      first (some s) e = second s (symbol-word x₂ (inner σ) s e) (attribute_named es s.relation x₄)

  some-put : perform es 6 g v x₀ x₁ x₂ x₃ x₄ σ n k ≡ putting (item_of es 6 g v x₀ x₂ x₃ x₄ (inner σ) n) (λ it. written it (k (reach_after 6 x₁ x₂ it σ) (number_after 6 n)))
  some-put = go (relation_named es x₃)
    where
      go : (o : Option ℕ) → found o (λ r. before (λ bs. 22 ∷ as_byte n ∷ r ∷ bs) (k ((record { word = x₁; relation = r; variable = some (as_byte n) } ∷ inner σ) ∷ σ) (suc n)))
          ≡ putting (some_by (as_byte n) o) (λ it. written it (k ((symbol_by x₁ it ∷ inner σ) ∷ σ) (suc n)))
      go none = refl
      go (some r) = refl

  nothing_put : (g : Written) → g ≡ before (λ bs. bs) g
  nothing_put fail = refl
  nothing_put (ok bs m) = refl

  none-put : (a : ℕ) → 10 ≤ a → perform es a g v x₀ x₁ x₂ x₃ x₄ σ n k ≡ putting (item_of es a g v x₀ x₂ x₃ x₄ (inner σ) n) (λ it. written it (k (reach_after a x₁ x₂ it σ) (number_after a n)))
  none-put a h =
      rw (ne_eqb a 1 (λ e. omega arith), ne_eqb a 2 (λ e. omega arith), ne_eqb a 3 (λ e. omega arith), ne_eqb a 4 (λ e. omega arith), ne_eqb a 5 (λ e. omega arith), ne_eqb a 6 (λ e. omega arith), ne_eqb a 7 (λ e. omega arith), ne_eqb a 8 (λ e. omega arith), ne_eqb a 9 (λ e. omega arith)) (nothing_put (k σ n))

  -- every action
  pub perform-put : (a : ℕ) → perform es a g v x₀ x₁ x₂ x₃ x₄ σ n k ≡ putting (item_of es a g v x₀ x₂ x₃ x₄ (inner σ) n) (λ it. written it (k (reach_after a x₁ x₂ it σ) (number_after a n)))
  unfolding encode_t
  perform-put zero = nothing_put (k σ n)
  perform-put (suc zero) = use-put
  perform-put (suc (suc zero)) = value-put
  perform-put (suc (suc (suc zero))) = refl
  perform-put (suc (suc (suc (suc zero)))) = head-put
  perform-put (suc (suc (suc (suc (suc zero))))) = refl
  perform-put (suc (suc (suc (suc (suc (suc zero)))))) = some-put
  perform-put (suc (suc (suc (suc (suc (suc (suc zero))))))) = nothing_put (k (inner σ ∷ σ) n)
  perform-put (suc (suc (suc (suc (suc (suc (suc (suc zero)))))))) = nothing_put (k (around σ) n)
  perform-put (suc (suc (suc (suc (suc (suc (suc (suc (suc zero))))))))) = refl
  perform-put (suc (suc (suc (suc (suc (suc (suc (suc (suc (suc a)))))))))) = none-put (suc (suc (suc (suc (suc (suc (suc (suc (suc (suc a)))))))))) (omega arith)
