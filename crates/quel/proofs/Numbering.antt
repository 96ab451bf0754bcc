-- Variables are numbered from 0 in order of binding.
use Prim.Native.Nat.{ℕ, zero, suc}
use mathlib.Core.Bool.{Bool, true, false}
use mathlib.Core.List.{List, [], ◌∷◌, ◌++◌, map, map-append}
use mathlib.Core.Option.{Option, none, some}
use mathlib.Core.Path.{◌≡◌, refl, sym, ◌∙◌, ap, subst, subst₂}
use Rattle.model.specs.Lists.{concat_map}
use Rattle.model.specs.Syntax.{Condition, Term, TRUE, FALSE, NOT, AND, OR, COMPARE, SOME, CONSTANT, ATTRIBUTE, AGGREGATE, Binding, Query, bindings, bindings_t, bindings_q, variables}
use Rattle.model.proofs.Lists.{concat_map-append}
use Rattle.quel.specs.Results.{Read, fail, ok, then, need, found, Word, each, has_word, unique_words}
use Rattle.quel.specs.Tokens.{Function, Sign}
use Rattle.quel.specs.Tree.{Formula, Operand, Target, Not, And, Or, Compare, Some, Number, Value, Of, Attribute, Aggregate, AggregateIf, Range, Text}
use Rattle.quel.specs.Names.{Entry, Bytes, relation_named, attribute_named, value_named}
use Rattle.quel.specs.Elaboration.{Symbol, symbol_in, inside, as_byte, aggregate, elaborate, elaborate_o, elaborate_t, elaborate_ts, elaborate_q, bind_symbols, bind_ranges, range_of, ranges_of, elaborate_text, used_in, symbols_of}
use Rattle.quel.specs.Demands.{Numbers, no_number, one_number}
use Rattle.quel.proofs.Results.{never, ok-value, ok-left, then-inv, found-inv, need-inv}

numbers-then : {n k m : ℕ} {vs ws : List ℕ} → Numbers n k vs → Numbers k m ws → Numbers n m (vs ++ ws)
numbers-then no_number q = q
numbers-then (one_number p) q = one_number (numbers-then p q)

both : {n k m : ℕ} (xs ys : List Binding) → Numbers n k (variables xs) → Numbers k m (variables ys) → Numbers n m (variables (xs ++ ys))
both {n} {k} {m} xs ys p q = subst (λ (l : List ℕ). Numbers n m l) (sym (map-append (λ (b : Binding). b.variable) xs ys)) (numbers-then p q)

pub give : {A : Type 0} (P : A → ℕ → Type 0) {a b : A} {r s : ℕ} → ok a r ≡ ok b s → P a r → P b s
give P h p = subst₂ P (ok-value h) (ok-left h) p

module _ (es : List Entry) where
  unfoldable pub InT : ℕ → Term → ℕ → Type 0
  InT n t m = Numbers n m (variables (bindings_t t))

  unfoldable pub InC : ℕ → Condition → ℕ → Type 0
  InC n c m = Numbers n m (variables (bindings c))

  aggregate-numbered : (f : Function) (x a : Word) (ρ : List Symbol) (n : ℕ) (c : List Symbol → ℕ → Read ℕ Condition) (t : Term) (m : ℕ)
      → ((ρ : List Symbol) (n : ℕ) (d : Condition) (m : ℕ) → c ρ n ≡ ok d m → InC n d m)
      → aggregate es f x a ρ n c ≡ ok t m → InT n t m
  unfolding aggregate InT InC bindings
  aggregate-numbered f x a ρ n c t m w h =
      found-inv t m (symbol_in x ρ) _ h λ s e₁ h.
      found-inv t m (attribute_named es s.relation a) _ h λ i e₂ h.
      then-inv t m (c (inside s (as_byte n) ρ) (suc n)) _ h λ d k e₃ h.
      give (InT n) h (one_number (w (inside s (as_byte n) ρ) (suc n) d k e₃))

  mutual
    unfolding elaborate InC InT bindings

    pub numbered : (c : Formula) (ρ : List Symbol) (n : ℕ) (d : Condition) (m : ℕ) → elaborate es c ρ n ≡ ok d m → InC n d m
    numbered (Not c) ρ n d m h =
        then-inv d m (elaborate es c ρ n) _ h λ a k e h.
        give (InC n) h (numbered c ρ n a k e)
    numbered (And b c) ρ n d m h =
        then-inv d m (elaborate es b ρ n) _ h λ a k e h.
        then-inv d m (elaborate es c ρ k) _ h λ a' k' e' h.
        give (InC n) h (both (bindings a) (bindings a') (numbered b ρ n a k e) (numbered c ρ k a' k' e'))
    numbered (Or b c) ρ n d m h =
        then-inv d m (elaborate es b ρ n) _ h λ a k e h.
        then-inv d m (elaborate es c ρ k) _ h λ a' k' e' h.
        give (InC n) h (both (bindings a) (bindings a') (numbered b ρ n a k e) (numbered c ρ k a' k' e'))
    numbered (Compare o b c) ρ n d m h =
        then-inv d m (elaborate_o es b ρ n) _ h λ a k e h.
        then-inv d m (elaborate_o es c ρ k) _ h λ a' k' e' h.
        give (InC n) h (both (bindings_t a) (bindings_t a') (numbered_o b ρ n a k e) (numbered_o c ρ k a' k' e'))
    numbered (Some x q c) ρ n d m h =
        found-inv d m (relation_named es q) _ h λ r e h.
        then-inv d m (elaborate es c (record { word = x; relation = r; variable = some (as_byte n) } ∷ ρ) (suc n)) _ h λ a k e' h.
        give (InC n) h (one_number (numbered c (record { word = x; relation = r; variable = some (as_byte n) } ∷ ρ) (suc n) a k e'))

    pub numbered_o : (a : Operand) (ρ : List Symbol) (n : ℕ) (t : Term) (m : ℕ) → elaborate_o es a ρ n ≡ ok t m → InT n t m
    numbered_o (Number k) ρ n t m h = give (InT n) h no_number
    numbered_o (Value w) ρ n t m h =
        found-inv t m (value_named es w) _ h λ b e h.
        give (InT n) h no_number
    numbered_o (Of u) ρ n t m h = numbered_t u ρ n t m h

    pub numbered_t : (u : Target) (ρ : List Symbol) (n : ℕ) (t : Term) (m : ℕ) → elaborate_t es u ρ n ≡ ok t m → InT n t m
    numbered_t (Attribute x a) ρ n t m h =
        found-inv t m (symbol_in x ρ) _ h λ s e₁ h.
        found-inv t m s.variable _ h λ v e₂ h.
        found-inv t m (attribute_named es s.relation a) _ h λ i e₃ h.
        give (InT n) h no_number
    numbered_t (Aggregate f x a) ρ n t m h = aggregate-numbered f x a ρ n _ t m (λ ρ n d m h. give (InC n) h no_number) h
    numbered_t (AggregateIf f x a c) ρ n t m h = aggregate-numbered f x a ρ n _ t m (λ ρ n d m h. numbered c ρ n d m h) h

  pub numbered_ts : (us : List Target) (ρ : List Symbol) (n : ℕ) (ts : List Term) (m : ℕ) → elaborate_ts es us ρ n ≡ ok ts m → Numbers n m (variables (concat_map bindings_t ts))
  unfolding elaborate_ts concat_map InT
  numbered_ts [] ρ n ts m h = give (λ (ts : List Term) (m : ℕ). Numbers n m (variables (concat_map bindings_t ts))) h no_number
  numbered_ts (u ∷ us) ρ n ts m h =
      then-inv ts m (elaborate_t es u ρ n) _ h λ t k e h.
      then-inv ts m (elaborate_ts es us ρ k) _ h λ zs k' e' h.
      give (λ (ts : List Term) (m : ℕ). Numbers n m (variables (concat_map bindings_t ts))) h (both (bindings_t t) (concat_map bindings_t zs) (numbered_t u ρ n t k e) (numbered_ts us ρ k zs k' e'))

  pub numbered_q : (q : Option Formula) (ρ : List Symbol) (n : ℕ) (d : Condition) (m : ℕ) → elaborate_q es q ρ n ≡ ok d m → Numbers n m (variables (bindings d))
  unfolding elaborate_q InC bindings
  numbered_q none ρ n d m h = give (λ (d : Condition) (m : ℕ). Numbers n m (variables (bindings d))) h no_number
  numbered_q (some c) ρ n d m h = numbered c ρ n d m h

  unfoldable pub InR : ℕ → List Symbol → ℕ → Type 0
  InR n ss m = Numbers n m (variables (ranges_of es ss))

  bound-numbered : (us : List Word) (q : ℕ) (xs : List Word) (n : ℕ) (ss : List Symbol) (m : ℕ) → bind_symbols es us q xs n ≡ ok ss m → InR n ss m
  unfolding bind_symbols InR ranges_of concat_map
  bound-numbered us q [] n ss m h = give (InR n) h no_number
  bound-numbered us q (x ∷ xs) n ss m h = go (has_word x us) h (bound-numbered us q xs)
    where
      go : (b : Bool)
          → elim b as (λ _. Read ℕ (List Symbol)) [
            | true ↦ then (bind_symbols es us q xs (suc n)) λ ss m. ok (record { word = x; relation = q; variable = some (as_byte n) } ∷ ss) m
            | false ↦ then (bind_symbols es us q xs n) λ ss m. ok (record { word = x; relation = q; variable = none } ∷ ss) m
          ] ≡ ok ss m
          → ((n : ℕ) (ss : List Symbol) (m : ℕ) → bind_symbols es us q xs n ≡ ok ss m → InR n ss m) → InR n ss m
      go true h ih = then-inv ss m (bind_symbols es us q xs (suc n)) _ h λ zs k e h. give (InR n) h (one_number (ih (suc n) zs k e))
      go false h ih = then-inv ss m (bind_symbols es us q xs n) _ h λ zs k e h. give (InR n) h (ih n zs k e)

  pub ranges-numbered : (us : List Word) (gs : List Range) (n : ℕ) (ss : List Symbol) (m : ℕ) → bind_ranges es us gs n ≡ ok ss m → InR n ss m
  unfolding bind_ranges InR ranges_of concat_map
  ranges-numbered us [] n ss m h = give (InR n) h no_number
  ranges-numbered us (g ∷ gs) n ss m h =
      found-inv ss m (relation_named es g.relation) _ h λ q e h.
      then-inv ss m (bind_symbols es us q (each g.symbols) n) _ h λ xs k e₁ h.
      then-inv ss m (bind_ranges es us gs k) _ h λ ys l e₂ h.
      give (InR n) h (subst (λ (z : List Binding). Numbers n l (variables z)) (sym (concat_map-append (λ (s : Symbol). range_of es s.relation s.variable) xs ys))
      (both (ranges_of es xs) (ranges_of es ys) (bound-numbered us q (each g.symbols) n xs k e₁) (ranges-numbered us gs k ys l e₂)))

  -- in byte order, which is the order of the text
  pub numbered_text : (t : Text) (q : Query) (n : ℕ) → elaborate_text es t ≡ ok q n → Numbers 0 n (variables (bindings_q q))
  unfolding elaborate_text bindings_q InR
  numbered_text t q n h =
      need-inv q n (unique_words (symbols_of t)) _ h λ u h.
      then-inv q n (bind_ranges es (used_in t) (each t.ranges) 0) _ h λ ρ k e₁ h.
      then-inv q n (elaborate_ts es (each t.targets) ρ k) _ h λ ts k' e₂ h.
      then-inv q n (elaborate_q es t.qualification ρ k') _ h λ c k'' e₃ h.
      give (λ (q : Query) (n : ℕ). Numbers 0 n (variables (bindings_q q))) h
      (both (ranges_of es ρ) (concat_map bindings_t ts ++ bindings c) (ranges-numbered (used_in t) (each t.ranges) 0 ρ k e₁)
      (both (concat_map bindings_t ts) (bindings c) (numbered_ts (each t.targets) ρ k ts k' e₂) (numbered_q t.qualification ρ k' c k'' e₃)))
