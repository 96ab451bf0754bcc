-- What is read is in reach, each number bound once: 32 comes from the catalogue or from numbers past the limit only.
use Prim.Native.Nat.{ℕ, suc, ◌≤◌, ◌<◌}
use mathlib.Core.Bool.{Bool, true, false}
use mathlib.Core.List.{List, [], ◌∷◌, ◌++◌, map}
use mathlib.Core.Option.{Option, none, some}
use mathlib.Core.Path.{◌≡◌, refl, sym, ◌∙◌, subst}
use native.Mathlib.Nat.{mod-eq_of_lt}
use native.Mathlib.Omega.{arith}
use lib.ListN.{length}
use borrow.Author.Tests.{eq-eqb, ne_eqb, lt-ltb}
use Rattle.model.specs.Lists.{update, any, all, contains, unique, concat_map, Every}
use Rattle.model.specs.Syntax.{Condition, Term, AND, COMPARE, Binding, Use, Query, bindings, bindings_t, bindings_q, variables, uses, uses_t, uses_q}
use Rattle.model.specs.Catalogue.{Shape, attributes_at}
use Rattle.model.specs.Scope.{Scope, nobody, known_attribute, known_binding, in_scope, in_scope_t, range_scope, query_in_scope, bound_once}
use Rattle.model.specs.Checks.{fails32}
use Rattle.model.proofs.Tests.{and_intro}
use Rattle.model.proofs.Lists.{every_append, every_map, every-both}
use Rattle.quel.specs.Results.{Read, fail, ok, found, Word, each, same_word, unique_words}
use Rattle.quel.specs.Tokens.{Function}
use Rattle.quel.specs.Tree.{Formula, Operand, Target, Not, And, Or, Compare, Some, Number, Value, Of, Attribute, Aggregate, AggregateIf, Text}
use Rattle.quel.specs.Names.{Entry, names, relation_named, attribute_named, value_named}
use Rattle.quel.specs.Elaboration.{operator_of, Symbol, symbol_in, head_only, inside, as_byte, aggregate, elaborate, elaborate_o, elaborate_t, elaborate_ts, elaborate_q, bind_ranges, range_of, ranges_of, elaborate_text, used_in, symbols_of}
use Rattle.quel.specs.ReadText.{resolve}
use Rattle.quel.specs.Demands.{Numbers, no_number, one_number, Known, InReach}
use Rattle.quel.proofs.Results.{never, then-inv, found-inv, need-inv}
use Rattle.quel.proofs.Numbering.{give, InT, InC, InR, numbered, numbered_o, numbered_t, numbered_ts, numbered_q, ranges-numbered, numbered_text}

-- n, n + 1, .. below m
numbers-inv : {n m v : ℕ} {vs : List ℕ} → Numbers n m (v ∷ vs) → (v ≡ as_byte n) × Numbers (suc n) m vs
numbers-inv (one_number p) = (refl, p)

numbers-grow : {n m : ℕ} {vs : List ℕ} → Numbers n m vs → n ≤ m
numbers-grow no_number = omega arith
numbers-grow (one_number p) = omega (arith, numbers-grow p)

small : {n m : ℕ} → suc n ≤ m → m ≤ 256 → as_byte n ≡ n
small h l = mod-eq_of_lt (omega arith)

numbers-fresh : {n m : ℕ} {vs : List ℕ} (a : ℕ) → a < n → m ≤ 256 → Numbers n m vs → contains a vs ≡ false
unfolding contains any
numbers-fresh a h l no_number = refl
numbers-fresh {n} a h l (one_number p) =
    let e = small (numbers-grow p) l in
    rw (ne_eqb a (as_byte n) (λ z. omega arith)) (numbers-fresh a (omega arith) l p)

numbers-unique : {n m : ℕ} {vs : List ℕ} → m ≤ 256 → Numbers n m vs → unique vs ≡ true
unfolding unique
numbers-unique l no_number = refl
numbers-unique {n} l (one_number p) =
    let e = small (numbers-grow p) l in
    rw (numbers-fresh (as_byte n) (omega arith) l p) (numbers-unique l p)

never-some : {A X : Type 0} (a : A) → none ≡ some a → X
never-some a h = let z : ◌≡◌ {A = ℕ} 0 1 = cc in absurd (omega arith)

same_some : (a b : ℕ) → some a ≡ some b → a ≡ b
same_some a b h = cc

-- a symbol found has what all have
symbol-has : (P : Symbol → Type 0) (x : Word) (ρ : List Symbol) (s : Symbol) → symbol_in x ρ ≡ some s → Every P ρ → P s
unfolding symbol_in Every
symbol-has P x [] s h e = never-some s h
symbol-has P x (a ∷ ρ) s h e = go (same_word a.word x) h (λ k. symbol-has P x ρ s k e.1)
  where
    go : (t : Bool) → elim t as (λ _. Option Symbol) [ true ↦ some a | false ↦ symbol_in x ρ ] ≡ some s → (symbol_in x ρ ≡ some s → P s) → P s
    go true h k = let i : a ≡ s = cc in subst P i e.0
    go false h k = k h

-- each of a list has what all of it have
every-self : {A I : Type 0} (R : I → A → Type 0) (xs : List A) → Every (λ (x : A). (i : I) → Every (R i) xs → R i x) xs
unfolding Every
every-self R [] = tt
every-self {A} {I} R (x ∷ xs) = (λ i h. h.0, every_map (λ (y : A). (i : I) → Every (R i) xs → R i y) (λ (y : A). (i : I) → Every (R i) (x ∷ xs) → R i y) (λ y f i h. f i h.1) xs (every-self R xs))

module _ (es : List Entry) (sh : Shape) (limit : ℕ) (us : List Use) where
  -- a use of v, which has the relation r, is of an attribute that r has
  abbrev Has : Binding → Use → Type 0
  Has b u = u.variable ≡ b.variable → u.attribute < attributes_at sh b.relation

  abbrev Fine : Binding → Type 0
  Fine b = (b.relation < length sh) × Every (Has b) us

  abbrev Used : Use → Type 0
  Used u = (b : Binding) → Every (Has b) us → Has b u

  abbrev bind : ℕ → ℕ → Binding
  bind v r = record { variable = v; relation = r }

  -- the variables of symbols are in reach
  abbrev Reached : ℕ → Scope → Symbol → Type 0
  Reached n σ s = (v : ℕ) → s.variable ≡ some v → (v < n) × ((σ v ≡ some s.relation) × Every (Has (bind v s.relation)) us)

  later : (n k : ℕ) (σ : Scope) (ρ : List Symbol) → n ≤ k → Every (Reached n σ) ρ → Every (Reached k σ) ρ
  later n k σ ρ h e = every_map (Reached n σ) (Reached k σ) (λ s f v i. let j = f v i in (omega (arith, j.0), j.1)) ρ e

  -- a new variable, n
  module _ (n : ℕ) (r : ℕ) (x : Word) (l : as_byte n ≡ n) (h : Every (Has (bind (as_byte n) r)) us) where
    abbrev fresh : Symbol
    fresh = record { word = x; relation = r; variable = some (as_byte n) }

    new-reached : (σ : Scope) → Reached (suc n) (update σ (as_byte n) (some r)) fresh
    new-reached σ v e =
        let i : v ≡ as_byte n = sym (same_some (as_byte n) v e) in
        (omega arith, (rw (eq-eqb v (as_byte n) i), subst (λ (w : ℕ). Every (Has (bind w r)) us) (sym i) h))

    old-reached : (σ : Scope) (ρ : List Symbol) → Every (Reached n σ) ρ → Every (Reached (suc n) (update σ (as_byte n) (some r))) ρ
    old-reached σ ρ e = every_map (Reached n σ) (Reached (suc n) (update σ (as_byte n) (some r))) (λ s f v i. let j = f v i in (omega (arith, j.0), (rw (ne_eqb v (as_byte n) (λ z. omega (arith, j.0, z, l))) j.1.0, j.1.1))) ρ e

    heads-reached : (σ : Scope) (ρ : List Symbol) → Every (Reached (suc n) σ) (map head_only ρ)
    unfolding Every
    heads-reached σ [] = tt
    heads-reached σ (s ∷ ρ) = (λ v e. never-some v e, heads-reached σ ρ)

  -- what is read of a condition, and of a term
  abbrev Reaches : Scope → Condition → ℕ → Type 0
  Reaches σ d m = m ≤ 256 → m ≤ limit → Every Fine (bindings d) → Every Used (uses d) → in_scope sh limit d σ ≡ true

  abbrev ReachesT : Scope → Term → ℕ → Type 0
  ReachesT σ t m = m ≤ 256 → m ≤ limit → Every Fine (bindings_t t) → Every Used (uses_t t) → in_scope_t sh limit t σ ≡ true

  abbrev ReachesTs : Scope → List Term → ℕ → Type 0
  ReachesTs σ zs m = m ≤ 256 → m ≤ limit → Every Fine (concat_map bindings_t zs) → Every Used (concat_map uses_t zs) → all (λ t. in_scope_t sh limit t σ) zs ≡ true

  known-binding : (v r : ℕ) → v < limit → r < length sh → known_binding sh limit (bind v r) ≡ true
  unfolding known_binding
  known-binding v r h k = rw (lt-ltb v limit h, lt-ltb r (length sh) k)

  aggregate-reaches : (f : Function) (x a : Word) (ρ : List Symbol) (n : ℕ) (σ : Scope) (c : List Symbol → ℕ → Read ℕ Condition) (t : Term) (m : ℕ)
      → ((ρ : List Symbol) (n : ℕ) (d : Condition) (m : ℕ) → c ρ n ≡ ok d m → n ≤ m)
      → ((ρ : List Symbol) (n : ℕ) (σ : Scope) (d : Condition) (m : ℕ) → c ρ n ≡ ok d m → Every (Reached n σ) ρ → Reaches σ d m)
      → aggregate es f x a ρ n c ≡ ok t m → ReachesT σ t m
  unfolding aggregate bindings uses in_scope Every
  aggregate-reaches f x a ρ n σ c t m grow w h =
      found-inv t m (symbol_in x ρ) _ h λ s e₁ h.
      found-inv t m (attribute_named es s.relation a) _ h λ i e₂ h.
      then-inv t m (c (inside s (as_byte n) ρ) (suc n)) _ h λ d k e₃ h.
      give (ReachesT σ) h λ l k bs us.
      let g = grow (inside s (as_byte n) ρ) (suc n) d _ e₃ in
      let b = small g l in
      let fine = bs.0 in
      and_intro _ _ (known-binding (as_byte n) s.relation (omega arith) fine.0)
      (and_intro _ _ (lt-ltb i (attributes_at sh s.relation) (us.0 (bind (as_byte n) s.relation) fine.1 refl))
      (w (inside s (as_byte n) ρ) (suc n) (update nobody (as_byte n) (some s.relation)) d _ e₃
      (new-reached n s.relation s.word b fine.1 nobody, heads-reached n s.relation s.word b fine.1 (update nobody (as_byte n) (some s.relation)) ρ) l k bs.1 us.1))

  attribute-reaches : (σ : Scope) (v i : ℕ) (s : Symbol) → (σ v ≡ some s.relation) × Every (Has (bind v s.relation)) us → Used (record { variable = v; attribute = i }) → known_attribute sh (σ v) i ≡ true
  unfolding known_attribute
  attribute-reaches σ v i s h u = rw h.0 (lt-ltb i (attributes_at sh s.relation) (u (bind v s.relation) h.1 refl))

  -- two parts, the second read after the first
  both : (σ : Scope) (a a' : Condition) (k k' : ℕ) → k ≤ k' → Reaches σ a k → Reaches σ a' k' → Reaches σ (AND a a') k'
  unfolding bindings uses in_scope
  both σ a a' k k' g f f' l l' bs us =
      let i = every_append Fine (bindings a) (bindings a') bs in
      let j = every_append Used (uses a) (uses a') us in
      and_intro _ _ (f (omega arith) (omega arith) i.0 j.0) (f' l l' i.1 j.1)

  both_t : (σ : Scope) (o : ℕ) (a a' : Term) (k k' : ℕ) → k ≤ k' → ReachesT σ a k → ReachesT σ a' k' → Reaches σ (COMPARE o a a') k'
  unfolding bindings uses in_scope
  both_t σ o a a' k k' g f f' l l' bs us =
      let i = every_append Fine (bindings_t a) (bindings_t a') bs in
      let j = every_append Used (uses_t a) (uses_t a') us in
      and_intro _ _ (f (omega arith) (omega arith) i.0 j.0) (f' l l' i.1 j.1)

  mutual
    unfolding elaborate bindings uses in_scope Every InC InT

    reaches : (c : Formula) (ρ : List Symbol) (n : ℕ) (σ : Scope) (d : Condition) (m : ℕ) → elaborate es c ρ n ≡ ok d m → Every (Reached n σ) ρ → Reaches σ d m
    reaches (Not c) ρ n σ d m h r =
        then-inv d m (elaborate es c ρ n) _ h λ a k e h.
        give (Reaches σ) h (reaches c ρ n σ a k e r)
    reaches (And b c) ρ n σ d m h r =
        then-inv d m (elaborate es b ρ n) _ h λ a k e h.
        then-inv d m (elaborate es c ρ k) _ h λ a' k' e' h.
        give (Reaches σ) h (both σ a a' k k' (numbers-grow (numbered es c ρ k a' k' e')) (reaches b ρ n σ a k e r) (reaches c ρ k σ a' k' e' (later n k σ ρ (numbers-grow (numbered es b ρ n a k e)) r)))
    reaches (Or b c) ρ n σ d m h r =
        then-inv d m (elaborate es b ρ n) _ h λ a k e h.
        then-inv d m (elaborate es c ρ k) _ h λ a' k' e' h.
        give (Reaches σ) h (both σ a a' k k' (numbers-grow (numbered es c ρ k a' k' e')) (reaches b ρ n σ a k e r) (reaches c ρ k σ a' k' e' (later n k σ ρ (numbers-grow (numbered es b ρ n a k e)) r)))
    reaches (Compare o b c) ρ n σ d m h r =
        then-inv d m (elaborate_o es b ρ n) _ h λ a k e h.
        then-inv d m (elaborate_o es c ρ k) _ h λ a' k' e' h.
        give (Reaches σ) h (both_t σ (operator_of o) a a' k k' (numbers-grow (numbered_o es c ρ k a' k' e')) (reaches_o b ρ n σ a k e r) (reaches_o c ρ k σ a' k' e' (later n k σ ρ (numbers-grow (numbered_o es b ρ n a k e)) r)))
    reaches (Some x q c) ρ n σ d m h r =
        found-inv d m (relation_named es q) _ h λ p e₁ h.
        then-inv d m (elaborate es c (record { word = x; relation = p; variable = some (as_byte n) } ∷ ρ) (suc n)) _ h λ a k e h.
        give (Reaches σ) h λ l l' bs us.
        let g = numbers-grow (numbered es c (record { word = x; relation = p; variable = some (as_byte n) } ∷ ρ) (suc n) a k e) in
        let b = small g l in
        let fine = bs.0 in
        and_intro _ _ (known-binding (as_byte n) p (omega arith) fine.0)
        (reaches c (record { word = x; relation = p; variable = some (as_byte n) } ∷ ρ) (suc n) (update σ (as_byte n) (some p)) a k e
        (new-reached n p x b fine.1 σ, old-reached n p x b fine.1 σ ρ r) l l' bs.1 us)

    reaches_o : (a : Operand) (ρ : List Symbol) (n : ℕ) (σ : Scope) (t : Term) (m : ℕ) → elaborate_o es a ρ n ≡ ok t m → Every (Reached n σ) ρ → ReachesT σ t m
    reaches_o (Number k) ρ n σ t m h r = give (ReachesT σ) h λ l l' bs us. refl
    reaches_o (Value w) ρ n σ t m h r =
        found-inv t m (value_named es w) _ h λ b e h.
        give (ReachesT σ) h λ l l' bs us. refl
    reaches_o (Of u) ρ n σ t m h r = reaches_t u ρ n σ t m h r

    reaches_t : (u : Target) (ρ : List Symbol) (n : ℕ) (σ : Scope) (t : Term) (m : ℕ) → elaborate_t es u ρ n ≡ ok t m → Every (Reached n σ) ρ → ReachesT σ t m
    reaches_t (Attribute x a) ρ n σ t m h r =
        found-inv t m (symbol_in x ρ) _ h λ s e₁ h.
        found-inv t m s.variable _ h λ v e₂ h.
        found-inv t m (attribute_named es s.relation a) _ h λ i e₃ h.
        give (ReachesT σ) h λ l l' bs us. attribute-reaches σ v i s (symbol-has (Reached n σ) x ρ s e₁ r v e₂).1 us.0
    reaches_t (Aggregate f x a) ρ n σ t m h r =
        aggregate-reaches f x a ρ n σ _ t m (λ ρ n d m h. numbers-grow (give (InC es n) h no_number)) (λ ρ n σ d m h r. give (Reaches σ) h λ l l' bs us. refl) h
    reaches_t (AggregateIf f x a c) ρ n σ t m h r =
        aggregate-reaches f x a ρ n σ _ t m (λ ρ n d m h. numbers-grow (numbered es c ρ n d m h)) (λ ρ n σ d m h r. reaches c ρ n σ d m h r) h

  reaches_ts : (ts : List Target) (ρ : List Symbol) (n : ℕ) (σ : Scope) (zs : List Term) (m : ℕ) → elaborate_ts es ts ρ n ≡ ok zs m → Every (Reached n σ) ρ → ReachesTs σ zs m
  unfolding elaborate_ts concat_map all InT
  reaches_ts [] ρ n σ zs m h r = give (ReachesTs σ) h λ l l' bs us. refl
  reaches_ts (t ∷ ts) ρ n σ zs m h r =
      then-inv zs m (elaborate_t es t ρ n) _ h λ z k e h.
      then-inv zs m (elaborate_ts es ts ρ k) _ h λ ys k' e' h.
      give (ReachesTs σ) h λ l l' bs us.
      let i = every_append Fine (bindings_t z) (concat_map bindings_t ys) bs in
      let j = every_append Used (uses_t z) (concat_map uses_t ys) us in
      let g = numbers-grow (numbered_ts es ts ρ k ys k' e') in
      and_intro _ _ (reaches_t t ρ n σ z k e r (omega arith) (omega arith) i.0 j.0)
      (reaches_ts ts ρ k σ ys k' e' (later n k σ ρ (numbers-grow (numbered_t es t ρ n z k e)) r) l l' i.1 j.1)

  reaches_q : (c : Option Formula) (ρ : List Symbol) (n : ℕ) (σ : Scope) (d : Condition) (m : ℕ) → elaborate_q es c ρ n ≡ ok d m → Every (Reached n σ) ρ → Reaches σ d m
  unfolding elaborate_q in_scope
  reaches_q none ρ n σ d m h r = give (Reaches σ) h λ l l' bs us. refl
  reaches_q (some c) ρ n σ d m h r = reaches c ρ n σ d m h r

  -- the symbols of RANGE, by their records
  abbrev Ranged : ℕ → ℕ → Scope → Symbol → Type 0
  Ranged n k σ s = (v : ℕ) → s.variable ≡ some v → (n ≤ v) × ((v < k) × ((σ v ≡ some s.relation) × Every (Has (bind v s.relation)) us))

  ranges-reached : (ρ : List Symbol) (n k : ℕ) → k ≤ 256 → Numbers n k (variables (ranges_of es ρ)) → Every Fine (ranges_of es ρ) → Every (Ranged n k (range_scope (ranges_of es ρ))) ρ
  unfolding ranges_of concat_map Every range_scope
  ranges-reached [] n k l p bs = tt
  ranges-reached (s ∷ ρ) n k l p bs = go s.variable refl p bs (λ n p bs. ranges-reached ρ n k l p bs)
    where
      go : (o : Option ℕ) → s.variable ≡ o → Numbers n k (variables (range_of es s.relation o ++ ranges_of es ρ)) → Every Fine (range_of es s.relation o ++ ranges_of es ρ)
          → ((n : ℕ) → Numbers n k (variables (ranges_of es ρ)) → Every Fine (ranges_of es ρ) → Every (Ranged n k (range_scope (ranges_of es ρ))) ρ)
          → Every (Ranged n k (range_scope (range_of es s.relation o ++ ranges_of es ρ))) (s ∷ ρ)
      go none e p bs ih = (λ v f. never-some v (sym e ∙ f), ih n p bs)
      go (some w) e p bs ih =
          let i = numbers-inv p in
          let g = numbers-grow i.1 in
          let a = small g l in (
            λ v f.
                let z : v ≡ w = sym (same_some w v (sym e ∙ f)) in
                (omega (arith, i.0), (omega (arith, i.0), (rw (eq-eqb v w z), subst (λ (x : ℕ). Every (Has (bind x s.relation)) us) (sym z) bs.0.1))),
            every_map (Ranged (suc n) k (range_scope (ranges_of es ρ))) (Ranged n k (update (range_scope (ranges_of es ρ)) w (some s.relation)))
                (λ y f v x. let j = f v x in (omega (arith, j.0), (j.1.0, (rw (ne_eqb v w (λ z. omega (arith, j.0, z, i.0))) j.1.1.0, j.1.1.1)))) ρ (ih (suc n) i.1 bs.1),
          )

  known-ranges : (bs : List Binding) (n k : ℕ) → k ≤ 256 → k ≤ limit → Numbers n k (variables bs) → Every Fine bs → all (known_binding sh limit) bs ≡ true
  unfolding all Every
  known-ranges [] n k l l' p bs = refl
  known-ranges (b ∷ zs) n k l l' p bs =
      let i = numbers-inv p in
      let g = small (numbers-grow i.1) l in
      and_intro _ _ (known-binding b.variable b.relation (omega (arith, i.0, g, numbers-grow i.1)) bs.0.0) (known-ranges zs (suc n) k l l' i.1 bs.1)

-- the whole question
module _ (es : List Entry) (sh : Shape) (limit : ℕ) where
  abbrev ReachesQ : Query → ℕ → Type 0
  ReachesQ q n = n ≤ 256 → n ≤ limit → Known sh q → query_in_scope sh limit q ≡ true

  query-reaches : (t : Text) (q : Query) (n : ℕ) → elaborate_text es t ≡ ok q n → ReachesQ q n
  unfolding elaborate_text query_in_scope bindings_q uses_q InR InC
  query-reaches t q n h =
      need-inv q n (unique_words (symbols_of t)) _ h λ u h.
      then-inv q n (bind_ranges es (used_in t) (each t.ranges) 0) _ h λ ρ k e₁ h.
      then-inv q n (elaborate_ts es (each t.targets) ρ k) _ h λ ts k' e₂ h.
      then-inv q n (elaborate_q es t.qualification ρ k') _ h λ c k'' e₃ h.
      give ReachesQ h λ l l' known.
      let us = concat_map uses_t ts ++ uses c in
      let g₁ = numbers-grow (numbered_ts es (each t.targets) ρ k ts k' e₂) in
      let g₂ = numbers-grow (numbered_q es t.qualification ρ k' c k'' e₃) in
      let p = ranges-numbered es (used_in t) (each t.ranges) 0 ρ k e₁ in
      let fine = every-both (λ (b : Binding). b.relation < length sh) (λ (b : Binding). Every (Has es sh limit us b) us) (ranges_of es ρ ++ (concat_map bindings_t ts ++ bindings c)) known.relations known.attributes in
      let f₁ = every_append (Fine es sh limit us) (ranges_of es ρ) (concat_map bindings_t ts ++ bindings c) fine in
      let f₂ = every_append (Fine es sh limit us) (concat_map bindings_t ts) (bindings c) f₁.1 in
      let used = every_append (Used es sh limit us) (concat_map uses_t ts) (uses c) (every-self (Has es sh limit us) us) in
      let σ = range_scope (ranges_of es ρ) in
      let r = every_map (Ranged es sh limit us 0 k σ) (Reached es sh limit us k σ) (λ s f v e. (f v e).1) ρ (ranges-reached es sh limit us ρ 0 k (omega arith) p f₁.0) in
      and_intro _ _ (known-ranges es sh limit us (ranges_of es ρ) 0 k (omega arith) (omega arith) p f₁.0)
      (and_intro _ _ (reaches_ts es sh limit us (each t.targets) ρ k σ ts k' e₂ r (omega arith) (omega arith) f₂.0 used.0)
      (reaches_q es sh limit us t.qualification ρ k' σ c k'' e₃ (later es sh limit us k k' σ ρ g₁ r) l l' f₂.1 used.1))

elaborated-in-reach : (es : List Entry) (t : Text) (q : Query) (n : ℕ) → elaborate_text es t ≡ ok q n → InReach q n
unfolding bound_once fails32
elaborated-in-reach es t q n h = record {
  once = λ l. numbers-unique l (numbered_text es t q n h);
  known = λ sh l b k known. rw (query-reaches es sh l.bound t q n h k b known, numbers-unique k (numbered_text es t q n h));
}

pub in_reach : (ns : List ℕ) (t : Text) (q : Query) (n : ℕ) → resolve (names ns) t ≡ ok q n → InReach q n
in_reach ns t q n h = go (names ns) h
  where
    go : (g : Read (List ℕ) (List Entry)) → resolve g t ≡ ok q n → InReach q n
    go fail h = never q n h
    go (ok es r) h = elaborated-in-reach es t q n h
