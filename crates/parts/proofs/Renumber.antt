-- Numbers mended: what a text elaborates to, and the bytes of it.
use Prim.Native.Nat.{ℕ, zero, suc, ◌+◌, ◌-◌, ◌*◌, ◌%◌, ◌≤◌, ◌<◌}
use mathlib.Core.Bool.{Bool, true, false}
use mathlib.Core.List.{List, [], ◌∷◌, ◌++◌, map}
use mathlib.Core.Option.{Option, none, some}
use mathlib.Core.Path.{◌≡◌, refl, sym, ◌∙◌, ap, ap₂, subst}
use native.Mathlib.Nat.{mod-eq_of_lt}
use native.Mathlib.Omega.{arith}
use lib.Dec.{eqb}
use lib.ListN.{length}
use borrow.Author.Tests.{lt-ltb, le-ltb, eqb-true, eqb-false}
use Rattle.model.specs.Lists.{any, concat_map}
use Rattle.model.specs.Syntax.{Condition, Term, TRUE, FALSE, NOT, AND, OR, COMPARE, SOME, CONSTANT, ATTRIBUTE, AGGREGATE}
use Rattle.model.specs.Encoding.{encode, encode_t, encode_targets, encode_ranges, encode_query}
use Rattle.model.specs.Rewriting.{rename, rename_t}
use Rattle.model.proofs.Tests.{or_left, or_right, any_append, by-lt}
use Rattle.quel.specs.Results.{Read, ok, Word, each, same_word, has_word, unique_words}
use Rattle.quel.specs.Tree.{Formula, Operand, Target, Not, And, Or, Compare, Some, Number, Value, Of, Attribute, Aggregate, AggregateIf, Text}
use Rattle.quel.specs.Names.{Entry, names, relation_named, attribute_named, value_named}
use Rattle.quel.specs.Elaboration.{function_of, Symbol, symbol_in, head_only, inside, as_byte, aggregate, elaborate, elaborate_o, elaborate_t, elaborate_ts, elaborate_q, ranges_of, elaborate_text, used, used_o, used_t, used_in, symbols_of, of_qualification}
use Rattle.quel.specs.Demands.{Numbers, no_number, one_number}
use Rattle.quel.proofs.Results.{ok-value, ok-left, then-inv, found-inv}
use Rattle.quel.proofs.Numbering.{give, InC, InT, numbered, numbered_o, numbered_t, numbered_ts, numbered_q}
use Rattle.quel.specs.Tokens.{Function, Token, tokens}
use Rattle.quel.specs.Grammar.{IsText}
use Rattle.quel.specs.ReadText.{written, read_text}
use Rattle.quel.proofs.Complete.{complete}
use Rattle.parts.proofs.Held.{own-word}
use Rattle.parts.specs.Gives.{GivesTs, GivesQ}
use Rattle.buckets.proofs.Laws.{same_word_lem}
use Rattle.parts.specs.Ranges.{with_number, after, in_order, Ranged}
use Rattle.parts.specs.Ranges as R
use Rattle.parts.specs.Renumber.{bit_at, used_before, renumber, bound, bound_from, MarkedFrom, Renamed, Renames, Steady, body_of, mended, range_bytes, records_of, RelatedFrom}

-- the bytes
module _ (f : ℕ → ℕ) where
  mutual
    unfolding encode mended rename body_of

    pub mended-condition : (d : Condition) (r : List ℕ) → mended f [] (encode d r) ≡ encode (rename f d) (mended f [] r)
    mended-condition TRUE r = refl
    mended-condition FALSE r = refl
    mended-condition (NOT c) r = ap (λ (z : List ℕ). 18 ∷ z) (mended-condition c r)
    mended-condition (AND c d) r = ap (λ (z : List ℕ). 19 ∷ z) (mended-condition c (encode d r) ∙ ap (encode (rename f c)) (mended-condition d r))
    mended-condition (OR c d) r = ap (λ (z : List ℕ). 20 ∷ z) (mended-condition c (encode d r) ∙ ap (encode (rename f c)) (mended-condition d r))
    mended-condition (COMPARE o s t) r = ap (λ (z : List ℕ). 21 ∷ o ∷ z) (mended-term s (encode_t t r) ∙ ap (encode_t (rename_t f s)) (mended-term t r))
    mended-condition (SOME v q c) r = ap (λ (z : List ℕ). 22 ∷ f v ∷ q ∷ z) (mended-condition c r)

    pub mended-term : (t : Term) (r : List ℕ) → mended f [] (encode_t t r) ≡ encode_t (rename_t f t) (mended f [] r)
    mended-term (CONSTANT a b c d) r = refl
    mended-term (ATTRIBUTE v a) r = refl
    mended-term (AGGREGATE g v q a c) r = ap (λ (z : List ℕ). 34 ∷ g ∷ f v ∷ q ∷ a ∷ z) (mended-condition c r)

  pub mended-targets : (ts : List Term) (r : List ℕ) → mended f [] (encode_targets ts r) ≡ encode_targets (map (rename_t f) ts) (mended f [] r)
  unfolding encode_targets
  mended-targets [] r = refl
  mended-targets (t ∷ ts) r = mended-term t (encode_targets ts r) ∙ ap (encode_t (rename_t f t)) (mended-targets ts r)

  pub mended-length : (vs : List Bool) (bs : List ℕ) → length (mended f vs bs) ≡ length bs
  unfolding mended
  mended-length vs [] = refl
  mended-length [] (k ∷ bs) = ap suc (mended-length (body_of k) bs)
  mended-length (v ∷ vs) (b ∷ bs) = ap suc (mended-length vs bs)

  -- no number changes
  pub mended-same : ((v : ℕ) → f v ≡ v) → (vs : List Bool) (bs : List ℕ) → mended f vs bs ≡ bs
  unfolding mended
  mended-same h vs [] = refl
  mended-same h [] (k ∷ bs) = ap (λ (z : List ℕ). k ∷ z) (mended-same h (body_of k) bs)
  mended-same h (true ∷ vs) (b ∷ bs) = ap₂ (λ (a : ℕ) (z : List ℕ). a ∷ z) (h b) (mended-same h vs bs)
  mended-same h (false ∷ vs) (b ∷ bs) = ap (λ (z : List ℕ). b ∷ z) (mended-same h vs bs)

-- what is looked up in the symbols with other numbers
never-some : {A X : Type 0} (a : A) → none ≡ some a → X
never-some a h = let z : ◌≡◌ {A = ℕ} 0 1 = cc in absurd (omega arith)

head_of : Option Symbol → Option Symbol
head_of none = none
head_of (some s) = some (head_only s)

heads-in : (x : Word) (ρ : List Symbol) → symbol_in x (map head_only ρ) ≡ head_of (symbol_in x ρ)
unfolding symbol_in head_of
heads-in x [] = refl
heads-in x (s ∷ ρ) = go (same_word s.word x) (heads-in x ρ)
  where
    go : (b : Bool) → symbol_in x (map head_only ρ) ≡ head_of (symbol_in x ρ)
        → elim b as (λ _. Option Symbol) [ true ↦ some (head_only s) | false ↦ symbol_in x (map head_only ρ) ] ≡ head_of (elim b as (λ _. Option Symbol) [ true ↦ some s | false ↦ symbol_in x ρ ])
    go true h = refl
    go false h = h

symbol-here : (x : Word) (s : Symbol) (ρ : List Symbol) → same_word s.word x ≡ true → symbol_in x (s ∷ ρ) ≡ some s
unfolding symbol_in
symbol-here x s ρ e = rw (symbol_in, e)

symbol-later : (x : Word) (s : Symbol) (ρ : List Symbol) → same_word s.word x ≡ false → symbol_in x (s ∷ ρ) ≡ symbol_in x ρ
unfolding symbol_in
symbol-later x s ρ e = rw (symbol_in, e)

has_left : (x : Word) (us vs : List Word) → has_word x us ≡ true → has_word x (us ++ vs) ≡ true
unfolding has_word
has_left x us vs h = any_append (same_word x) us vs ∙ or_left (any (same_word x) us) (any (same_word x) vs) h

has_right : (x : Word) (us vs : List Word) → has_word x vs ≡ true → has_word x (us ++ vs) ≡ true
unfolding has_word
has_right x us vs h = any_append (same_word x) us vs ∙ or_right (any (same_word x) us) (any (same_word x) vs) h

module _ (f : ℕ → ℕ) where
  fewer : {us : List Word} {ρ ρ' : List Symbol} (vs : List Word) → ((x : Word) → has_word x vs ≡ true → has_word x us ≡ true) → Renames f us ρ ρ' → Renames f vs ρ ρ'
  fewer vs i r = record { of = λ x s h. let p = r.of x s h in record { symbol = p.symbol; found = p.found; word = p.word; relation = p.relation; number = λ u v e. p.number (i x u) v e } }

  pub first_part : {ρ ρ' : List Symbol} (us vs : List Word) → Renames f (us ++ vs) ρ ρ' → Renames f us ρ ρ'
  first_part us vs r = fewer us (λ x h. has_left x us vs h) r

  pub second-part : {ρ ρ' : List Symbol} (us vs : List Word) → Renames f (us ++ vs) ρ ρ' → Renames f vs ρ ρ'
  second-part us vs r = fewer vs (λ x h. has_right x us vs h) r

  -- one symbol more in front
  renames-cons : {us : List Word} {ρ ρ' : List Symbol} (s s' : Symbol) → s'.word ≡ s.word → s'.relation ≡ s.relation
      → ((x : Word) → same_word s.word x ≡ true → has_word x us ≡ true → (v : ℕ) → s.variable ≡ some v → s'.variable ≡ some (f v)) → Renames f us ρ ρ' → Renames f us (s ∷ ρ) (s' ∷ ρ')
  unfolding symbol_in
  renames-cons {us} {ρ} {ρ'} s s' ew er ev k = record { of = λ x y h. go x y (same_word s.word x) refl h }
    where
      go : (x : Word) (y : Symbol) (b : Bool) → same_word s.word x ≡ b → ◌≡◌ {A = Option Symbol} (elim b as (λ _. Option Symbol) [ true ↦ some s | false ↦ symbol_in x ρ ]) (some y) → Renamed f us (s' ∷ ρ') x y
      go x y true e h =
          let i : s ≡ y = cc in
          subst (Renamed f us (s' ∷ ρ') x) i (record { symbol = s'; found = symbol-here x s' ρ' (ap (λ (w : Word). same_word w x) ew ∙ e); word = ew; relation = er; number = λ u v e₁. ev x e u v e₁ })
      go x y false e h =
          let p = k.of x y h in
          record { symbol = p.symbol; found = symbol-later x s' ρ' (ap (λ (w : Word). same_word w x) ew ∙ e) ∙ p.found; word = p.word; relation = p.relation; number = p.number }

  heads : {vs : List Word} {ρ ρ' : List Symbol} (us : List Word) → Renames f vs ρ ρ' → Renames f us (map head_only ρ) (map head_only ρ')
  unfolding head_of
  heads {vs} {ρ} {ρ'} us k = record { of = λ x y h. go x y (symbol_in x ρ) refl (sym (heads-in x ρ) ∙ h) }
    where
      go : (x : Word) (y : Symbol) (o : Option Symbol) → symbol_in x ρ ≡ o → head_of o ≡ some y → Renamed f us (map head_only ρ') x y
      go x y none e h = never-some y h
      go x y (some s) e h =
          let p = k.of x s e in
          let i : head_only s ≡ y = cc in
          subst (Renamed f us (map head_only ρ') x) i (record { symbol = head_only p.symbol; found = heads-in x ρ' ∙ ap head_of p.found; word = p.word; relation = p.relation; number = λ u v e. never-some v e })

abbrev symbol_of : Word → ℕ → ℕ → Symbol
symbol_of x q v = record { word = x; relation = q; variable = some v }

alone : (x : Word) → has_word x (x ∷ []) ≡ true
unfolding has_word any
alone x = or_left (same_word x x) false (own-word x)

numbers-grow : {n m : ℕ} {vs : List ℕ} → Numbers n m vs → n ≤ m
numbers-grow no_number = omega arith
numbers-grow (one_number p) = omega (arith, numbers-grow p)

module _ (es : List Entry) where
  grow : (c : Formula) (ρ : List Symbol) (n : ℕ) (d : Condition) (m : ℕ) → elaborate es c ρ n ≡ ok d m → n ≤ m
  unfolding InC
  grow c ρ n d m h = numbers-grow (numbered es c ρ n d m h)

  grow_o : (a : Operand) (ρ : List Symbol) (n : ℕ) (t : Term) (m : ℕ) → elaborate_o es a ρ n ≡ ok t m → n ≤ m
  unfolding InT
  grow_o a ρ n t m h = numbers-grow (numbered_o es a ρ n t m h)

  grow_t : (u : Target) (ρ : List Symbol) (n : ℕ) (t : Term) (m : ℕ) → elaborate_t es u ρ n ≡ ok t m → n ≤ m
  unfolding InT
  grow_t u ρ n t m h = numbers-grow (numbered_t es u ρ n t m h)

  grow_ts : (us : List Target) (ρ : List Symbol) (n : ℕ) (ts : List Term) (m : ℕ) → elaborate_ts es us ρ n ≡ ok ts m → n ≤ m
  grow_ts us ρ n ts m h = numbers-grow (numbered_ts es us ρ n ts m h)

  grow_q : (q : Option Formula) (ρ : List Symbol) (n : ℕ) (d : Condition) (m : ℕ) → elaborate_q es q ρ n ≡ ok d m → n ≤ m
  grow_q q ρ n d m h = numbers-grow (numbered_q es q ρ n d m h)

  module _ (f : ℕ → ℕ) (k : ℕ) (w : Steady f k) where
    fresh : (n m : ℕ) → suc n ≤ m → m ≤ 256 → as_byte (f n) ≡ f (as_byte n)
    fresh n m h l =
        let e : n % 256 ≡ n = mod-eq_of_lt (omega arith) in
        let e' : f n % 256 ≡ f n = mod-eq_of_lt (omega (arith, w.low n)) in
        e' ∙ ap f (sym e)

    -- what is read with other numbers
    abbrev AlsoC : (List Symbol → ℕ → Read ℕ Condition) → List Word → Type 0
    AlsoC c us = (ρ ρ' : List Symbol) (n : ℕ) (d : Condition) (m : ℕ) → k ≤ n → m ≤ 256 → Renames f us ρ ρ' → c ρ n ≡ ok d m → c ρ' (f n) ≡ ok (rename f d) (f m)

    abbrev AlsoT : (List Symbol → ℕ → Read ℕ Term) → List Word → Type 0
    AlsoT c us = (ρ ρ' : List Symbol) (n : ℕ) (t : Term) (m : ℕ) → k ≤ n → m ≤ 256 → Renames f us ρ ρ' → c ρ n ≡ ok t m → c ρ' (f n) ≡ ok (rename_t f t) (f m)

    aggregate-renamed : (g : Function) (x a : Word) (us vs : List Word) (c : List Symbol → ℕ → Read ℕ Condition)
        → ((ρ : List Symbol) (n : ℕ) (d : Condition) (m : ℕ) → c ρ n ≡ ok d m → n ≤ m) → AlsoC c us → AlsoT (λ ρ n. aggregate es g x a ρ n c) vs
    unfolding aggregate rename
    aggregate-renamed g x a us vs c up ih ρ ρ' n t m l b r h =
        found-inv t m (symbol_in x ρ) _ h λ s e₁ h.
        found-inv t m (attribute_named es s.relation a) _ h λ i e₂ h.
        then-inv t m (c (inside s (as_byte n) ρ) (suc n)) _ h λ d j e₃ h.
        let p = r.of x s e₁ in
        let q = up (inside s (as_byte n) ρ) (suc n) d j e₃ in
        let z : j ≡ m = ok-left h in
        let y = fresh n j q (omega arith) in
        go s i d j e₂ h p y
        (ih (inside s (as_byte n) ρ) (inside p.symbol (as_byte (f n)) ρ') (suc n) d j (omega arith) (omega arith)
        (renames-cons f _ _ p.word p.relation (λ x' g u' v e. let o : as_byte n ≡ v = cc in ap some (y ∙ ap f o)) (heads f us r)) e₃)
      where
        go : (s : Symbol) (i : ℕ) (d : Condition) (j : ℕ) → attribute_named es s.relation a ≡ some i → ok (AGGREGATE (function_of g) (as_byte n) s.relation i d) j ≡ ok t m → (p : Renamed f vs ρ' x s)
            → as_byte (f n) ≡ f (as_byte n) → c (inside p.symbol (as_byte (f n)) ρ') (f (suc n)) ≡ ok (rename f d) (f j) → aggregate es g x a ρ' (f n) c ≡ ok (rename_t f t) (f m)
        go s i d j e₂ h p y e =
            let e₃ : attribute_named es p.symbol.relation a ≡ some i = ap (λ (q : ℕ). attribute_named es q a) p.relation ∙ e₂ in
            rw (p.found, e₃, sym (w.next n l), e, y, p.relation)
            (ap₂ (λ (t : Term) (m : ℕ). ok (rename_t f t) (f m)) (ok-value h) (ok-left h))

    mutual
      unfolding elaborate rename used

      pub elaborate-renamed : (c : Formula) → AlsoC (λ ρ n. elaborate es c ρ n) (used c)
      elaborate-renamed (Not c) ρ ρ' n d m l b r h =
          then-inv d m (elaborate es c ρ n) _ h λ a j e h.
          give (λ (d : Condition) (m : ℕ). elaborate es (Not c) ρ' (f n) ≡ ok (rename f d) (f m)) h
          (rw (elaborate-renamed c ρ ρ' n a j l (omega (arith, ok-left h, b)) r e))
      elaborate-renamed (And c₁ c₂) ρ ρ' n d m l b r h =
          then-inv d m (elaborate es c₁ ρ n) _ h λ a j e h.
          then-inv d m (elaborate es c₂ ρ j) _ h λ a' j' e' h.
          let g = grow c₁ ρ n a j e in let g' = grow c₂ ρ j a' j' e' in
          give (λ (d : Condition) (m : ℕ). elaborate es (And c₁ c₂) ρ' (f n) ≡ ok (rename f d) (f m)) h
          (rw (
            elaborate-renamed c₁ ρ ρ' n a j l (omega (arith, ok-left h, b, g')) (first_part f (used c₁) (used c₂) r) e,
            elaborate-renamed c₂ ρ ρ' j a' j' (omega (arith, l, g)) (omega (arith, ok-left h, b)) (second-part f (used c₁) (used c₂) r) e',
          ))
      elaborate-renamed (Or c₁ c₂) ρ ρ' n d m l b r h =
          then-inv d m (elaborate es c₁ ρ n) _ h λ a j e h.
          then-inv d m (elaborate es c₂ ρ j) _ h λ a' j' e' h.
          let g = grow c₁ ρ n a j e in let g' = grow c₂ ρ j a' j' e' in
          give (λ (d : Condition) (m : ℕ). elaborate es (Or c₁ c₂) ρ' (f n) ≡ ok (rename f d) (f m)) h
          (rw (
            elaborate-renamed c₁ ρ ρ' n a j l (omega (arith, ok-left h, b, g')) (first_part f (used c₁) (used c₂) r) e,
            elaborate-renamed c₂ ρ ρ' j a' j' (omega (arith, l, g)) (omega (arith, ok-left h, b)) (second-part f (used c₁) (used c₂) r) e',
          ))
      elaborate-renamed (Compare o c₁ c₂) ρ ρ' n d m l b r h =
          then-inv d m (elaborate_o es c₁ ρ n) _ h λ a j e h.
          then-inv d m (elaborate_o es c₂ ρ j) _ h λ a' j' e' h.
          let g = grow_o c₁ ρ n a j e in let g' = grow_o c₂ ρ j a' j' e' in
          give (λ (d : Condition) (m : ℕ). elaborate es (Compare o c₁ c₂) ρ' (f n) ≡ ok (rename f d) (f m)) h
          (rw (
            operand-renamed c₁ ρ ρ' n a j l (omega (arith, ok-left h, b, g')) (first_part f (used_o c₁) (used_o c₂) r) e,
            operand-renamed c₂ ρ ρ' j a' j' (omega (arith, l, g)) (omega (arith, ok-left h, b)) (second-part f (used_o c₁) (used_o c₂) r) e',
          ))
      elaborate-renamed (Some x q c) ρ ρ' n d m l b r h =
          found-inv d m (relation_named es q) _ h λ y e₁ h.
          then-inv d m (elaborate es c (symbol_of x y (as_byte n) ∷ ρ) (suc n)) _ h λ a j e h.
          let u = fresh n j (grow c (symbol_of x y (as_byte n) ∷ ρ) (suc n) a j e) (omega (arith, ok-left h, b)) in
          give (λ (d : Condition) (m : ℕ). elaborate es (Some x q c) ρ' (f n) ≡ ok (rename f d) (f m)) h
          (let ih = elaborate-renamed c (symbol_of x y (as_byte n) ∷ ρ) (symbol_of x y (as_byte (f n)) ∷ ρ') (suc n) a j (omega (arith, l)) (omega (arith, ok-left h, b))
          (renames-cons f (symbol_of x y (as_byte n)) (symbol_of x y (as_byte (f n))) refl refl (λ x' g u' v e. let o : as_byte n ≡ v = cc in ap some (u ∙ ap f o)) r) e in
          rw (e₁, sym (w.next n l), ih, u))

      pub operand-renamed : (a : Operand) → AlsoT (λ ρ n. elaborate_o es a ρ n) (used_o a)
      operand-renamed (Number i) ρ ρ' n t m l b r h = give (λ (t : Term) (m : ℕ). elaborate_o es (Number i) ρ' (f n) ≡ ok (rename_t f t) (f m)) h refl
      operand-renamed (Value x) ρ ρ' n t m l b r h =
          found-inv t m (value_named es x) _ h λ y e h.
          give (λ (t : Term) (m : ℕ). elaborate_o es (Value x) ρ' (f n) ≡ ok (rename_t f t) (f m)) h (rw e)
      operand-renamed (Of u) ρ ρ' n t m l b r h = target-renamed u ρ ρ' n t m l b r h

      pub target-renamed : (u : Target) → AlsoT (λ ρ n. elaborate_t es u ρ n) (used_t u)
      target-renamed (Attribute x a) ρ ρ' n t m l b r h =
          found-inv t m (symbol_in x ρ) _ h λ s e₁ h.
          found-inv t m s.variable _ h λ v e₂ h.
          found-inv t m (attribute_named es s.relation a) _ h λ i e₃ h.
          let p = r.of x s e₁ in
          let e₄ : attribute_named es p.symbol.relation a ≡ some i = ap (λ (q : ℕ). attribute_named es q a) p.relation ∙ e₃ in
          give (λ (t : Term) (m : ℕ). elaborate_t es (Attribute x a) ρ' (f n) ≡ ok (rename_t f t) (f m)) h
          (rw (p.found, p.number (alone x) v e₂, e₄))
      target-renamed (Aggregate g x a) ρ ρ' n t m l b r h =
          aggregate-renamed g x a [] [] (λ ρ m. ok TRUE m) (λ ρ n d m h. omega (arith, ok-left h))
          (λ ρ ρ' n d m l b r h. give (λ (d : Condition) (m : ℕ). ok TRUE (f n) ≡ ok (rename f d) (f m)) h refl) ρ ρ' n t m l b r h
      target-renamed (AggregateIf g x a c) ρ ρ' n t m l b r h =
          aggregate-renamed g x a (used c) [] (λ ρ m. elaborate es c ρ m) (λ ρ n d m h. grow c ρ n d m h)
          (λ ρ ρ' n d m l b r h. elaborate-renamed c ρ ρ' n d m l b r h) ρ ρ' n t m l b r h

    pub targets-renamed : (us : List Target) (ρ ρ' : List Symbol) (n : ℕ) (ts : List Term) (m : ℕ) → k ≤ n → m ≤ 256 → Renames f (concat_map used_t us) ρ ρ'
        → elaborate_ts es us ρ n ≡ ok ts m → elaborate_ts es us ρ' (f n) ≡ ok (map (rename_t f) ts) (f m)
    unfolding elaborate_ts concat_map
    targets-renamed [] ρ ρ' n ts m l b r h = give (λ (ts : List Term) (m : ℕ). elaborate_ts es [] ρ' (f n) ≡ ok (map (rename_t f) ts) (f m)) h refl
    targets-renamed (u ∷ us) ρ ρ' n ts m l b r h =
        then-inv ts m (elaborate_t es u ρ n) _ h λ t j e h.
        then-inv ts m (elaborate_ts es us ρ j) _ h λ zs j' e' h.
        let g = grow_t u ρ n t j e in let g' = grow_ts us ρ j zs j' e' in
        give (λ (ts : List Term) (m : ℕ). elaborate_ts es (u ∷ us) ρ' (f n) ≡ ok (map (rename_t f) ts) (f m)) h
        (rw (
          target-renamed u ρ ρ' n t j l (omega (arith, ok-left h, b, g')) (first_part f (used_t u) (concat_map used_t us) r) e,
          targets-renamed us ρ ρ' j zs j' (omega (arith, l, g)) (omega (arith, ok-left h, b)) (second-part f (used_t u) (concat_map used_t us) r) e',
        ))

    pub qualification-renamed : (q : Option Formula) (ρ ρ' : List Symbol) (n : ℕ) (d : Condition) (m : ℕ) → k ≤ n → m ≤ 256 → Renames f (of_qualification used q) ρ ρ'
        → elaborate_q es q ρ n ≡ ok d m → elaborate_q es q ρ' (f n) ≡ ok (rename f d) (f m)
    unfolding elaborate_q rename
    qualification-renamed none ρ ρ' n d m l b r h = give (λ (d : Condition) (m : ℕ). elaborate_q es none ρ' (f n) ≡ ok (rename f d) (f m)) h refl
    qualification-renamed (some c) ρ ρ' n d m l b r h = elaborate-renamed c ρ ρ' n d m l b r h

-- RANGE's symbols
module _ (S : List ℕ) where
  pub used_low : (i : ℕ) → used_before S i ≤ i
  unfolding used_before
  used_low zero = omega arith
  used_low (suc i) = omega (arith, used_low i)

  pub renumber-bound : (n v : ℕ) → v < n → renumber S n v ≡ used_before S v
  unfolding renumber
  renumber-bound n v h = rw (lt-ltb v n h)

  pub renumber-later : (n v : ℕ) → n ≤ v → renumber S n v ≡ v - (n - used_before S n)
  unfolding renumber
  renumber-later n v h = rw (le-ltb v n h)

  pub steady : (n : ℕ) → Steady (renumber S n) n
  steady n = record {
    next = λ j h. renumber-later n (suc j) (omega arith) ∙ (let z : suc j - (n - used_before S n) ≡ suc (j - (n - used_before S n)) = omega (arith, used_low n) in z) ∙ sym (ap suc (renumber-later n j h));
    low = λ j. by-lt j n (λ h. omega (arith, renumber-bound n j h, used_low j)) (λ h. omega (arith, renumber-later n j h));
  }

  -- where all are used, each keeps its number
  used-above : (n i : ℕ) → used_before S (i + n) ≤ used_before S i + n
  unfolding used_before
  used-above zero i = let z = ap (used_before S) (let y : i + 0 ≡ i = omega arith in y) in omega (arith, z)
  used-above (suc n) i = let z = ap (used_before S) (let y : i + suc n ≡ suc (i + n) = omega arith in y) in omega (arith, z, used-above n i)

  pub renumber-same : (n : ℕ) → 0 ≡ n - used_before S n → (v : ℕ) → renumber S n v ≡ v
  renumber-same n h v = by-lt v n
      (λ l. let z = ap (used_before S) (let y : v + (n - v) ≡ n = omega arith in y) in omega (arith, renumber-bound n v l, used_low v, used_low n, used-above (n - v) v, z))
      (λ l. omega (arith, renumber-later n v l))

  -- the RANGE records
  pub ranges-encoded : (es : List Entry) (i : ℕ) (ρ : List Symbol) (bs : List ℕ) → RelatedFrom S i ρ → range_bytes (used_before S) S i (length ρ) ++ bs ≡ encode_ranges (ranges_of es (bound_from S i ρ)) bs
  unfolding range_bytes RelatedFrom bound_from ranges_of encode_ranges concat_map
  ranges-encoded es i [] bs h = refl
  ranges-encoded es i (s ∷ ρ) bs h = go (eqb (bit_at S i) 1) refl (ranges-encoded es (suc i) ρ bs h.1)
    where
      go : (b : Bool) → eqb (bit_at S i) 1 ≡ b → range_bytes (used_before S) S (suc i) (length ρ) ++ bs ≡ encode_ranges (ranges_of es (bound_from S (suc i) ρ)) bs
          → range_bytes (used_before S) S i (suc (length ρ)) ++ bs ≡ encode_ranges (ranges_of es (bound_from S i (s ∷ ρ))) bs
      go true e ih = rw (range_bytes, e, h.0) (ap (λ (z : List ℕ). 1 ∷ used_before S i ∷ s.relation ∷ z) ih)
      go false e ih = rw (range_bytes, e) ih

  -- so many bytes as there are used symbols, three times
  pub ranges-length : (number : ℕ → ℕ) (i k : ℕ) → 3 * used_before S i + length (range_bytes number S i k) ≡ 3 * used_before S (i + k)
  unfolding range_bytes used_before
  ranges-length number i zero = let z = ap (used_before S) (let y : i + 0 ≡ i = omega arith in y) in omega (arith, z)
  ranges-length number i (suc k) = go (eqb (bit_at S i) 1) refl (ranges-length number (suc i) k)
    where
      same : used_before S (i + suc k) ≡ used_before S (suc i + k)
      same = ap (used_before S) (let y : i + suc k ≡ suc i + k = omega arith in y)

      go : (b : Bool) → eqb (bit_at S i) 1 ≡ b → 3 * used_before S (suc i) + length (range_bytes number S (suc i) k) ≡ 3 * used_before S (suc i + k)
          → 3 * used_before S i + length (range_bytes number S i (suc k)) ≡ 3 * used_before S (i + suc k)
      go true e ih = rw (range_bytes, e) (let o = eqb-true (bit_at S i) 1 e in omega (arith, o, ih, same))
      go false e ih = rw (range_bytes, e) (let o = eqb-false (bit_at S i) 1 e in omega (arith, o, ih, same))

  -- a symbol's number is that of what is used before it
  renames : (us : List Word) (n i : ℕ) (ss : List Symbol) → i + length ss ≤ n → MarkedFrom S us i ss → Renames (renumber S n) us (in_order i ss) (bound_from S i ss)
  unfolding MarkedFrom in_order bound_from symbol_in
  renames us n i [] l m = record { of = λ x s h. never-some s h }
  renames us n i (s ∷ ss) l m =
      renames-cons (renumber S n) (with_number s i) (bound S i s) refl refl
      (λ x e u v h.
      let z : eqb (bit_at S i) 1 ≡ true = sym m.0 ∙ ap (λ (y : Word). has_word y us) (same_word_lem s.word x e) ∙ u in
      let o : i ≡ v = cc in
      rw z (ap some (sym (renumber-bound n i (omega arith)) ∙ ap (renumber S n) o)))
      (renames us n (suc i) ss (omega arith) m.1)

  -- the symbols as RANGE binds them
  bound-numbered : (us : List Word) (i : ℕ) (ss : List Symbol) → i + length ss ≤ 256 → MarkedFrom S us i ss
      → (R.numbered us (used_before S i) ss ≡ bound_from S i ss) × (after us (used_before S i) ss ≡ used_before S (i + length ss))
  unfolding R.numbered after bound_from MarkedFrom used_before
  bound-numbered us i [] l m = (refl, ap (used_before S) (let z : i ≡ i + 0 = omega arith in z))
  bound-numbered us i (s ∷ ss) l m = go (eqb (bit_at S i) 1) refl (bound-numbered us (suc i) ss (omega arith) m.1)
    where
      same : used_before S (suc i + length ss) ≡ used_before S (i + suc (length ss))
      same = ap (used_before S) (let z : suc i + length ss ≡ i + suc (length ss) = omega arith in z)

      go : (b : Bool) → eqb (bit_at S i) 1 ≡ b
          → (R.numbered us (used_before S (suc i)) ss ≡ bound_from S (suc i) ss) × (after us (used_before S (suc i)) ss ≡ used_before S (suc i + length ss))
          → (R.numbered us (used_before S i) (s ∷ ss) ≡ bound_from S i (s ∷ ss)) × (after us (used_before S i) (s ∷ ss) ≡ used_before S (i + suc (length ss)))
      go true e ih =
          let o = eqb-true (bit_at S i) 1 e in
          let z : suc (used_before S i) ≡ used_before S (suc i) = omega (arith, o) in
          let b : as_byte (used_before S i) ≡ used_before S i = mod-eq_of_lt (omega (arith, used_low i, l)) in
          (rw (R.numbered, m.0, e, z, b) (ap (λ (l : List Symbol). with_number s (used_before S i) ∷ l) ih.0), rw (after, m.0, e, z) (ih.1 ∙ same))
      go false e ih =
          let o = eqb-false (bit_at S i) 1 e in
          let z : used_before S (suc i) ≡ used_before S i = omega (arith, o) in (
            rw (R.numbered, m.0, e) (ap (λ (l : List Symbol). head_only s ∷ l) (ap (λ (n : ℕ). R.numbered us n ss) (sym z) ∙ ih.0)),
            rw (after, m.0, e) (ap (λ (n : ℕ). after us n ss) (sym z) ∙ ih.1 ∙ same),
          )

-- a text whose RANGE symbols ss were numbered as if each were used
module _ (es : List Entry) (S : List ℕ) (t : Text) (ss : List Symbol) (o : unique_words (symbols_of t) ≡ true) (r : Ranged es (each t.ranges) ss) (k : MarkedFrom S (used_in t) 0 ss) where
  abbrev new : ℕ → ℕ
  new v = renumber S (length ss) v

  abbrev ρ : List Symbol
  ρ = in_order 0 ss

  pub text-renamed : (ts : List Term) (j : ℕ) (d : Condition) (m : ℕ) → elaborate_ts es (each t.targets) ρ (length ss) ≡ ok ts j → elaborate_q es t.qualification ρ j ≡ ok d m → m ≤ 256
      → elaborate_text es t ≡ ok (record { ranges = ranges_of es (bound_from S 0 ss); targets = map (rename_t new) ts; condition = rename new d }) (new m)
  unfolding elaborate_text used_before used_in
  text-renamed ts j d m e₁ e₂ b =
      let n = length ss in
      let us : List Word = used_in t in
      let g = grow_ts es (each t.targets) ρ n ts j e₁ in
      let g' = grow_q es t.qualification ρ j d m e₂ in
      let z = renames S us n 0 ss (omega arith) k in
      let y = bound-numbered S us 0 ss (omega arith) k in
      let p : after us 0 ss ≡ new n = y.1 ∙ ap (used_before S) (let x : 0 + n ≡ n = omega arith in x) ∙ (let x : used_before S n ≡ n - (n - used_before S n) = omega (arith, used_low S n) in x) ∙ sym (renumber-later S n n (omega arith)) in
      rw (
        o,
        r.binds us 0,
        y.0,
        p,
        targets-renamed es new n (steady S n) (each t.targets) ρ (bound_from S 0 ss) n ts j (omega arith) (omega arith)
            (first_part new (concat_map used_t (each t.targets)) (of_qualification used t.qualification) z) e₁,
        qualification-renamed es new n (steady S n) t.qualification ρ (bound_from S 0 ss) j d m g b
            (second-part new (concat_map used_t (each t.targets)) (of_qualification used t.qualification) z) e₂,
      )

  -- what was read from the left, with the numbers mended, is what the definition gives
  pub answered : (list text out x y : List ℕ) (ts : List Token) (j m : ℕ) → tokens text ≡ ok ts [] → IsText ts t → names list ≡ ok es [] → RelatedFrom S 0 ss
      → GivesTs es ρ (length ss) (each t.targets) j x → GivesQ es ρ j t.qualification m y → m ≤ 256
      → read_text list text out ≡ written (records_of S (length ss) (x ++ y)) out
  unfolding read_text encode_query mended records_of
  answered list text out x y ts j m a i l u g q b =
      rw (a, complete i, l, text-renamed g.values j q.value m g.says q.says b)
      (ap (λ (z : List ℕ). written z out)
      (ap (encode_ranges (ranges_of es (bound_from S 0 ss)))
      (ap (encode_targets (map (rename_t new) g.values)) (sym (mended-condition new q.value []))
      ∙ sym (mended-targets new g.values (encode q.value []))
      ∙ ap (mended new []) (g.bytes (encode q.value []) ∙ ap (λ (z : List ℕ). x ++ z) q.bytes))
      ∙ sym (ranges-encoded S es 0 ss (mended new [] (x ++ y)) u)))
