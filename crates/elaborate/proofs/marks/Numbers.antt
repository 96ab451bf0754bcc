-- Names numbered place by place, and marks by their numbers.
use Prim.Native.Nat.{ℕ, ◌+◌, ◌≤◌, ◌<◌}
use mathlib.Core.Bool.{Bool, true, false, not, ◌||◌}
use mathlib.Core.List.{List, [], ◌∷◌}
use mathlib.Core.Logic.{◌⊎◌, inl, inr}
use mathlib.Core.Path.{◌≡◌, refl, sym, ap, ap₂, ◌∙◌, subst}
use native.Mathlib.Omega.{arith}
use lib.Dec.{eqb, leb}
use lib.ListN.{length, get_or, set}
use lib.Seq.{get_or-set_same, get_or-set_other}
use borrow.Author.Tests.{eqb-true, eqb-false, eq-eqb, ne_eqb, leb-true, leb-false}
use Rattle.model.specs.Lists.{any, Every}
use Rattle.model.proofs.Tests.{clash}
use Rattle.quel.specs.Results.{Word, same_word}
use Rattle.tokens.specs.Codes.{Spelt, Coded}
use Rattle.tokens.specs.Table.{Table}
use Rattle.tokens.specs.Spans.{capped}
use Rattle.tokens.specs.Kinds.{code_of}
use Rattle.tokens.proofs.Codes.{spelt-same, spelt-code}
use Rattle.buckets.specs.Chains.{bucket_of, Held}
use Rattle.buckets.proofs.Laws.{same_word_lem, every_map, held-put, held_up, held_none}
use Rattle.elaborate.specs.Numbers.{Numbered, Numbering, Earlier, marked}
use Rattle.elaborate.proofs.marks.Walks.{here, here-is, same_word-length, name-past, name-other}

same_self : (v : Word) → same_word v v ≡ true
unfolding same_word
same_self [] = refl
same_self (x ∷ v) = rw (eq-eqb x x refl, same_self v)

no-letters : (v : Word) → length v ≡ 0 → v ≡ []
no-letters [] e = refl
no-letters (x ∷ v) e = absurd (omega arith)

or-true : (b : Bool) → (b || true) ≡ true
or-true true = refl
or-true false = refl

-- a place with letters has a name, and its code
pub spelt-at : (text : List ℕ) (t : Table) → Coded text t (length t.kinds) → (x : ℕ) → 1 ≤ length (here text t x) → (x < length t.kinds) × Spelt (here text t x) (get_or t.numbers x 0)
spelt-at text t c x s = go (leb (length t.kinds) x) (eqb (get_or t.kinds x 0) 0) refl refl
  where
    go : (a b : Bool) → leb (length t.kinds) x ≡ a → eqb (get_or t.kinds x 0) 0 ≡ b → (x < length t.kinds) × Spelt (here text t x) (get_or t.numbers x 0)
    go true b e g = absurd (omega (arith, ap length (name-past text t.kinds t.starts x (leb-true (length t.kinds) x e)), s))
    go false true e g =
        let l = leb-false (length t.kinds) x e in
        let z = eqb-true (get_or t.kinds x 0) 0 g in
        (l, subst (λ (v : Word). Spelt v (get_or t.numbers x 0)) (sym (here-is text t x l z)) (c.spelt x l z).0)
    go false false e g = absurd (omega (arith, ap length (name-other text t.kinds t.starts x (eqb-false (get_or t.kinds x 0) 0 g)), s))

-- the name at a token of kind 0
module _ (text : List ℕ) (t : Table) (c : Coded text t (length t.kinds)) (i : ℕ) (l : i < length t.kinds) (z : get_or t.kinds i 0 ≡ 0) where
  pub named-spelt : Spelt (here text t i) (get_or t.numbers i 0)
  named-spelt = subst (λ (v : Word). Spelt v (get_or t.numbers i 0)) (sym (here-is text t i l z)) (c.spelt i l z).0

  pub named_some : 1 ≤ length (here text t i)
  named_some = omega (arith, ap length (here-is text t i l z), (c.spelt i l z).1)

  pub named-code : get_or t.numbers i 0 ≡ capped (code_of (here text t i))
  named-code = named-spelt.code

-- two names by their codes
module _ (v u : Word) (a b : ℕ) (s : Spelt v a) (t : Spelt u b) where
  pub names-differ : (a ≡ b → ⊥) → false ≡ same_word v u
  names-differ h = go (same_word v u) refl
    where
      go : (x : Bool) → same_word v u ≡ x → false ≡ x
      go true e = absurd (h (spelt-code v u a b s t (same_word_lem v u e)))
      go false e = refl

  pub names_same : a ≡ b → a < 288230376151711744 → true ≡ same_word v u
  names_same e l = sym (ap (λ (z : Word). same_word z u) (spelt-same v u a b s t e l) ∙ same_self u)

module _ (w : ℕ → Word) where
  pub number-start : (heads nexts ids : List ℕ) → ((h : ℕ) → get_or heads h 0 ≡ 0) → ((h : ℕ) → get_or ids h 0 ≡ 0) → Numbering w 0 heads nexts ids
  unfolding Every
  number-start heads nexts ids z o = record {
    places = [];
    held = held_none (λ (x : ℕ). x) _ heads nexts 0 z;
    named = tt;
    all = λ y l s. absurd (omega arith);
    some = λ y l s. absurd (omega arith);
    none = λ y e. o y;
    later = λ y l. o y;
    same = λ x y l. absurd (omega arith);
    back = λ x y l. absurd (omega arith);
    most = λ y. omega (arith, o y);
  }

  module _ (i : ℕ) (heads nexts ids : List ℕ) (f : Numbering w i heads nexts ids) where
    -- a token that is no name
    pub number-other : length (w i) ≡ 0 → Numbering w (i + 1) heads nexts ids
    number-other e = record {
      places = f.places;
      held = held_up (λ (x : ℕ). x) _ heads nexts f.places i (i + 1) (omega arith) (omega arith) f.held;
      named = every_map f.places (λ x p. (omega (arith, p.0), p.1)) f.named;
      all = λ y l s. f.all y (below y l s) s;
      some = λ y l s. f.some y (below y l s) s;
      none = f.none;
      later = λ y l. f.later y (omega arith);
      same = λ x y l m s q. f.same x y (below x l s) (below y m (omega (arith, ap length q, s))) s q;
      back = λ x y l m s t q. f.back x y (below x l s) (below y m t) s t q;
      most = λ y. omega (arith, f.most y);
    }
      where
        below : (y : ℕ) → y < i + 1 → 1 ≤ length (w y) → y < i
        below y l s = go (leb i y) refl
          where
            go : (b : Bool) → leb i y ≡ b → y < i
            go true g = let q : y ≡ i = omega (arith, leb-true i y g) in absurd (omega (arith, e, s, ap (λ (z : ℕ). length (w z)) q))
            go false g = leb-false i y g

    -- a name with the number r
    module _ (r : ℕ) (s : 1 ≤ length (w i)) (room : i < length ids) (low : 1 ≤ r) (high : r ≤ i + 1)
        (to : (y : ℕ) → y < i → 1 ≤ length (w y) → w y ≡ w i → get_or ids y 0 ≡ r) (from : (y : ℕ) → y < i → 1 ≤ length (w y) → get_or ids y 0 ≡ r → w y ≡ w i) where
      abbrev new : List ℕ
      new = set ids i r

      at_i : get_or new i 0 ≡ r
      at_i = get_or-set_same ids i r 0 room

      at_other : (y : ℕ) → (y ≡ i → ⊥) → get_or new y 0 ≡ get_or ids y 0
      at_other y h = get_or-set_other ids i y r 0 h

      split : (y : ℕ) → y < i + 1 → (y ≡ i) ⊎ (y < i)
      split y l = go (leb i y) refl
        where
          go : (b : Bool) → leb i y ≡ b → (y ≡ i) ⊎ (y < i)
          go true g = inl (omega (arith, leb-true i y g))
          go false g = inr (leb-false i y g)

      at_old : (y : ℕ) → y < i → get_or new y 0 ≡ get_or ids y 0
      at_old y h = at_other y (λ e. omega arith)

      at_here : (y : ℕ) → y ≡ i → get_or new y 0 ≡ r
      at_here y e = ap (λ (z : ℕ). get_or new z 0) e ∙ at_i

      new-same : (x y : ℕ) → (x ≡ i) ⊎ (x < i) → (y ≡ i) ⊎ (y < i) → 1 ≤ length (w x) → w x ≡ w y → get_or new x 0 ≡ get_or new y 0
      new-same x y (inl e) (inl g) n q = at_here x e ∙ sym (at_here y g)
      new-same x y (inl e) (inr h) n q = at_here x e ∙ sym (at_old y h ∙ to y h (omega (arith, ap length q, n)) (sym q ∙ ap w e))
      new-same x y (inr h) (inl g) n q = at_old x h ∙ to x h n (q ∙ ap w g) ∙ sym (at_here y g)
      new-same x y (inr h) (inr k) n q = at_old x h ∙ f.same x y h k n q ∙ sym (at_old y k)

      new-back : (x y : ℕ) → (x ≡ i) ⊎ (x < i) → (y ≡ i) ⊎ (y < i) → 1 ≤ length (w x) → 1 ≤ length (w y) → get_or new x 0 ≡ get_or new y 0 → w x ≡ w y
      new-back x y (inl e) (inl g) n m q = ap w (e ∙ sym g)
      new-back x y (inl e) (inr h) n m q = ap w e ∙ sym (from y h m (sym (at_old y h) ∙ sym q ∙ at_here x e))
      new-back x y (inr h) (inl g) n m q = from x h n (sym (at_old x h) ∙ q ∙ at_here y g) ∙ sym (ap w g)
      new-back x y (inr h) (inr k) n m q = f.back x y h k n m (sym (at_old x h) ∙ q ∙ at_old y k)

      new-some : (y : ℕ) → (y ≡ i) ⊎ (y < i) → 1 ≤ length (w y) → 1 ≤ get_or new y 0
      new-some y (inl e) n = omega (arith, at_here y e)
      new-some y (inr h) n = omega (arith, at_old y h, f.some y h n)

      new-most : (y : ℕ) (b : Bool) → eqb y i ≡ b → get_or new y 0 ≤ i + 1
      new-most y true e = omega (arith, at_here y (eqb-true y i e))
      new-most y false e = omega (arith, at_other y (eqb-false y i e), f.most y)

      numbered : (heads' nexts' xs : List ℕ) → Held (λ (x : ℕ). bucket_of (w x)) (λ (x : ℕ). x) (i + 1) heads' nexts' xs → Every (λ (x : ℕ). (x < i + 1) × (1 ≤ length (w x))) xs
          → ((y : ℕ) → (y ≡ i) ⊎ (y < i) → 1 ≤ length (w y) → any (λ (x : ℕ). same_word (w x) (w y)) xs ≡ true) → Numbering w (i + 1) heads' nexts' new
      numbered heads' nexts' xs h n a = record {
        places = xs;
        held = h;
        named = n;
        all = λ y l m. a y (split y l) m;
        some = λ y l m. new-some y (split y l) m;
        none = λ y e. at_other y (λ q. omega (arith, s, e, ap (λ (z : ℕ). length (w z)) q)) ∙ f.none y e;
        later = λ y l. at_other y (λ q. omega arith) ∙ f.later y (omega arith);
        same = λ x y l m n q. new-same x y (split x l) (split y m) n q;
        back = λ x y l m n k q. new-back x y (split x l) (split y m) n k q;
        most = λ y. new-most y (eqb y i) refl;
      }

    module _ (s : 1 ≤ length (w i)) (room : i < length ids) where
      -- an earlier place has the name
      pub number-old : (r : ℕ) → Earlier w ids i r → Numbering w (i + 1) heads nexts (set ids i r)
      number-old r p =
          let n : 1 ≤ length (w p.place) = omega (arith, s, ap length p.name) in
          numbered r s room (omega (arith, p.number, f.some p.place p.before n)) (omega (arith, p.number, f.most p.place))
          (λ y h m e. f.same y p.place h p.before m (e ∙ sym p.name) ∙ sym p.number)
          (λ y h m e. f.back y p.place h p.before m n (e ∙ p.number) ∙ p.name)
          heads nexts f.places (held_up (λ (x : ℕ). x) _ heads nexts f.places i (i + 1) (omega arith) (omega arith) f.held) (every_map f.places (λ x q. (omega (arith, q.0), q.1)) f.named) every
        where
          every : (y : ℕ) → (y ≡ i) ⊎ (y < i) → 1 ≤ length (w y) → any (λ (x : ℕ). same_word (w x) (w y)) f.places ≡ true
          every y (inl e) m = subst (λ (v : Word). any (λ (x : ℕ). same_word (w x) v) f.places ≡ true) (p.name ∙ sym (ap w e)) (f.all p.place p.before (omega (arith, s, ap length p.name)))
          every y (inr h) m = f.all y h m

      -- none has it
      pub number-new : any (λ (x : ℕ). same_word (w x) (w i)) f.places ≡ false → 512 ≤ length heads → i < length nexts
          → (h : ℕ) → h ≡ bucket_of (w i) → h < 512 → (heads' nexts' : List ℕ) → heads' ≡ set heads h (i + 1) → nexts' ≡ set nexts i (get_or heads h 0) → Numbering w (i + 1) heads' nexts' (set ids i (i + 1))
      unfolding Every any
      number-new none long more h eh lh heads' nexts' e₁ e₂ =
          numbered (i + 1) s room (omega arith) (omega arith)
          (λ y l m e. clash (sym none ∙ subst (λ (v : Word). any (λ (x : ℕ). same_word (w x) v) f.places ≡ true) e (f.all y l m)))
          (λ y l m e. absurd (omega (arith, f.most y)))
          heads' nexts' (i ∷ f.places)
          (rw (e₁, e₂, eh) (held-put (λ (x : ℕ). x) (λ (x : ℕ). bucket_of (w x)) heads nexts f.places i f.held (omega (arith, eh)) more (omega (arith, eh)) (i + 1) (omega arith) (omega arith)))
          ((omega arith, s), every_map f.places (λ x q. (omega (arith, q.0), q.1)) f.named) every
        where
          every : (y : ℕ) → (y ≡ i) ⊎ (y < i) → 1 ≤ length (w y) → (same_word (w i) (w y) || any (λ (x : ℕ). same_word (w x) (w y)) f.places) ≡ true
          every y (inl e) m = ap (λ (b : Bool). b || any (λ (x : ℕ). same_word (w x) (w y)) f.places) (ap (λ (z : ℕ). same_word (w i) (w z)) e ∙ same_self (w i))
          every y (inr l) m = ap (λ (b : Bool). same_word (w i) (w y) || b) (f.all y l m) ∙ or-true (same_word (w i) (w y))

  -- all places
  pub number-end : (n : ℕ) (heads nexts ids : List ℕ) → Numbering w n heads nexts ids → ((y : ℕ) → n ≤ y → length (w y) ≡ 0) → Numbered w n ids
  unfolding same_word
  number-end n heads nexts ids f past = record { same = λ x y. go x y (leb 1 (length (w x))) (leb 1 (length (w y))) refl refl; most = f.most }
    where
      inside : (y : ℕ) → 1 ≤ length (w y) → y < n
      inside y s = by (leb n y) refl
        where
          by : (b : Bool) → leb n y ≡ b → y < n
          by true e = absurd (omega (arith, s, past y (leb-true n y e)))
          by false e = leb-false n y e

      both : (x y : ℕ) → 1 ≤ length (w x) → 1 ≤ length (w y) → (t : Bool) → same_word (w x) (w y) ≡ t → t ≡ eqb (get_or ids x 0) (get_or ids y 0)
      both x y s m true e = sym (eq-eqb (get_or ids x 0) (get_or ids y 0) (f.same x y (inside x s) (inside y m) s (same_word_lem (w x) (w y) e)))
      both x y s m false e = sym (ne_eqb (get_or ids x 0) (get_or ids y 0) (λ q. clash (sym e ∙ ap (λ (v : Word). same_word v (w y)) (f.back x y (inside x s) (inside y m) s m q) ∙ same_self (w y))))

      go : (x y : ℕ) (a b : Bool) → leb 1 (length (w x)) ≡ a → leb 1 (length (w y)) ≡ b → same_word (w x) (w y) ≡ eqb (get_or ids x 0) (get_or ids y 0)
      go x y true true e g = both x y (leb-true 1 (length (w x)) e) (leb-true 1 (length (w y)) g) (same_word (w x) (w y)) refl
      go x y true false e g =
          let s = leb-true 1 (length (w x)) e in
          let z : length (w y) ≡ 0 = omega (arith, leb-false 1 (length (w y)) g) in
          same_word-length (w x) (w y) (λ q. omega (arith, s, z)) ∙ sym (ne_eqb (get_or ids x 0) (get_or ids y 0) (λ q. omega (arith, f.some x (inside x s) s, f.none y z)))
      go x y false true e g =
          let s = leb-true 1 (length (w y)) g in
          let z : length (w x) ≡ 0 = omega (arith, leb-false 1 (length (w x)) e) in
          same_word-length (w x) (w y) (λ q. omega (arith, s, z)) ∙ sym (ne_eqb (get_or ids x 0) (get_or ids y 0) (λ q. omega (arith, f.some y (inside y s) s, f.none x z)))
      go x y false false e g =
          let z : length (w x) ≡ 0 = omega (arith, leb-false 1 (length (w x)) e) in
          let o : length (w y) ≡ 0 = omega (arith, leb-false 1 (length (w y)) g) in
          ap₂ same_word (no-letters (w x) z) (no-letters (w y) o) ∙ sym (eq-eqb (get_or ids x 0) (get_or ids y 0) (f.none x z ∙ sym (f.none y o)))

-- one mark more
module _ (w : ℕ → Word) (n : ℕ) (ids : List ℕ) (f : Numbered w n ids) (marks : List ℕ) (i v : ℕ) (set-v : 0 < v) (room : get_or ids i 0 < length marks) (x : ℕ) where
  abbrev more : List ℕ
  more = set marks (get_or ids i 0) v

  mark : (t : Bool) → (t ≡ true → get_or ids i 0 ≡ get_or ids x 0) → (t ≡ false → get_or ids x 0 ≡ get_or ids i 0 → ⊥) → marked ids more x ≡ (t || marked ids marks x)
  mark true h k = ap (λ (j : ℕ). not (eqb (get_or more j 0) 0)) (sym (h refl)) ∙ ap (λ (v : ℕ). not (eqb v 0)) (get_or-set_same marks (get_or ids i 0) v 0 room) ∙ ap not (ne_eqb v 0 (λ e. omega (arith, e)))
  mark false h k = ap (λ (v : ℕ). not (eqb v 0)) (get_or-set_other marks (get_or ids i 0) (get_or ids x 0) v 0 (k refl))

  pub mark-use : marked ids more x ≡ (same_word (w x) (w i) || marked ids marks x)
  mark-use = mark (same_word (w x) (w i)) (λ e. sym (eqb-true (get_or ids x 0) (get_or ids i 0) (sym (f.same x i) ∙ e))) (λ e. eqb-false (get_or ids x 0) (get_or ids i 0) (sym (f.same x i) ∙ e))

  pub mark-bound : marked ids more x ≡ (same_word (w i) (w x) || marked ids marks x)
  mark-bound = mark (same_word (w i) (w x)) (λ e. eqb-true (get_or ids i 0) (get_or ids x 0) (sym (f.same i x) ∙ e)) (λ e q. eqb-false (get_or ids i 0) (get_or ids x 0) (sym (f.same i x) ∙ e) (sym q))
