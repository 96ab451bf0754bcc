-- The table: one record more, and the way along a bucket.
use Prim.Native.Nat.{ℕ, zero, suc, ◌+◌, ◌%◌, ◌≤◌, ◌<◌}
use mathlib.Core.Bool.{Bool, true, false, not, ◌&&◌, ◌||◌}
use mathlib.Core.List.{List, ◌∷◌}
use mathlib.Core.Path.{◌≡◌, refl, sym, ap, ap₂, subst, ◌∙◌}
use native.Mathlib.Omega.{arith}
use native.Mathlib.Numerals.{add-one}
use lib.Dec.{eqb, leb}
use lib.ListN.{length, get_or, set, drop, length-set}
use lib.Seq.{get_or-set_same, get_or-set_other}
use borrow.Author.Tests.{eqb-true, eqb-false, leb-true, leb-false}
use Rattle.model.specs.Lists.{any, Every}
use Rattle.model.proofs.Tests.{clash, and-inv}
use Rattle.quel.specs.Results.{Word, same_word}
use Rattle.quel.specs.Tokens.{is_reserved}
use Rattle.tokens.specs.Codes.{Spelt}
use Rattle.names.specs.Entries.{place_of, name_at}
use Rattle.names.specs.Search.{name_of, is_named, seek, Index}
use Rattle.names.proofs.Words.{same-code-as}
use Rattle.names.proofs.Walk.{named-of}
use Rattle.names.proofs.Once.{named-name}
use Rattle.quick.specs.Index.{is_like, places_of, Link, Slot, Filled, Sought, put_in}

-- a fact about the places of the first n slots
each-place : (t : List ℕ) (n : ℕ) (P : ℕ → Type 0) → Every P (places_of t n) → (s : ℕ) → 1 ≤ s → s ≤ n → P (get_or t (64 + s) 0)
unfolding places_of Every
each-place t zero P e s l m = absurd (omega arith)
each-place t (suc n) P e s l m = go (λ h. each-place t n P e.1 s l h) (leb s n) refl
  where
    go : (s ≤ n → P (get_or t (64 + s) 0)) → (b : Bool) → leb s n ≡ b → P (get_or t (64 + s) 0)
    go f true h = f (leb-true s n h)
    go f false h = let i : suc n ≡ s = omega (arith, leb-false s n h) in subst (λ (j : ℕ). P (get_or t (64 + j) 0)) i e.0

none-place : (t : List ℕ) (n : ℕ) (p : ℕ → Bool) → ((s : ℕ) → 1 ≤ s → s ≤ n → p (get_or t (64 + s) 0) ≡ false) → any p (places_of t n) ≡ false
unfolding places_of any
none-place t zero p f = refl
none-place t (suc n) p f = ap₂ (λ (a b : Bool). a || b) (f (suc n) (omega arith) (omega arith)) (none-place t n p (λ s l m. f s l (omega arith)))

same-places : (t u : List ℕ) (n : ℕ) → ((s : ℕ) → s ≤ n → get_or u (64 + s) 0 ≡ get_or t (64 + s) 0) → places_of u n ≡ places_of t n
unfolding places_of
same-places t u zero f = refl
same-places t u (suc n) f = ap₂ (λ (a : ℕ) (l : List ℕ). a ∷ l) (f (suc n) (omega arith)) (same-places t u n (λ s l. f s (omega arith)))

-- a record is named so where its slot has the code and the record is alike
module _ (x t : List ℕ) (s : ℕ) (f : Slot x t s) (k q : ℕ) (w : Word) (code : ℕ) (sp : Spelt w code) where
  abbrev place : ℕ
  place = get_or t (64 + s) 0

  pub named-slot : is_named k q w (drop place x) ≡ (eqb (get_or t s 0) code && is_like x place k q)
  named-slot = named-of x place (get_or x place 0) k q w refl ∙ go (eqb (get_or x place 0) k) refl
    where
      last : (a b d : Bool) → (a && (b && d)) ≡ (d && (a && b))
      last true true true = refl
      last true true false = refl
      last true false true = refl
      last true false false = refl
      last false b true = refl
      last false b false = refl

      go : (e : Bool) → eqb (get_or x place 0) k ≡ e
          → (eqb (get_or x place 0) k && ((not (eqb k 81) || eqb (get_or x (place + 1) 0) q) && same_word (name_at x (place + place_of k)) w)) ≡ (eqb (get_or t s 0) code && is_like x place k q)
      go true e =
          ap (λ (i : ℕ). eqb (get_or x place 0) k && ((not (eqb k 81) || eqb (get_or x (place + 1) 0) q) && same_word (name_at x (place + place_of i)) w)) (sym (eqb-true (get_or x place 0) k e))
          ∙ ap (λ (b : Bool). eqb (get_or x place 0) k && ((not (eqb k 81) || eqb (get_or x (place + 1) 0) q) && b)) (sym (same-code-as x (place + place_of (get_or x place 0)) (get_or t s 0) code w f.spelt.code sp))
          ∙ last (eqb (get_or x place 0) k) (not (eqb k 81) || eqb (get_or x (place + 1) 0) q) (eqb (get_or t s 0) code)
      go false e = rw e (sym (none (eqb (get_or t s 0) code)))
        where
          none : (b : Bool) → (b && false) ≡ false
          none true = refl
          none false = refl

  pub named-code : is_named k q w (drop place x) ≡ true → get_or t s 0 ≡ code
  named-code e = eqb-true (get_or t s 0) code (and-inv (eqb (get_or t s 0) code) _ (sym named-slot ∙ e)).0

-- on the way along the bucket of a code: every slot of the first n that is named so is here or before
pub record Way (x t : List ℕ) (n k q code l : ℕ) : Type 0 where
  pub low : l ≤ n
  pub own : 1 ≤ l → get_or t l 0 % 64 ≡ code % 64
  pub all : (w : Word) → Spelt w code → (s : ℕ) → 1 ≤ s → s ≤ n → is_named k q w (drop (get_or t (64 + s) 0) x) ≡ true → s ≤ l

module _ (x t : List ℕ) (at n : ℕ) (f : Filled x t at n) (k q code : ℕ) where
  abbrev hits : Word → ℕ → Bool
  hits w s = is_named k q w (drop (get_or t (64 + s) 0) x)

  pub way-start : code % 64 < 64 → Way x t n k q code (get_or t (192 + code % 64) 0)
  way-start b =
      let h = f.heads (code % 64) b in
      record {
        low = omega (arith, h.below);
        own = h.own;
        all = λ w sp s l m e. h.last s l (omega arith) (ap (λ (c : ℕ). c % 64) (named-code x t s (f.slots s l m) k q w code sp e));
      }

  module _ (l : ℕ) (g : Way x t n k q code l) (p : 1 ≤ l) where
    pub way_slot : Slot x t l
    way_slot = f.slots l p g.low

    pub way-less : get_or t (128 + l) 0 < l
    way-less = (f.links l p g.low).below

    pub way_on : (b : Bool) → b ≡ (eqb (get_or t l 0) code && is_like x (get_or t (64 + l) 0) k q) → b ≡ false → Way x t n k q code (get_or t (128 + l) 0)
    way_on b eb z =
        let h = f.links l p g.low in
        record {
          low = omega (arith, h.below, g.low);
          own = λ i. h.own i ∙ g.own p;
          all = λ w sp s i m e.
              let j = g.all w sp s i m e in
              h.last s i (apart w sp s e j (leb l s) refl) (ap (λ (c : ℕ). c % 64) (named-code x t s (f.slots s i m) k q w code sp e) ∙ sym (g.own p));
        }
      where
        apart : (w : Word) → Spelt w code → (s : ℕ) → hits w s ≡ true → s ≤ l → (d : Bool) → leb l s ≡ d → s < l
        apart w sp s e j true d =
            let i : s ≡ l = omega (arith, leb-true l s d) in
            clash (sym z ∙ eb ∙ sym (named-slot x t l way_slot k q w code sp) ∙ ap (hits w) (sym i) ∙ e)
        apart w sp s e j false d = omega (arith, leb-false l s d)

    pub way-hit : (b : Bool) → b ≡ (eqb (get_or t l 0) code && is_like x (get_or t (64 + l) 0) k q) → b ≡ true → (w : Word) → Spelt w code → Sought x t n k q w (get_or t (64 + l) 0)
    way-hit b eb z w sp = record {
      hit = λ _. each-place t n (λ (i : ℕ). (k q : ℕ) (w : Word) → is_named k q w (drop i x) ≡ true → seek (is_named k q w) x ≡ drop i x) f.index.hit l p g.low k q w (named-slot x t l way_slot k q w code sp ∙ sym eb ∙ z);
      free = λ _. ap is_reserved (sym (named-name x (get_or t (64 + l) 0) k q w (named-slot x t l way_slot k q w code sp ∙ sym eb ∙ z))) ∙ way_slot.free;
      miss = λ m. absurd (omega (arith, m, way_slot.inside));
    }

  pub way_end : Way x t n k q code 0 → (w : Word) → Spelt w code → any (λ (i : ℕ). is_named k q w (drop i x)) (places_of t n) ≡ false
  way_end g w sp = none-place t n (λ (i : ℕ). is_named k q w (drop i x)) (λ s l m. go s l m (hits w s) refl)
    where
      go : (s : ℕ) → 1 ≤ s → s ≤ n → (b : Bool) → hits w s ≡ b → b ≡ false
      go s l m true e = absurd (omega (arith, g.all w sp s l m e))
      go s l m false e = refl

  pub way-miss : (l : ℕ) → l ≡ 0 → Way x t n k q code l → (w : Word) → Spelt w code → Sought x t n k q w (length x)
  way-miss l z g w sp = record {
    hit = λ h. absurd (omega arith);
    free = λ h. absurd (omega arith);
    miss = λ _. way_end (subst (Way x t n k q code) z g) w sp;
  }

-- what a record more changes
module _ (t : List ℕ) (s code at : ℕ) (size : length t ≡ 256) (low : s ≤ 63) (b : code % 64 < 64) where
  abbrev one : List ℕ
  one = set t s code

  abbrev two : List ℕ
  two = set one (64 + s) at

  abbrev three : List ℕ
  three = set two (128 + s) (get_or t (192 + code % 64) 0)

  pub put-code : get_or (put_in t s code at) s 0 ≡ code
  unfolding put_in
  put-code =
      get_or-set_other three (192 + code % 64) s s 0 (λ z. omega (arith, z))
      ∙ get_or-set_other two (128 + s) s _ 0 (λ z. omega (arith, z))
      ∙ get_or-set_other one (64 + s) s at 0 (λ z. omega (arith, z))
      ∙ get_or-set_same t s code 0 (omega (arith, size))

  pub put-place : get_or (put_in t s code at) (64 + s) 0 ≡ at
  unfolding put_in
  put-place =
      get_or-set_other three (192 + code % 64) (64 + s) s 0 (λ z. omega (arith, z))
      ∙ get_or-set_other two (128 + s) (64 + s) _ 0 (λ z. omega (arith, z))
      ∙ get_or-set_same one (64 + s) at 0 (omega (arith, size, length-set t s code))

  pub put-link : get_or (put_in t s code at) (128 + s) 0 ≡ get_or t (192 + code % 64) 0
  unfolding put_in
  put-link =
      get_or-set_other three (192 + code % 64) (128 + s) s 0 (λ z. omega (arith, z))
      ∙ get_or-set_same two (128 + s) _ 0 (omega (arith, size, length-set one (64 + s) at, length-set t s code))

  pub put-head : get_or (put_in t s code at) (192 + code % 64) 0 ≡ s
  unfolding put_in
  put-head = get_or-set_same three (192 + code % 64) s 0 (omega (arith, b, size, length-set two (128 + s) (get_or t (192 + code % 64) 0), length-set one (64 + s) at, length-set t s code))

  pub put-size : length (put_in t s code at) ≡ 256
  unfolding put_in
  put-size = length-set three (192 + code % 64) s ∙ length-set two (128 + s) (get_or t (192 + code % 64) 0) ∙ length-set one (64 + s) at ∙ length-set t s code ∙ size

  pub put_other : (i : ℕ) → (i ≡ s → ⊥) → (i ≡ 64 + s → ⊥) → (i ≡ 128 + s → ⊥) → (i ≡ 192 + code % 64 → ⊥) → get_or (put_in t s code at) i 0 ≡ get_or t i 0
  unfolding put_in
  put_other i d e f g = get_or-set_other three (192 + code % 64) i s 0 g ∙ get_or-set_other two (128 + s) i _ 0 f ∙ get_or-set_other one (64 + s) i at 0 e ∙ get_or-set_other t s i code 0 d

-- a link where the codes before it are the same
link-kept : (t u : List ℕ) (s h l : ℕ) → ((i : ℕ) → i < s → get_or u i 0 ≡ get_or t i 0) → Link t s h l → Link u s h l
link-kept t u s h l e f = record {
  below = f.below;
  own = λ p. ap (λ (c : ℕ). c % 64) (e l f.below) ∙ f.own p;
  last = λ i p m c. f.last i p m (sym (ap (λ (c : ℕ). c % 64) (e i m)) ∙ c);
}

module _ (x t : List ℕ) (from n : ℕ) (f : Filled x t from n) (few : n < 63) (code at to : ℕ) (b : code % 64 < 64) (sp : Spelt (name_of x at) code) (free : is_reserved (name_of x at) ≡ false) (room : at + 14 ≤ length x)
    (index : Index x to (at ∷ places_of t n)) where
  abbrev u : List ℕ
  u = put_in t (n + 1) code at

  low : n + 1 ≤ 63
  low = omega arith

  old : (i : ℕ) → i ≤ n → get_or u i 0 ≡ get_or t i 0
  old i l = put_other t (n + 1) code at f.size low b i (λ z. omega (arith, z)) (λ z. omega (arith, z)) (λ z. omega (arith, z)) (λ z. omega (arith, z))

  old-place : (i : ℕ) → i ≤ n → get_or u (64 + i) 0 ≡ get_or t (64 + i) 0
  old-place i l = put_other t (n + 1) code at f.size low b (64 + i) (λ z. omega (arith, z)) (λ z. omega (arith, z)) (λ z. omega (arith, z)) (λ z. omega (arith, z))

  old-link : (i : ℕ) → i ≤ n → get_or u (128 + i) 0 ≡ get_or t (128 + i) 0
  old-link i l = put_other t (n + 1) code at f.size low b (128 + i) (λ z. omega (arith, z)) (λ z. omega (arith, z)) (λ z. omega (arith, z)) (λ z. omega (arith, z))

  new-slot : Slot x u (n + 1)
  new-slot = record {
    spelt = rw (put-place t (n + 1) code at f.size low b, put-code t (n + 1) code at f.size low b) sp;
    free = rw (put-place t (n + 1) code at f.size low b) free;
    inside = omega (arith, put-place t (n + 1) code at f.size low b);
  }

  slot : (s : ℕ) → 1 ≤ s → s ≤ n + 1 → (d : Bool) → leb s n ≡ d → Slot x u s
  slot s l m true d =
      let o = f.slots s l (leb-true s n d) in
      record {
        spelt = rw (old-place s (leb-true s n d), old s (leb-true s n d)) o.spelt;
        free = rw (old-place s (leb-true s n d)) o.free;
        inside = omega (arith, old-place s (leb-true s n d), o.inside);
      }
  slot s l m false d = let i : n + 1 ≡ s = omega (arith, leb-false s n d) in subst (Slot x u) i new-slot

  new-link : Link u (n + 1) (get_or u (n + 1) 0 % 64) (get_or u (128 + (n + 1)) 0)
  new-link = rw (put-code t (n + 1) code at f.size low b, put-link t (n + 1) code at f.size low b) (link-kept t u (n + 1) (code % 64) _ (λ i l. old i (omega arith)) (f.heads (code % 64) b))

  link : (s : ℕ) → 1 ≤ s → s ≤ n + 1 → (d : Bool) → leb s n ≡ d → Link u s (get_or u s 0 % 64) (get_or u (128 + s) 0)
  link s l m true d = let j = leb-true s n d in rw (old s j, old-link s j) (link-kept t u s (get_or t s 0 % 64) _ (λ i k. old i (omega (arith, j))) (f.links s l j))
  link s l m false d = let i : n + 1 ≡ s = omega (arith, leb-false s n d) in subst (λ (j : ℕ). Link u j (get_or u j 0 % 64) (get_or u (128 + j) 0)) i new-link

  head : (h : ℕ) → h < 64 → (d : Bool) → eqb h (code % 64) ≡ d → Link u (n + 1 + 1) h (get_or u (192 + h) 0)
  head h l true d =
      let e = eqb-true h (code % 64) d in
      let g : get_or u (192 + h) 0 ≡ n + 1 = ap (λ (i : ℕ). get_or u (192 + i) 0) e ∙ put-head t (n + 1) code at f.size low b in
      rw g (record { below = omega arith; own = λ _. ap (λ (c : ℕ). c % 64) (put-code t (n + 1) code at f.size low b) ∙ sym e; last = λ i p m c. omega arith })
  head h l false d =
      let ne = eqb-false h (code % 64) d in
      let g : get_or u (192 + h) 0 ≡ get_or t (192 + h) 0 = put_other t (n + 1) code at f.size low b (192 + h) (λ z. omega (arith, z)) (λ z. omega (arith, z)) (λ z. omega (arith, z)) (λ z. ne (omega (arith, z))) in
      let o = f.heads h l in
      rw g (record {
        below = omega (arith, o.below);
        own = λ p. ap (λ (c : ℕ). c % 64) (old _ (omega (arith, o.below))) ∙ o.own p;
        last = λ i p m c. last i p m c (leb i n) refl;
      })
    where
      last : (i : ℕ) → 1 ≤ i → i < n + 1 + 1 → get_or u i 0 % 64 ≡ h → (e : Bool) → leb i n ≡ e → i ≤ get_or t (192 + h) 0
      last i p m c true e = let j = leb-true i n e in (f.heads h l).last i p (omega (arith, j)) (sym (ap (λ (c : ℕ). c % 64) (old i j)) ∙ c)
      last i p m c false e =
          let j : i ≡ n + 1 = omega (arith, leb-false i n e) in
          absurd (eqb-false h (code % 64) d (sym c ∙ ap (λ (c : ℕ). c % 64) (ap (λ (m : ℕ). get_or u m 0) j ∙ put-code t (n + 1) code at f.size low b)))

  pub places-more : places_of u (n + 1) ≡ at ∷ places_of t n
  unfolding places_of
  places-more =
      ap (places_of u) (add-one n)
      ∙ ap₂ (λ (a : ℕ) (l : List ℕ). a ∷ l) (ap (λ (i : ℕ). get_or u (64 + i) 0) (sym (add-one n)) ∙ put-place t (n + 1) code at f.size low b) (same-places t u n (λ s l. old-place s l))

  pub filled_more : (v : List ℕ) → v ≡ put_in t (n + 1) code at → Filled x v to (n + 1)
  filled_more v ev = rw ev (record {
    size = put-size t (n + 1) code at f.size low b;
    few = low;
    slots = λ s l m. slot s l m (leb s n) refl;
    links = λ s l m. link s l m (leb s n) refl;
    heads = λ h l. head h l (eqb h (code % 64)) refl;
    index = subst (Index x to) (sym places-more) index;
  })

-- a cleared table
pub filled_none : (x t : List ℕ) → length t ≡ 256 → ((h : ℕ) → get_or t h 0 ≡ 0) → Filled x t 0 0
unfolding places_of any Every
filled_none x t e z = record {
  size = e;
  few = omega arith;
  slots = λ s l m. absurd (omega arith);
  links = λ s l m. absurd (omega arith);
  heads = λ h l. rw (z (192 + h)) (record { below = omega arith; own = λ p. absurd (omega arith); last = λ i p m c. absurd (omega arith) });
  index = record { hit = tt; none = λ k q w e. refl };
}
