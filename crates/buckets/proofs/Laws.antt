-- Chains of places: one more at the front, and a walk along one; and what is left of a list, against the places that are chained.
use mathlib.Core.Path.{◌≡◌, refl, sym, ap, ap₂, ◌∙◌, subst}
use mathlib.Core.Bool.{Bool, true, false, not, ◌&&◌, ◌||◌}
use mathlib.Core.List.{List, [], ◌∷◌}
use Prim.Native.Nat.{ℕ, ◌+◌, ◌≤◌, ◌<◌}
use native.Mathlib.Omega.{arith}
use lib.Dec.{eqb, leb}
use lib.ListN.{length, get_or, set, take, drop, length-take, length-drop, get_or-eq_default}
use lib.Seq.{get_or-set_same, get_or-set_other, take-set-le, take-set-lt, drop-set-lt, drop-set-add, get_or-take, length-take-le}
use borrow.Author.Tests.{eqb-true, eqb-false, eq-eqb, leb-true, leb-false}
use Rattle.model.specs.Lists.{any, all, filter, cons_if, Every}
use Rattle.model.proofs.Tests.{clash, and-inv}
use Rattle.quel.specs.Results.{Word, same_word}
use Rattle.buckets.specs.Chains.{Chain, Held}

-- words that are compared and equal
pub same_word_lem : (v w : Word) → same_word v w ≡ true → v ≡ w
unfolding same_word
same_word_lem [] [] e = refl
same_word_lem [] (y ∷ w) e = clash e
same_word_lem (x ∷ v) [] e = clash e
same_word_lem (x ∷ v) (y ∷ w) e = let t = and-inv (eqb x y) (same_word v w) e in ap₂ (λ (a : ℕ) (u : Word). a ∷ u) (eqb-true x y t.0) (same_word_lem v w t.1)

pub every_map : {A : Type 0} {P Q : A → Type 0} (xs : List A) → ((x : A) → P x → Q x) → Every P xs → Every Q xs
unfolding Every
every_map [] f e = tt
every_map (x ∷ xs) f e = (f x e.0, every_map xs f e.1)

every-filter : {A : Type 0} (P : A → Type 0) (p : A → Bool) (xs : List A) → Every P xs → Every P (filter p xs)
unfolding Every filter
every-filter P p [] e = tt
every-filter P p (x ∷ xs) e = go (p x) (every-filter P p xs e.1)
  where
    go : (t : Bool) → Every P (filter p xs) → Every P (cons_if t x (filter p xs))
    go true f = (e.0, f)
    go false f = f

module _ (slot : ℕ → ℕ) where
  chain-low : (nexts : List ℕ) (link y : ℕ) (xs : List ℕ) → Every (λ (x : ℕ). x < y) xs → Chain slot nexts link xs → link ≤ y
  unfolding Chain Every
  chain-low nexts link y [] e c = omega (arith, c)
  chain-low nexts link y (x ∷ xs) e c = omega (arith, c.0, e.0)

  chain-frame : (nexts : List ℕ) (s v link : ℕ) (xs : List ℕ) → Every (λ (x : ℕ). slot x < s) xs → Chain slot nexts link xs → Chain slot (set nexts s v) link xs
  unfolding Chain Every
  chain-frame nexts s v link [] e c = c
  chain-frame nexts s v link (x ∷ xs) e c =
      let g : get_or (set nexts s v) (slot x) 0 ≡ get_or nexts (slot x) 0 = get_or-set_other nexts s (slot x) v 0 (λ z. omega (arith, e.0, z)) in
      (c.0, (omega (arith, g, c.1.0), subst (λ (l : ℕ). Chain slot (set nexts s v) l xs) (sym g) (chain-frame nexts s v (get_or nexts (slot x) 0) xs e.1 c.1.1)))

  -- the place y at the front of its chain
  module _ (b : ℕ → ℕ) (heads nexts xs : List ℕ) (y : ℕ) (f : Held b slot y heads nexts xs) (low : b y < length heads) (room : slot y < length nexts) where
    old : (h : ℕ) → h < 512 → Chain slot (set nexts (slot y) (get_or heads (b y) 0)) (get_or heads h 0) (filter (λ (x : ℕ). eqb (b x) h) xs)
    old h l = chain-frame nexts (slot y) _ _ _ (every-filter (λ (x : ℕ). slot x < slot y) _ xs (every_map xs (λ x p. p.1) f.low)) (f.chains h l)

    front : b y < 512 → (h : ℕ) → h < 512 → (t : Bool) → eqb (b y) h ≡ t
        → Chain slot (set nexts (slot y) (get_or heads (b y) 0)) (get_or (set heads (b y) (y + 1)) h 0) (cons_if t y (filter (λ (x : ℕ). eqb (b x) h) xs))
    unfolding Chain
    front k h l true e =
        let e₁ = eqb-true (b y) h e in
        let g : get_or (set nexts (slot y) (get_or heads (b y) 0)) (slot y) 0 ≡ get_or heads (b y) 0 = get_or-set_same nexts (slot y) (get_or heads (b y) 0) 0 room in
        let s : get_or (set heads (b y) (y + 1)) h 0 ≡ y + 1 = ap (λ (i : ℕ). get_or (set heads (b y) (y + 1)) i 0) (sym e₁) ∙ get_or-set_same heads (b y) (y + 1) 0 low in
        let m = chain-low nexts (get_or heads (b y) 0) y _ (every-filter (λ (x : ℕ). x < y) _ xs (every_map xs (λ x p. p.0) f.low)) (f.chains (b y) k) in
        (s, (omega (arith, g, m), subst (λ (n : ℕ). Chain slot (set nexts (slot y) (get_or heads (b y) 0)) n (filter (λ (x : ℕ). eqb (b x) h) xs)) (ap (λ (i : ℕ). get_or heads i 0) (sym e₁) ∙ sym g) (old h l)))
    front k h l false e =
        subst (λ (n : ℕ). Chain slot (set nexts (slot y) (get_or heads (b y) 0)) n (filter (λ (x : ℕ). eqb (b x) h) xs))
        (sym (get_or-set_other heads (b y) h (y + 1) 0 (λ z. eqb-false (b y) h e (sym z)))) (old h l)

    pub held-put : b y < 512 → (top : ℕ) → y < top → slot y < slot top → Held b slot top (set heads (b y) (y + 1)) (set nexts (slot y) (get_or heads (b y) 0)) (y ∷ xs)
    unfolding filter Every
    held-put k top l m = record {
      chains = λ h d. front k h d (eqb (b y) h) refl;
      low = ((l, m), every_map xs (λ x p. (omega (arith, p.0), omega (arith, p.1))) f.low);
    }

  -- a higher top
  pub held_up : (b : ℕ → ℕ) (heads nexts xs : List ℕ) (y top : ℕ) → y ≤ top → slot y ≤ slot top → Held b slot y heads nexts xs → Held b slot top heads nexts xs
  held_up b heads nexts xs y top l m f = record { chains = f.chains; low = every_map xs (λ x p. (omega (arith, p.0), omega (arith, p.1))) f.low }

  -- cleared tables chain no place
  pub held_none : (b : ℕ → ℕ) (heads nexts : List ℕ) (top : ℕ) → ((h : ℕ) → get_or heads h 0 ≡ 0) → Held b slot top heads nexts []
  unfolding Chain Every filter
  held_none b heads nexts top z = record { chains = λ h _. z h; low = tt }

-- a walk along a chain of places with P: what is left of it decides
pub record Walk (slot : ℕ → ℕ) (nexts : List ℕ) (q : ℕ → Bool) (P : ℕ → Type 0) (xs : List ℕ) (link : ℕ) : Type 0 where
  pub rest : List ℕ
  pub chain : Chain slot nexts link rest
  pub each : Every P rest
  pub same : any q xs ≡ any q rest

any-filter : {A : Type 0} (p q : A → Bool) (xs : List A) → ((x : A) → q x ≡ true → p x ≡ true) → any q xs ≡ any q (filter p xs)
unfolding any filter
any-filter p q [] f = refl
any-filter p q (x ∷ xs) f = ap (λ (t : Bool). q x || t) (any-filter p q xs f) ∙ go (p x) (q x) refl refl
  where
    go : (s t : Bool) → p x ≡ s → q x ≡ t → (t || any q (filter p xs)) ≡ any q (cons_if s x (filter p xs))
    go true t e g = ap (λ (u : Bool). u || any q (filter p xs)) (sym g)
    go false true e g = clash (sym e ∙ f x g)
    go false false e g = refl

module _ (slot : ℕ → ℕ) (nexts : List ℕ) (q : ℕ → Bool) (P : ℕ → Type 0) (xs : List ℕ) where
  pub walk_start : (b : ℕ → ℕ) (top : ℕ) (heads : List ℕ) (h link : ℕ) → h < 512 → link ≡ get_or heads h 0 → ((x : ℕ) → q x ≡ true → b x ≡ h) → Held b slot top heads nexts xs → Every P xs → Walk slot nexts q P xs link
  walk_start b top heads h link l e f k each = record {
    rest = filter (λ (x : ℕ). eqb (b x) h) xs;
    chain = subst (λ (n : ℕ). Chain slot nexts n (filter (λ (x : ℕ). eqb (b x) h) xs)) (sym e) (k.chains h l);
    each = every-filter P _ xs each;
    same = any-filter (λ (x : ℕ). eqb (b x) h) q xs (λ x t. eq-eqb (b x) h (f x t));
  }

  pub walk_none : (link : ℕ) → link ≡ 0 → Walk slot nexts q P xs link → any q xs ≡ false
  unfolding Chain any
  walk_none link z w = w.same ∙ go w.rest w.chain
    where
      go : (ys : List ℕ) → Chain slot nexts link ys → any q ys ≡ false
      go [] c = refl
      go (y ∷ ys) c = absurd (omega (arith, c.0, z))

  -- at the place of a link
  module _ (link at : ℕ) (l : link ≡ at + 1) (w : Walk slot nexts q P xs link) where
    pub walk-low : P at × (get_or nexts (slot at) 0 ≤ at)
    unfolding Chain Every
    walk-low = go w.rest w.chain w.each
      where
        go : (ys : List ℕ) → Chain slot nexts link ys → Every P ys → P at × (get_or nexts (slot at) 0 ≤ at)
        go [] c e = absurd (omega (arith, c, l))
        go (y ∷ ys) c e = let i : y ≡ at = omega (arith, c.0, l) in (subst P i e.0, subst (λ (z : ℕ). get_or nexts (slot z) 0 ≤ z) i c.1.0)

    pub walk_here : q at ≡ true → any q xs ≡ true
    unfolding Chain any
    walk_here t = w.same ∙ go w.rest w.chain
      where
        go : (ys : List ℕ) → Chain slot nexts link ys → any q ys ≡ true
        go [] c = absurd (omega (arith, c, l))
        go (y ∷ ys) c = let i : y ≡ at = omega (arith, c.0, l) in ap (λ (z : ℕ). q z || any q ys) i ∙ ap (λ (u : Bool). u || any q ys) t

    pub walk-on : (to : ℕ) → q at ≡ false → to ≡ get_or nexts (slot at) 0 → Walk slot nexts q P xs to
    unfolding Chain Every any
    walk-on to f e = go w.rest w.chain w.each w.same
      where
        go : (ys : List ℕ) → Chain slot nexts link ys → Every P ys → any q xs ≡ any q ys → Walk slot nexts q P xs to
        go [] c d s = absurd (omega (arith, c, l))
        go (y ∷ ys) c d s =
            let i : y ≡ at = omega (arith, c.0, l) in
            record {
              rest = ys;
              chain = subst (λ (n : ℕ). Chain slot nexts n ys) (ap (λ (z : ℕ). get_or nexts (slot z) 0) i ∙ sym e) c.1.1;
              each = d.1;
              same = s ∙ ap (λ (z : ℕ). q z || any q ys) i ∙ ap (λ (u : Bool). u || any q ys) f;
            }

-- the places are below the top
pub held_low : (b slot : ℕ → ℕ) (top : ℕ) (heads nexts xs : List ℕ) → Held b slot top heads nexts xs → Every (λ (x : ℕ). x < top) xs
held_low b slot top heads nexts xs f = every_map xs (λ x p. p.0) f.low

-- none of the places comes again, by what comes now and what comes later
pub none-again : (xs : List ℕ) (here later left : ℕ → Bool) → ((x : ℕ) → left x ≡ (here x || later x))
    → all (λ (x : ℕ). not (left x)) xs ≡ (not (any here xs) && all (λ (x : ℕ). not (later x)) xs)
unfolding all any
none-again [] here later left f = refl
none-again (x ∷ xs) here later left f = ap (λ (t : Bool). not t && all (λ (x : ℕ). not (left x)) xs) (f x) ∙ ap (λ (t : Bool). not (here x || later x) && t) (none-again xs here later left f) ∙ go (here x) (later x) (any here xs) (all (λ (x : ℕ). not (later x)) xs)
  where
    go : (a b c d : Bool) → (not (a || b) && (not c && d)) ≡ (not (a || c) && (not b && d))
    go true b c d = refl
    go false true true d = refl
    go false true false d = refl
    go false false c d = refl

-- a place put into the one table of heads and nexts
module _ (x : List ℕ) (b s p : ℕ) (h : b < 512) where
  abbrev after : List ℕ
  after = set (set x (512 + s) (get_or x b 0)) b p

  pub put-heads : take 512 after ≡ set (take 512 x) b p
  put-heads = take-set-lt 512 (set x (512 + s) (get_or x b 0)) b p h ∙ ap (λ (l : List ℕ). set l b p) (take-set-le 512 x (512 + s) (get_or x b 0) (omega arith))

  pub put-nexts : drop 512 after ≡ set (drop 512 x) s (get_or (take 512 x) b 0)
  put-nexts = drop-set-lt 512 (set x (512 + s) (get_or x b 0)) b p h ∙ drop-set-add 512 x s (get_or x b 0) ∙ ap (λ (v : ℕ). set (drop 512 x) s v) (sym (get_or-take 512 x b 0 h))

-- heads and nexts in one table
module _ (index : List ℕ) where
  pub heads-room : 512 ≤ length index → 512 ≤ length (take 512 index)
  heads-room h = omega (arith, length-take-le 512 index h)

  pub nexts-room : (s : ℕ) → 512 + s < length index → s < length (drop 512 index)
  nexts-room s h = omega (arith, length-drop 512 index)

  pub nexts-full : (s : ℕ) → length index ≤ 512 + s → length (drop 512 index) ≤ s
  nexts-full s h = omega (arith, length-drop 512 index)

  pub heads-clear : ((h : ℕ) → get_or index h 0 ≡ 0) → (h : ℕ) → get_or (take 512 index) h 0 ≡ 0
  heads-clear z h = go (leb 512 h) refl
    where
      go : (b : Bool) → leb 512 h ≡ b → get_or (take 512 index) h 0 ≡ 0
      go true e = get_or-eq_default (take 512 index) 0 (omega (arith, length-take 512 index, leb-true 512 h e))
      go false e = get_or-take 512 index h 0 (leb-false 512 h e) ∙ z h

  pub nexts-same : (old : List ℕ) → length index ≡ length old → length (drop 512 index) ≡ length (drop 512 old)
  nexts-same old e = omega (arith, length-drop 512 index, length-drop 512 old)
