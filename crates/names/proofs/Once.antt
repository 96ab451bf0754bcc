-- Each name once: what is left of the list, against the records before.
use Prim.Native.Nat.{ℕ, ◌+◌, ◌*◌, ◌/◌, ◌≤◌, ◌<◌}
use mathlib.Core.Bool.{Bool, true, false, not, cond, ◌&&◌, ◌||◌}
use mathlib.Core.List.{List, [], ◌∷◌}
use mathlib.Core.Path.{◌≡◌, refl, sym, ap, ap₂, ◌∙◌, subst}
use native.Mathlib.Omega.{arith}
use Rattle.std.specs.Prelude.{zero, suc, Option, Some, None, IfSome, is_some, is_none}
use lib.Dec.{eqb, leb, ltb}
use lib.ListN.{length, get_or, set, take, drop, length-drop, drop_of_length-le}
use lib.Seq.{get_or-drop}
use borrow.Author.Tests.{eqb-true, le-leb, lt-ltb, leb-true}
use Rattle.model.specs.Lists.{any, all, Every}
use Rattle.model.proofs.Tests.{and-true, and-inv, clash}
use Rattle.quel.specs.Results.{Word, same_word}
use Rattle.quel.specs.Names.{is_padded}
use Rattle.buckets.specs.Chains.{bucket_of}
use Rattle.buckets.proofs.Laws.{same_word_lem, every_map, held_low, held-put, held_up, held_none, none-again}
use Rattle.tokens.specs.Codes.{Spelt}
use Rattle.tokens.specs.Spans.{capped}
use Rattle.tokens.specs.Kinds.{code_of, nonzero}
use Rattle.tokens.proofs.Places.{run-all}
use Rattle.quel.specs.Tokens.{is_letter}
use Rattle.model.proofs.Lists.{first-at}
use Rattle.names.specs.Entries.{place_of, width_of, name_at}
use Rattle.names.specs.Search.{good_code, is_named, seek_after, seek, found_at, name_of, record_code, like, HeldIn, ChainedIn, listed_before, later, apart, after, Index, Told, IndexedBy}
use Rattle.names.proofs.Same.{eqb-turned, same-turned}
use Rattle.names.proofs.Walk.{place-small, named-of, name-at, rest_at, seek-some, seek-none}
use Rattle.names.proofs.Reading.{passes, passes_none}
use Rattle.names.proofs.Checked.{padded-room, letters-some, letters-none, good_of, passes-some}

-- the code of a record's letters, by its kind
module _ (x : List ℕ) (at k : ℕ) (ek : k ≡ get_or x at 0) where
  pub letters-other : (leb 80 k && leb k 82) ≡ false → 0 ≡ record_code x at
  unfolding record_code
  letters-other h = rw (sym ek, h)

  pub letters-between : (n o : ℕ) → 80 ≤ k → k ≤ 82 → o ≡ place_of k → n ≡ good_code x (at + o) → n ≡ record_code x at
  unfolding record_code
  letters-between n o low high eo en = rw (sym ek, le-leb 80 k low, le-leb k 82 high) (en ∙ ap (λ (i : ℕ). good_code x (at + i)) eo)

-- the record at a place is good but for its name's coming again, or it is not
abbrev pub well : List ℕ → ℕ → Bool
well x at = let k = get_or x at 0 in (leb 80 k && leb k 82) && is_padded (name_of x at) (drop (at + place_of k) x)

module _ (x : List ℕ) (at n : ℕ) (en : n ≡ record_code x at) where
  pub not-well : n ≡ 0 → well x at ≡ false
  unfolding record_code
  not-well z = go (leb 80 (get_or x at 0) && leb (get_or x at 0) 82) (sym en ∙ z)
    where
      go : (t : Bool) → cond t (good_code x (at + place_of (get_or x at 0))) 0 ≡ 0 → (t && is_padded (name_of x at) (drop (at + place_of (get_or x at 0)) x)) ≡ false
      go true e = sym (letters-none x (at + place_of (get_or x at 0)) _ refl e)
      go false e = refl

  pub is-well : 1 ≤ n → (well x at ≡ true) × ((n ≡ capped (code_of (name_of x at))) × (at + place_of (get_or x at 0) + 12 ≤ length x))
  unfolding record_code
  is-well l = go (leb 80 (get_or x at 0) && leb (get_or x at 0) 82) en
    where
      go : (t : Bool) → n ≡ cond t (good_code x (at + place_of (get_or x at 0))) 0
          → ((t && is_padded (name_of x at) (drop (at + place_of (get_or x at 0)) x)) ≡ true) × ((n ≡ capped (code_of (name_of x at))) × (at + place_of (get_or x at 0) + 12 ≤ length x))
      go true e =
          let s = letters-some x (at + place_of (get_or x at 0)) n e (λ z. omega arith) in
          (sym s.0, (s.1, padded-room x (name_of x at) (at + place_of (get_or x at 0)) (sym s.0)))
      go false e = absurd (omega (arith, e))

-- a code that is there
pub code-there : (n m : ℕ) → Some n ≡ nonzero m → (n ≡ m) × (1 ≤ n)
code-there n zero e = cc
code-there n (suc m) e = let q : n ≡ suc m = cc in (q, omega arith)

pub code-gone : (m : ℕ) → None ≡ nonzero m → 0 ≡ m
code-gone zero e = refl
code-gone (suc m) e = cc

pub told_none : (o : Option ℕ) (b : Bool) → is_some o ≡ not b → b ≡ is_none o
told_none None true e = refl
told_none None false e = clash e
told_none (Some n) true e = clash (sym e)
told_none (Some n) false e = refl

-- a good record has its code
module _ (x : List ℕ) (at n : ℕ) (en : n ≡ record_code x at) (l : 1 ≤ n) where
  pub here-room : at + place_of (get_or x at 0) + 12 ≤ length x
  here-room = (is-well x at n en l).1.1

  pub here-some : 1 ≤ get_or x at 0
  here-some = omega (arith, leb-true 80 (get_or x at 0) (and-inv (leb 80 (get_or x at 0)) _ (and-inv (leb 80 (get_or x at 0) && leb (get_or x at 0) 82) _ (is-well x at n en l).0).0).0)

  pub here-spelt : Spelt (name_of x at) n
  unfolding name_at
  here-spelt =
      let w = is-well x at n en l in
      record {
        letters = run-all is_letter (take 12 (drop (at + place_of (get_or x at 0)) x));
        code = w.1.0;
      }

module _ (x : List ℕ) where
  -- a record after the one at i, and the one at i after it
  like_is : (i j : ℕ) → like x i (drop j x) ≡ (eqb (get_or x j 0) (get_or x i 0) && ((not (eqb (get_or x i 0) 81) || eqb (get_or x (j + 1) 0) (get_or x (i + 1) 0)) && same_word (name_at x (j + place_of (get_or x i 0))) (name_of x i)))
  unfolding is_named
  like_is i j =
      ap₂ (λ (a b : ℕ). eqb a (get_or x i 0) && ((not (eqb (get_or x i 0) 81) || eqb b (get_or x (i + 1) 0)) && same_word (name_at (drop j x) (place_of (get_or x i 0))) (name_of x i))) (first-at j x) (get_or-drop j x 1 0)
      ∙ ap (λ (w : Word). eqb (get_or x j 0) (get_or x i 0) && ((not (eqb (get_or x i 0) 81) || eqb (get_or x (j + 1) 0) (get_or x (i + 1) 0)) && same_word w (name_of x i))) (name-at x j (place_of (get_or x i 0)))

  like-turned : (i j : ℕ) → like x i (drop j x) ≡ like x j (drop i x)
  like-turned i j = like_is i j ∙ go (eqb (get_or x j 0) (get_or x i 0)) refl ∙ sym (like_is j i)
    where
      go : (t : Bool) → eqb (get_or x j 0) (get_or x i 0) ≡ t
          → (eqb (get_or x j 0) (get_or x i 0) && ((not (eqb (get_or x i 0) 81) || eqb (get_or x (j + 1) 0) (get_or x (i + 1) 0)) && same_word (name_at x (j + place_of (get_or x i 0))) (name_of x i)))
          ≡ (eqb (get_or x i 0) (get_or x j 0) && ((not (eqb (get_or x j 0) 81) || eqb (get_or x (i + 1) 0) (get_or x (j + 1) 0)) && same_word (name_at x (i + place_of (get_or x j 0))) (name_of x j)))
      go true e =
          let k : get_or x j 0 ≡ get_or x i 0 = eqb-true (get_or x j 0) (get_or x i 0) e in
          ap₂ (λ (a b : Bool). a && ((not (eqb (get_or x i 0) 81) || eqb (get_or x (j + 1) 0) (get_or x (i + 1) 0)) && b)) (eqb-turned (get_or x j 0) (get_or x i 0)) (same-turned (name_at x (j + place_of (get_or x i 0))) (name_of x i))
          ∙ ap (λ (b : Bool). eqb (get_or x i 0) (get_or x j 0) && ((not (eqb (get_or x i 0) 81) || b) && same_word (name_of x i) (name_at x (j + place_of (get_or x i 0))))) (eqb-turned (get_or x (j + 1) 0) (get_or x (i + 1) 0))
          ∙ ap (λ (m : ℕ). eqb (get_or x i 0) (get_or x j 0) && ((not (eqb m 81) || eqb (get_or x (i + 1) 0) (get_or x (j + 1) 0)) && same_word (name_of x i) (name_at x (j + place_of m)))) (sym k)
          ∙ ap (λ (m : ℕ). eqb (get_or x i 0) (get_or x j 0) && ((not (eqb (get_or x j 0) 81) || eqb (get_or x (i + 1) 0) (get_or x (j + 1) 0)) && same_word (name_at x (i + place_of m)) (name_of x j))) (sym k)
      go false e = rw (e, sym (eqb-turned (get_or x j 0) (get_or x i 0)) ∙ e)

  -- records that are alike are in one bucket
  pub like-bucket : (i j : ℕ) → like x i (drop j x) ≡ true → bucket_of (name_of x j) ≡ bucket_of (name_of x i)
  like-bucket i j e =
      let t = and-inv (eqb (get_or x j 0) (get_or x i 0)) _ (sym (like_is i j) ∙ e) in
      let s = and-inv (not (eqb (get_or x i 0) 81) || eqb (get_or x (j + 1) 0) (get_or x (i + 1) 0)) _ t.1 in
      ap (λ (m : ℕ). bucket_of (name_at x (j + place_of m))) (eqb-true (get_or x j 0) (get_or x i 0) t.0) ∙ ap bucket_of (same_word_lem _ _ s.1)

  -- what is named as the record at a place is like it
  module _ (at k q : ℕ) (w : Word) (e : is_named k q w (drop at x) ≡ true) where
    parts : (get_or x at 0 ≡ k) × (((not (eqb k 81) || eqb (get_or x (at + 1) 0) q) ≡ true) × (name_at x (at + place_of k) ≡ w))
    parts =
        let t = and-inv (eqb (get_or x at 0) k) _ (sym (named-of x at (get_or x at 0) k q w refl) ∙ e) in
        let s = and-inv (not (eqb k 81) || eqb (get_or x (at + 1) 0) q) _ t.1 in
        (eqb-true (get_or x at 0) k t.0, (s.0, same_word_lem _ _ s.1))

    pub named-name : name_of x at ≡ w
    named-name = ap (λ (m : ℕ). name_at x (at + place_of m)) parts.0 ∙ parts.1.1

    like-of : (y : List ℕ) → is_named k q w y ≡ like x at y
    unfolding is_named
    like-of y =
        ap (λ (b : Bool). eqb (get_or y 0 0) k && (b && same_word (name_at y (place_of k)) w)) (go (eqb k 81) parts.1.0)
        ∙ sym (ap₂ (λ (m : ℕ) (v : Word). is_named m (get_or x (at + 1) 0) v y) parts.0 named-name)
      where
        go : (b : Bool) → (not b || eqb (get_or x (at + 1) 0) q) ≡ true → (not b || eqb (get_or y 1 0) q) ≡ (not b || eqb (get_or y 1 0) (get_or x (at + 1) 0))
        go true h = ap (eqb (get_or y 1 0)) (sym (eqb-true (get_or x (at + 1) 0) q h))
        go false h = refl

    any-like : (xs : List ℕ) → any (λ (i : ℕ). is_named k q w (drop i x)) xs ≡ listed_before x at xs
    unfolding any
    any-like [] = refl
    any-like (i ∷ xs) = ap₂ (λ (a b : Bool). a || b) (like-of (drop i x)) (any-like xs)

  module _ (at : ℕ) (h : at < length x) where
    rest : drop (width_of (get_or (drop at x) 0 0)) (drop at x) ≡ drop (after x at) x
    rest = rest_at x at (get_or x at 0) (place_of (get_or x at 0)) h refl refl

    -- a record from this one on is this one, or a later one
    later-turn : (i : ℕ) → later x i at ≡ (like x at (drop i x) || later x i (after x at))
    later-turn i =
        ap (λ (y : List ℕ). ltb 0 (length y)) (seek-some (like x i) (drop at x) (simp length-drop (omega arith)) ∙ ap (λ (y : List ℕ). cond (like x i (drop at x)) (drop at x) (seek (like x i) y)) rest)
        ∙ go (like x i (drop at x))
        ∙ ap (λ (b : Bool). b || later x i (after x at)) (like-turned i at)
      where
        go : (t : Bool) → ltb 0 (length (cond t (drop at x) (seek (like x i) (drop (after x at) x)))) ≡ (t || later x i (after x at))
        go true = lt-ltb 0 (length (drop at x)) (simp length-drop (omega arith))
        go false = refl

    pub apart-turn : (xs : List ℕ) → apart x xs at ≡ (not (listed_before x at xs) && apart x xs (after x at))
    apart-turn xs = none-again xs (λ i. like x at (drop i x)) (λ i. later x i (after x at)) (λ i. later x i at) later-turn

    -- the list from this record on
    pub passes-turn : passes (drop at x) ≡ ((well x at && not (later x at (after x at))) && passes (drop (after x at) x))
    passes-turn =
        passes-some (drop at x) (simp length-drop (omega arith))
        ∙ ap₂ (λ (b : Bool) (y : List ℕ). b && passes y) (good_of x at (get_or x at 0) refl ∙ go (leb 80 (get_or x at 0) && leb (get_or x at 0) 82) (is_padded (name_of x at) (drop (at + place_of (get_or x at 0)) x)) (later x at (after x at))) rest
      where
        go : (a b c : Bool) → (a && (b && not c)) ≡ ((a && b) && not c)
        go true b c = refl
        go false b c = refl

  -- one record more
  pub index-more : (at : ℕ) → at < length x → (xs : List ℕ) → listed_before x at xs ≡ false → Index x at xs → Index x (after x at) (at ∷ xs)
  unfolding Every any
  index-more at h xs e f = record { hit = ((λ k q w n. hit k q w n), f.hit); none = λ k q w n. none k q w (is_named k q w (drop at x)) refl n }
    where
      step : (k q : ℕ) (w : Word) → any (λ (i : ℕ). is_named k q w (drop i x)) xs ≡ false → seek (is_named k q w) x ≡ cond (is_named k q w (drop at x)) (drop at x) (seek (is_named k q w) (drop (after x at) x))
      step k q w n = f.none k q w n ∙ seek-some (is_named k q w) (drop at x) (simp length-drop (omega arith)) ∙ ap (λ (y : List ℕ). cond (is_named k q w (drop at x)) (drop at x) (seek (is_named k q w) y)) (rest at h)

      hit : (k q : ℕ) (w : Word) → is_named k q w (drop at x) ≡ true → seek (is_named k q w) x ≡ drop at x
      hit k q w n = step k q w (any-like at k q w n xs ∙ e) ∙ ap (λ (b : Bool). cond b (drop at x) (seek (is_named k q w) (drop (after x at) x))) n

      none : (k q : ℕ) (w : Word) (b : Bool) → is_named k q w (drop at x) ≡ b → (b || any (λ (i : ℕ). is_named k q w (drop i x)) xs) ≡ false → seek (is_named k q w) x ≡ seek (is_named k q w) (drop (after x at) x)
      none k q w true g n = clash (sym n)
      none k q w false g n = step k q w n ∙ ap (λ (b : Bool). cond b (drop at x) (seek (is_named k q w) (drop (after x at) x))) g

  -- the answers at a good record
  module _ (at : ℕ) (h : at < length x) (xs heads nexts : List ℕ) (f : HeldIn x at heads nexts xs) where
    abbrev turned : Bool → Bool → Bool
    turned b l = (not (later x at (after x at)) && b) && (not l && apart x xs (after x at))

    by_turn : (b : Bool) → ((not (later x at (after x at)) && b) && apart x xs at) ≡ turned b (listed_before x at xs)
    by_turn b = ap (λ (d : Bool). (not (later x at (after x at)) && b) && d) (apart-turn at h xs)

    wide : at + 14 ≤ after x at
    wide = omega (arith, (place-small (get_or x at 0)).0)

    pub told-twice : listed_before x at xs ≡ true → Told x at xs heads nexts false
    told-twice e = record { places = xs; says = λ b. by_turn b ∙ ap (turned b) e ∙ go (not (later x at (after x at)) && b); held = λ z. clash z; index = λ z. clash z }
      where
        go : (a : Bool) → (a && false) ≡ false
        go true = refl
        go false = refl

    pub told_fresh : (k : ℕ) → k ≡ bucket_of (name_of x at) → k < 512 → 512 ≤ length heads → at / 14 < length nexts → listed_before x at xs ≡ false
        → (heads' nexts' : List ℕ) → heads' ≡ set heads k (at + 1) → nexts' ≡ set nexts (at / 14) (get_or heads k 0) → Told x at xs heads' nexts' true
    unfolding all
    told_fresh k ek lk room more e heads' nexts' e₁ e₂ = record {
      places = at ∷ xs;
      says = λ b. by_turn b ∙ ap (turned b) e ∙ go (later x at (after x at)) b (apart x xs (after x at));
      held = λ _. rw (e₁, e₂, ek) (held-put (λ (i : ℕ). i / 14) (λ (i : ℕ). bucket_of (name_of x i)) heads nexts xs at f (omega (arith, ek)) more (omega (arith, ek)) (after x at) (omega (arith, wide)) (omega (arith, wide)));
      index = λ _ _ g. index-more at h xs e g;
    }
      where
        go : (l b d : Bool) → ((not l && b) && d) ≡ (b && (not l && d))
        go true true d = refl
        go true false d = refl
        go false b d = refl

    pub told-past : (r : Bool) → r ≡ not (later x at (after x at)) → length nexts ≤ at / 14 → listed_before x at xs ≡ false → Told x at xs heads nexts r
    told-past r er full e = record {
      places = xs;
      says = λ b. by_turn b ∙ ap (turned b) e ∙ ap (λ (t : Bool). (t && b) && apart x xs (after x at)) (sym er) ∙ go r b (apart x xs (after x at));
      held = λ _. held_up (λ (i : ℕ). i / 14) (λ (i : ℕ). bucket_of (name_of x i)) heads nexts xs at (after x at) (omega (arith, wide)) (omega (arith, wide)) f;
      index = λ _ l g. absurd (omega arith);
    }
      where
        go : (a b d : Bool) → ((a && b) && d) ≡ (a && (b && d))
        go true b d = refl
        go false b d = refl

  -- a search after this record
  pub past_is : (at k a o : ℕ) (r : Option ℕ) (w : Word) → k ≡ get_or x at 0 → a ≡ get_or x (at + 1) 0 → o ≡ place_of k → w ≡ name_of x at → IfSome r (λ i. i < length x)
      → found_at x r ≡ seek (is_named k a w) (drop (at + o + 12) x) → is_none r ≡ not (later x at (after x at))
  past_is at k a o r w ek ea eo ew i e =
      let s : at + o + 12 ≡ at + (o + 12) = omega arith in
      nothing r i
      ∙ ap (λ (y : List ℕ). not (ltb 0 (length y))) (e ∙ ap (λ (i : ℕ). seek (is_named k a w) (drop i x)) (s ∙ ap (λ (i : ℕ). at + (i + 12)) (eo ∙ ap place_of ek)) ∙ ap (λ (i : ℕ). seek (is_named i a w) (drop (after x at) x)) ek ∙ ap₂ (λ (i : ℕ) (v : Word). seek (is_named (get_or x at 0) i v) (drop (after x at) x)) ea ew)
    where
      nothing : (r : Option ℕ) → IfSome r (λ i. i < length x) → is_none r ≡ not (ltb 0 (length (found_at x r)))
      nothing None i = refl
      nothing (Some n) i = sym (ap not (lt-ltb 0 (length (drop n x)) (omega (arith, length-drop n x))))

  -- the loop at a record: some records before are chained; m is the length of the table
  pub record Left (m at : ℕ) (heads nexts : List ℕ) : Type 0 where
    pub places : List ℕ
    pub held : HeldIn x at heads nexts places
    pub inside : at ≤ length x
    pub same : passes x ≡ (passes (drop at x) && apart x places at)
    pub index : length x ≤ 14 * m → Index x at places

  pub left-start : (m : ℕ) (heads nexts : List ℕ) → ((h : ℕ) → get_or heads h 0 ≡ 0) → Left m 0 heads nexts
  unfolding all any Every
  left-start m heads nexts z = record { places = []; held = held_none (λ (i : ℕ). i / 14) _ heads nexts 0 z; inside = omega arith; same = sym (and-true _); index = λ _. record { hit = tt; none = λ k q w e. refl } }

  pub chained : (m at : ℕ) (heads nexts : List ℕ) → Left m at heads nexts → ChainedIn x at heads nexts
  chained m at heads nexts f = record { places = f.places; held = f.held }

  module _ (m at : ℕ) (heads nexts : List ℕ) (h : at < length x) (f : Left m at heads nexts) where
    pub left-bad : well x at ≡ false → false ≡ passes x
    left-bad e = sym (f.same ∙ ap (λ (b : Bool). b && apart x f.places at) (passes-turn at h ∙ ap (λ (b : Bool). (b && not (later x at (after x at))) && passes (drop (after x at) x)) e))

    module _ (e : well x at ≡ true) (heads' nexts' : List ℕ) (r : Bool) (k : Told x at f.places heads' nexts' r) where
      by-told : passes x ≡ (r && (passes (drop (after x at) x) && apart x k.places (after x at)))
      by-told =
          f.same ∙ ap (λ (b : Bool). b && apart x f.places at) (passes-turn at h ∙ ap (λ (b : Bool). (b && not (later x at (after x at))) && passes (drop (after x at) x)) e)
          ∙ k.says (passes (drop (after x at) x))

      pub left-twice : r ≡ false → false ≡ passes x
      left-twice z = sym (by-told ∙ ap (λ (b : Bool). b && (passes (drop (after x at) x) && apart x k.places (after x at))) z)

      pub left-next : r ≡ true → length nexts' ≡ m → at + place_of (get_or x at 0) + 12 ≤ length x → (to : ℕ) → to ≡ after x at → Left m to heads' nexts'
      left-next z en room to et = subst (λ (i : ℕ). Left m i heads' nexts') (sym et) (record { places = k.places; held = k.held z; inside = omega (arith, room); index = λ l. k.index z (omega (arith, h, l, en)) (f.index l); same = by-told ∙ ap (λ (b : Bool). b && (passes (drop (after x at) x) && apart x k.places (after x at))) z })

  pub left-indexed : (m at : ℕ) (heads nexts : List ℕ) → length nexts ≡ m → length x ≤ at → Left m at heads nexts → IndexedBy x heads nexts
  left-indexed m at heads nexts en h f = record {
    places = f.places;
    top = at;
    end = h;
    held = f.held;
    inside = every_map f.places (λ i l. omega (arith, l, f.inside)) (held_low _ (λ (i : ℕ). i / 14) at heads nexts f.places f.held);
    index = λ l. f.index (omega (arith, l, en));
  }

  pub left_end : (m at : ℕ) (heads nexts : List ℕ) → length x ≤ at → Left m at heads nexts → true ≡ passes x
  unfolding all seek seek_after
  left_end m at heads nexts h f = sym (f.same ∙ rw (drop_of_length-le x {i = at} h) (ap (λ (b : Bool). b && all (λ (i : ℕ). not (ltb 0 (length (seek (like x i) [])))) f.places) (sym passes_none) ∙ every f.places))
    where
      every : (xs : List ℕ) → all (λ (i : ℕ). not (ltb 0 (length (seek (like x i) [])))) xs ≡ true
      every [] = refl
      every (y ∷ xs) = every xs

-- a chained record lies in the list, and a search for what it is named ends there
pub record Sound (x : List ℕ) (i : ℕ) : Type 0 where
  pub within : i ≤ length x
  pub hit : (k q : ℕ) (w : Word) → is_named k q w (drop i x) ≡ true → seek (is_named k q w) x ≡ drop i x

-- the whole list is chained
module _ (x heads nexts : List ℕ) (f : IndexedBy x heads nexts) (l : length x ≤ 14 * length nexts) where
  pub index-each : Every (Sound x) f.places
  unfolding Every
  index-each = go f.places f.inside (f.index l).hit
    where
      go : (xs : List ℕ) → Every (λ (i : ℕ). i ≤ length x) xs → Every (λ (i : ℕ). (k q : ℕ) (w : Word) → is_named k q w (drop i x) ≡ true → seek (is_named k q w) x ≡ drop i x) xs → Every (Sound x) xs
      go [] a b = tt
      go (i ∷ xs) a b = (record { within = a.0; hit = b.0 }, go xs a.1 b.1)

  pub index-none : (k q : ℕ) (w : Word) → any (λ (i : ℕ). is_named k q w (drop i x)) f.places ≡ false → [] ≡ seek (is_named k q w) x
  index-none k q w e = sym ((f.index l).none k q w e ∙ ap (seek (is_named k q w)) (drop_of_length-le x {i = f.top} f.end) ∙ seek-none (is_named k q w))

-- the whole list is in the table
pub room_of : (x index : List ℕ) → length x + 7168 ≤ 14 * length index → length x ≤ 14 * length (drop 512 index)
room_of x index h = simp length-drop (omega arith)
