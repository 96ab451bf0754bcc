-- The whole list: what is left of it, and what its names say.
use Prim.Native.Nat.{ℕ, ◌+◌, ◌%◌, ◌-◌, ◌≤◌, ◌<◌}
use mathlib.Core.Bool.{Bool, true, false, not, cond, ◌&&◌, ◌||◌}
use mathlib.Core.List.{List, [], ◌∷◌}
use mathlib.Core.Option.{some}
use mathlib.Core.Option as O
use Rattle.std.specs.Prelude.{Option, Some, None, is_some, IfSome, MatchOption}
use Rattle.tokens.specs.Codes.{Spelt}
use mathlib.Core.Path.{◌≡◌, refl, sym, ap, ap₂, subst, ◌∙◌}
use native.Mathlib.Omega.{arith}
use lib.Dec.{eqb, leb, ltb}
use lib.ListN.{length, get_or, take, drop, drop_of_length-le}
use lib.Seq.{get_or-drop}
use Rattle.model.specs.Lists.{any, all}
use borrow.Author.Tests.{not-true}
use Rattle.model.proofs.Tests.{and-true, and-inv, clash}
use Rattle.quel.specs.Results.{ok, Word, same_word}
use Rattle.quel.specs.Tokens.{Token, name, reserved, word_in, is_reserved}
use Rattle.parts.specs.Places.{Named}
use Rattle.quel.specs.Names.{is_padded, names, relation_named, attribute_named, value_named}
use Rattle.names.specs.Entries.{place_of, width_of, entries}
use Rattle.names.specs.Search.{is_named, seek, seek_after, like, name_of, record_code, good_code, listed_before, later, apart, after, Index}
use Rattle.names.proofs.Walk.{place-small, seek-none}
use Rattle.names.proofs.Finds.{found_some, found_none, relation-one, attribute-one, value-one}
use Rattle.names.proofs.Finds as F
use Rattle.names.proofs.Reading.{passes, passes_none}
use Rattle.names.proofs.Callers.{good-list}
use Rattle.names.proofs.Once.{well, letters-between, is-well, here-spelt, here-room, apart-turn, passes-turn, index-more}
use Rattle.quick.specs.Index.{places_of, Filled, Indexed, Sought, Told, bytes_at, put_in}
use Rattle.quick.proofs.index.Slots.{filled_more, filled_none, places-more}

-- the records before a place are in the table; the list passes where the rest does, and names none of them again
pub record Left (x t : List ℕ) (at n : ℕ) : Type 0 where
  pub filled : Filled x t at n
  pub inside : at ≤ length x
  pub same : passes x ≡ (passes (drop at x) && apart x (places_of t n) at)

pub left-start : (x t : List ℕ) → length t ≡ 256 → ((h : ℕ) → get_or t h 0 ≡ 0) → Left x t 0 0
unfolding places_of all
left-start x t e z = record { filled = filled_none x t e z; inside = omega arith; same = sym (and-true _) }

-- the code of the record at a place, by where its name begins
pub code_at : (x : List ℕ) (at k s c : ℕ) → k ≡ get_or x at 0 → 80 ≤ k → k ≤ 82 → s ≡ width_of k → c ≡ good_code x (at + s - 12) → c ≡ record_code x at
code_at x at k s c ek low high es ec =
    let i : at + s - 12 ≡ at + (s - 12) = omega (arith, es, (place-small k).0) in
    letters-between x at k ek c (s - 12) low high (omega (arith, es)) (ec ∙ ap (good_code x) i)

-- a good record's name is not reserved
free-at : (x : List ℕ) (at : ℕ) → well x at ≡ true → is_reserved (name_of x at) ≡ false
unfolding is_padded
free-at x at e =
    let k = get_or x at 0 in
    let w = name_of x at in
    let r = drop (at + place_of k) x in
    let a = and-inv (leb 80 k && leb k 82) _ e in
    let b = and-inv (leb 12 (length r)) _ a.1 in
    let c = and-inv (leb 1 (length w)) _ b.1 in
    let d = and-inv (all (λ b. eqb b 32) (drop (length w) (take 12 r))) _ c.1 in
    not-true (is_reserved w) d.1

module _ (x t : List ℕ) (at n : ℕ) (f : Left x t at n) (few : n < 63) (code : ℕ) (en : code ≡ record_code x at) (l : 1 ≤ code) (new : listed_before x at (places_of t n) ≡ false) where
  here : at < length x
  here = omega (arith, here-room x at code en l)

  pub left-next : (k s to : ℕ) → k ≡ get_or x at 0 → s ≡ width_of k → to ≡ at + s → code % 64 < 64 → (u : List ℕ) → u ≡ put_in t (n + 1) code at → Left x u to (n + 1)
  unfolding places_of all
  left-next k s to ek es et b u eu =
      let e : to ≡ after x at = et ∙ ap (λ (i : ℕ). at + i) (es ∙ ap width_of ek) in
      let g = filled_more x t at n f.filled few code at (after x at) b (here-spelt x at code en l) free room index u eu in
      subst (λ (i : ℕ). Left x u i (n + 1)) (sym e) (record { filled = g; inside = omega (arith, here-room x at code en l); same = turned })
    where
      free : is_reserved (name_of x at) ≡ false
      free = free-at x at (is-well x at code en l).0

      room : at + 14 ≤ length x
      room = omega (arith, here-room x at code en l, (place-small (get_or x at 0)).0)

      index : Index x (after x at) (at ∷ places_of t n)
      index = index-more x at here (places_of t n) new f.filled.index

      more : places_of (put_in t (n + 1) code at) (n + 1) ≡ at ∷ places_of t n
      more = places-more x t at n f.filled few code at (after x at) b (here-spelt x at code en l) free room index

      go : (d b c : Bool) → ((not d && b) && c) ≡ (b && (not d && c))
      go true true c = refl
      go true false c = refl
      go false b c = refl

      turned : passes x ≡ (passes (drop (after x at) x) && apart x (places_of u (n + 1)) (after x at))
      turned =
          f.same
          ∙ ap₂ (λ (a b : Bool). a && b) (passes-turn x at here ∙ ap (λ (b : Bool). (b && not (later x at (after x at))) && passes (drop (after x at) x)) (is-well x at code en l).0)
          (apart-turn x at here (places_of t n) ∙ ap (λ (b : Bool). not b && apart x (places_of t n) (after x at)) new)
          ∙ go (later x at (after x at)) (passes (drop (after x at) x)) (apart x (places_of t n) (after x at))
          ∙ ap (λ (p : List ℕ). passes (drop (after x at) x) && apart x p (after x at)) (sym (ap (λ (y : List ℕ). places_of y (n + 1)) eu ∙ more))

  pub left-filled : Filled x t at n
  left-filled = f.filled

pub left_end : (x t : List ℕ) (at n : ℕ) → length x ≤ at → Left x t at n → (names x ≡ ok (entries x) []) × Indexed x t
unfolding seek seek_after all
left_end x t at n h f =
    let e : at ≡ length x = omega (arith, f.inside) in (
      good-list x (sym (f.same ∙ ap₂ (λ (b : Bool) (y : List ℕ). b && all (λ (i : ℕ). not (ltb 0 (length (seek (like x i) y)))) (places_of t n)) (ap passes (drop_of_length-le x h) ∙ sym passes_none) (drop_of_length-le x h) ∙ every (places_of t n))),
      record { count = n; filled = subst (λ (i : ℕ). Filled x t i n) e f.filled },
    )
  where
    every : (xs : List ℕ) → all (λ (i : ℕ). not (ltb 0 (length (seek (like x i) [])))) xs ≡ true
    every [] = refl
    every (y ∷ xs) = every xs

-- a word that is not reserved is a name
unreserved : (ps : List (Word × Token)) (w : Word) → any (λ (p : Word × Token). same_word p.0 w) ps ≡ false → word_in ps w ≡ name w
unfolding any word_in
unreserved [] w e = refl
unreserved (p ∷ ps) w e = go (same_word p.0 w) e (unreserved ps w)
  where
    go : (b : Bool) → (b || any (λ (p : Word × Token). same_word p.0 w) ps) ≡ false → (any (λ (p : Word × Token). same_word p.0 w) ps ≡ false → word_in ps w ≡ name w) → cond b p.1 (word_in ps w) ≡ name w
    go true e f = clash (sym e)
    go false e f = f e

free-name : (w : Word) → is_reserved w ≡ false → Named w
unfolding is_reserved
free-name w e = unreserved reserved w e

-- what is sought in the whole list
module _ (x t : List ℕ) (f : Indexed x t) (k q : ℕ) (w : Word) (r : ℕ) (g : Sought x t f.count k q w r) where
  ends : drop (length x) x ≡ []
  ends = drop_of_length-le x {i = length x} (omega arith)

  -- the place in the list, or its end
  found_at : r < length x → drop r x ≡ seek (is_named k q w) x
  found_at h = sym (g.hit h)

  end-at : length x ≤ r → drop (length x) x ≡ seek (is_named k q w) x
  end-at h = ends ∙ sym (f.filled.index.none k q w (g.miss h) ∙ ap (seek (is_named k q w)) ends ∙ seek-none (is_named k q w))

module _ (x t : List ℕ) (f : Indexed x t) (q : ℕ) (w : Word) (r : ℕ) where
  pub told-relation : Sought x t f.count 80 q w r → Told x w r (relation_named (entries x) w) (get_or x (r + 1) 0)
  unfolding relation_named
  told-relation g = record {
    found = λ h. found_some (λ es. relation_named es w) (is_named 80 q w) (λ y. get_or y 1 0) refl (λ y es. relation-one w q y es) x r (found_at x t f 80 q w r g h) h ∙ ap some (get_or-drop r x 1 0);
    named = λ h. free-name w (g.free h);
    missing = λ h. found_none (λ es. relation_named es w) (is_named 80 q w) (λ y. get_or y 1 0) refl (λ y es. relation-one w q y es) x (length x) (end-at x t f 80 q w r g h) (omega arith);
  }

  pub told-attribute : Sought x t f.count 81 q w r → Told x w r (attribute_named (entries x) q w) (get_or x (r + 2) 0)
  unfolding attribute_named
  told-attribute g = record {
    found = λ h. found_some (λ es. attribute_named es q w) (is_named 81 q w) (λ y. get_or y 2 0) refl (λ y es. attribute-one w q y es) x r (found_at x t f 81 q w r g h) h ∙ ap some (get_or-drop r x 2 0);
    named = λ h. free-name w (g.free h);
    missing = λ h. found_none (λ es. attribute_named es q w) (is_named 81 q w) (λ y. get_or y 2 0) refl (λ y es. attribute-one w q y es) x (length x) (end-at x t f 81 q w r g h) (omega arith);
  }

  pub told-value : Sought x t f.count 82 q w r → Told x w r (value_named (entries x) w) (bytes_at x r)
  unfolding value_named
  told-value g = record {
    found = λ h. found_some (λ es. value_named es w) (is_named 82 q w) F.bytes_at refl (λ y es. value-one w q y es) x r (found_at x t f 82 q w r g h) h ∙ rw (get_or-drop r x 1 0, get_or-drop r x 2 0, get_or-drop r x 3 0, get_or-drop r x 4 0);
    named = λ h. free-name w (g.free h);
    missing = λ h. found_none (λ es. value_named es w) (is_named 82 q w) F.bytes_at refl (λ y es. value-one w q y es) x (length x) (end-at x t f 82 q w r g h) (omega arith);
  }

-- what a look-up found says what the whole list does
module _ (x t : List ℕ) (f : Indexed x t) (k q code : ℕ) {A : Type 0} (says : Word → O.Option A) (at : ℕ → A) (told : (w : Word) (r : ℕ) → Sought x t f.count k q w r → Told x w r (says w) (at r)) where
  pub told-found : (r : Option ℕ) → IfSome r (λ i. i + 14 ≤ length x) → ((i n : ℕ) → Filled x t i n → (w : Word) → Spelt w code → MatchOption r (Sought x t n k q w (length x)) (Sought x t n k q w))
      → IfSome r (λ i. (i + 14 ≤ length x) × ((w : Word) → Spelt w code → Told x w i (says w) (at i)))
  told-found None b h = tt
  told-found (Some i) b h = (b, λ w s. told w i (h _ _ f.filled w s))

-- nothing was found
pub sought-nothing : (x t : List ℕ) (n k q : ℕ) (w : Word) (r : Option ℕ) (b : Bool) → b ≡ is_some r → b ≡ false → MatchOption r (Sought x t n k q w (length x)) (Sought x t n k q w) → Sought x t n k q w (length x)
sought-nothing x t n k q w None b e z h = h
sought-nothing x t n k q w (Some i) b e z h = clash (sym z ∙ e)
