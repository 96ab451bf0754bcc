-- The walks at a place of the arrays.
use Prim.Native.Nat.{ℕ, zero, suc, ◌+◌, ◌-◌, ◌≤◌, ◌<◌}
use mathlib.Core.Bool.{Bool, true, false, cond, ◌&&◌, ◌||◌}
use mathlib.Core.List.{List, [], ◌∷◌}
use mathlib.Core.Path.{◌≡◌, refl, sym, ap, ◌∙◌}
use native.Mathlib.Omega.{arith}
use native.Mathlib.Nat.{add-zero}
use native.Mathlib.Numerals.{add-one}
use lib.Dec.{eqb, ltb}
use lib.ListN.{length, get_or, drop, drop_of_length-le}
use lib.Seq.{drop-cons}
use borrow.Author.Tests.{ne_eqb, lt-ltb, le-ltb, eqb-true, ltb-true, ltb-false}
use Rattle.std.specs.List.{list_any}
use lib.Pointwise.{pointwise}
use Rattle.model.specs.Lists.{any}
use Rattle.quel.specs.Results.{Word, same_word, has_word}
use Rattle.quel.specs.Tokens.{Token, point, is_letter, run}
use Rattle.quel.specs.Reader.{starts}
use Rattle.quel.specs.Ahead.{word_at}
use Rattle.tokens.specs.Table.{Table, word_in, token_at, tokens_at}
use Rattle.flat.specs.Flat.{outside, enter, deeper, shallower, uses, binding, binders, main_of, colons, last_by, last_of}
use Rattle.elaborate.specs.Places.{tokens_from, name_in, point_in, depth_kind, part_kind, use_in}
use Rattle.elaborate.proofs.marks.Steps.{uses-kind, binders-kind, main-kind, colons-kind, point-kind, word-kind}

next : (i j : ℕ) → i + 1 + j ≡ i + suc j
next i j = omega arith

module _ (text : List ℕ) (t : Table) where
  pub from_cons : (i : ℕ) → i < length t.kinds → tokens_from text t i ≡ token_at text t i ∷ tokens_from text t (i + 1)
  unfolding tokens_from tokens_at
  from_cons i h =
      let e : length t.kinds - i ≡ suc (length t.kinds - (i + 1)) = omega arith in
      ap (tokens_at text t i) e ∙ ap (λ (j : ℕ). token_at text t i ∷ tokens_at text t j (length t.kinds - (i + 1))) (sym (add-one i))

  pub from_end : (i : ℕ) → length t.kinds ≤ i → tokens_from text t i ≡ []
  unfolding tokens_from tokens_at
  from_end i h = let e : length t.kinds - i ≡ 0 = omega arith in ap (tokens_at text t i) e

  pub drop-from : (j i : ℕ) → drop j (tokens_from text t i) ≡ tokens_from text t (i + j)
  drop-from zero i = ap (tokens_from text t) (sym (add-zero i))
  drop-from (suc j) i = go (drop-from j (i + 1)) (ltb i (length t.kinds)) refl
    where
      go : drop j (tokens_from text t (i + 1)) ≡ tokens_from text t (i + 1 + j) → (b : Bool) → ltb i (length t.kinds) ≡ b → drop (suc j) (tokens_from text t i) ≡ tokens_from text t (i + suc j)
      go r true e = ap (drop (suc j)) (from_cons i (ltb-true i (length t.kinds) e)) ∙ r ∙ ap (tokens_from text t) (next i j)
      go r false e = ap (drop (suc j)) (from_end i (ltb-false i (length t.kinds) e)) ∙ sym (from_end (i + suc j) (omega (arith, ltb-false i (length t.kinds) e)))

  abbrev pub here : ℕ → Word
  here i = name_in text t.kinds t.starts i

  -- the name at a token of kind 0
  pub here-is : (i : ℕ) → i < length t.kinds → get_or t.kinds i 0 ≡ 0 → here i ≡ word_in text t i
  unfolding name_in word_in
  here-is i h e = rw (lt-ltb i (length t.kinds) h, e)

  pub first_word : (i : ℕ) → word_at 0 (tokens_from text t i) ≡ here i
  unfolding name_in token_at word_in
  first_word i = go (ltb i (length t.kinds)) refl
    where
      go : (b : Bool) → ltb i (length t.kinds) ≡ b → word_at 0 (tokens_from text t i) ≡ here i
      go true e = ap (word_at 0) (from_cons i (ltb-true i (length t.kinds) e)) ∙ word-kind (get_or t.kinds i 0) (word_in text t i) (get_or t.numbers i 0) ∙ sym (rw e)
      go false e = ap (word_at 0) (from_end i (ltb-false i (length t.kinds) e)) ∙ sym (rw e)

  pub word-from : (j i : ℕ) → word_at j (tokens_from text t i) ≡ here (i + j)
  word-from zero i = first_word i ∙ ap here (sym (add-zero i))
  word-from (suc j) i = go (word-from j (i + 1)) (ltb i (length t.kinds)) refl
    where
      past_end : (l : ℕ) → length t.kinds ≤ l → here l ≡ []
      past_end l h = sym (first_word l) ∙ ap (word_at 0) (from_end l h)

      go : word_at j (tokens_from text t (i + 1)) ≡ here (i + 1 + j) → (b : Bool) → ltb i (length t.kinds) ≡ b → word_at (suc j) (tokens_from text t i) ≡ here (i + suc j)
      go r true e = ap (word_at (suc j)) (from_cons i (ltb-true i (length t.kinds) e)) ∙ r ∙ ap here (next i j)
      go r false e = ap (word_at (suc j)) (from_end i (ltb-false i (length t.kinds) e)) ∙ sym (past_end (i + suc j) (omega (arith, ltb-false i (length t.kinds) e)))

  pub point-from : (i : ℕ) → starts point (tokens_from text t i) ≡ point_in t.kinds i
  unfolding point_in starts token_at
  point-from i = go (ltb i (length t.kinds)) refl
    where
      go : (b : Bool) → ltb i (length t.kinds) ≡ b → starts point (tokens_from text t i) ≡ point_in t.kinds i
      go true e = ap (starts point) (from_cons i (ltb-true i (length t.kinds) e)) ∙ point-kind (get_or t.kinds i 0) (word_in text t i) (get_or t.numbers i 0) (tokens_from text t (i + 1)) ∙ sym (rw e)
      go false e = ap (starts point) (from_end i (ltb-false i (length t.kinds) e)) ∙ sym (rw e)

-- a word more, if there is one
has_more : (x w : Word) (l : List Word) (b : Bool) → has_word x (cond b (w ∷ l) l) ≡ ((b && same_word x w) || has_word x l)
unfolding has_word any
has_more x w l true = refl
has_more x w l false = refl

module _ (text : List ℕ) (t : Table) (i : ℕ) (h : i < length t.kinds) where
  abbrev kind : ℕ
  kind = get_or t.kinds i 0

  abbrev rest : List Token
  rest = tokens_from text t (i + 1)

  uses-from : (d : ℕ) → uses d (tokens_from text t i)
      ≡ cond (eqb kind 0) (cond (outside d && starts point rest) (word_in text t i ∷ uses d rest) (uses d rest)) (uses (depth_kind kind d) rest)
  unfolding token_at
  uses-from d = ap (uses d) (from_cons text t i h) ∙ uses-kind kind (word_in text t i) (get_or t.numbers i 0) d rest

  -- a turn of the loop that marks what is used
  pub use-turn : (d : ℕ) (x : Word) → has_word x (uses d (tokens_from text t i)) ≡ ((use_in t.kinds d i && same_word x (here text t i)) || has_word x (uses (depth_kind kind d) rest))
  unfolding use_in depth_kind
  use-turn d x = ap (has_word x) (uses-from d) ∙ go (eqb kind 0) refl
    where
      go : (b : Bool) → eqb kind 0 ≡ b
          → has_word x (cond b (cond (outside d && starts point rest) (word_in text t i ∷ uses d rest) (uses d rest)) (uses (depth_kind kind d) rest))
          ≡ ((use_in t.kinds d i && same_word x (here text t i)) || has_word x (uses (depth_kind kind d) rest))
      go true e =
          let z = eqb-true kind 0 e in
          has_more x (word_in text t i) (uses d rest) (outside d && starts point rest)
          ∙ ap (λ (w : Word). ((outside d && starts point rest) && same_word x w) || has_word x (uses d rest)) (sym (here-is text t i h z))
          ∙ ap (λ (p : Bool). ((outside d && p) && same_word x (here text t i)) || has_word x (uses d rest)) (point-from text t (i + 1))
          ∙ sym (ap (λ (k : ℕ). ((eqb k 0 && (outside d && point_in t.kinds (i + 1))) && same_word x (here text t i)) || has_word x (uses (depth_kind k d) rest)) z)
      go false e = sym (rw e)

  -- the symbols bound at i, and after it
  binders-from : (p : ℕ) → binders p (tokens_from text t i)
      ≡ cond (eqb kind 0) (cond (binding p) (word_in text t i ∷ binders p rest) (binders p rest)) (cond (eqb kind 16) (word_at 0 rest ∷ binders p rest) (binders (part_kind kind p) rest))
  unfolding token_at
  binders-from p = ap (binders p) (from_cons text t i h) ∙ binders-kind kind (word_in text t i) (get_or t.numbers i 0) p rest

  pub bound-from : (p : ℕ) → binders p (tokens_from text t i)
      ≡ cond (eqb kind 0) (cond (binding p) (here text t i ∷ binders (part_kind kind p) rest) (binders (part_kind kind p) rest))
      (cond (eqb kind 16) (here text t (i + 1) ∷ binders (part_kind kind p) rest) (binders (part_kind kind p) rest))
  unfolding part_kind
  bound-from p = binders-from p ∙ go (eqb kind 0) refl
    where
      other : (b : Bool) → eqb kind 16 ≡ b → cond b (word_at 0 rest ∷ binders p rest) (binders (part_kind kind p) rest) ≡ cond b (here text t (i + 1) ∷ binders (part_kind kind p) rest) (binders (part_kind kind p) rest)
      other true e =
          ap (λ (w : Word). w ∷ binders p rest) (first_word text t (i + 1))
          ∙ sym (ap (λ (k : ℕ). here text t (i + 1) ∷ binders (part_kind k p) rest) (eqb-true kind 16 e))
      other false e = refl

      go : (b : Bool) → eqb kind 0 ≡ b
          → cond b (cond (binding p) (word_in text t i ∷ binders p rest) (binders p rest)) (cond (eqb kind 16) (word_at 0 rest ∷ binders p rest) (binders (part_kind kind p) rest))
          ≡ cond b (cond (binding p) (here text t i ∷ binders (part_kind kind p) rest) (binders (part_kind kind p) rest)) (cond (eqb kind 16) (here text t (i + 1) ∷ binders (part_kind kind p) rest) (binders (part_kind kind p) rest))
      go true e =
          let z = eqb-true kind 0 e in
          ap (λ (w : Word). cond (binding p) (w ∷ binders p rest) (binders p rest)) (sym (here-is text t i h z))
          ∙ sym (ap (λ (k : ℕ). cond (binding p) (here text t i ∷ binders (part_kind k p) rest) (binders (part_kind k p) rest)) z)
      go false e = other (eqb kind 16) refl

  pub main-turn : main_of (tokens_from text t i) ≡ cond (eqb kind 14) (tokens_from text t (i + 3)) (main_of rest)
  unfolding token_at
  main-turn =
      ap main_of (from_cons text t i h) ∙ main-kind kind (word_in text t i) (get_or t.numbers i 0) rest
      ∙ ap (λ (l : List Token). cond (eqb kind 14) l (main_of rest)) (drop-from text t 2 (i + 1) ∙ ap (tokens_from text t) (three i))
    where
      three : (i : ℕ) → i + 1 + 2 ≡ i + 3
      three i = omega arith

  pub last_turn : last_of (tokens_from text t i) ≡ cond (eqb kind 23) [] (last_of rest)
  unfolding token_at
  last_turn = ap last_of (from_cons text t i h) ∙ ap last_by (colons-kind kind (word_in text t i) (get_or t.numbers i 0) rest) ∙ go (eqb kind 23)
    where
      go : (b : Bool) → last_by (cond b ([] ∷ colons rest) (colons rest)) ≡ cond b [] (last_of rest)
      go true = refl
      go false = refl

-- what each small function gives
and-false : (b : Bool) → (b && false) ≡ false
and-false true = refl
and-false false = refl

pub same_word-length : (a b : List ℕ) → (length a ≡ length b → ⊥) → same_word a b ≡ false
unfolding same_word
same_word-length [] [] h = absurd (h refl)
same_word-length [] (y ∷ ys) h = refl
same_word-length (x ∷ xs) [] h = refl
same_word-length (x ∷ xs) (y ∷ ys) h = rw (same_word-length xs ys (λ e. h (ap suc e))) (and-false (eqb x y))

pub deeper-pos : (d : ℕ) → (d ≡ 0 → ⊥) → d + 1 ≡ deeper d
deeper-pos zero h = absurd (h refl)
deeper-pos (suc d) h = add-one (suc d)

pub shallower-low : (d : ℕ) → d ≤ 2 → 0 ≡ shallower d
shallower-low zero h = refl
shallower-low (suc zero) h = refl
shallower-low (suc (suc zero)) h = refl
shallower-low (suc (suc (suc d))) h = absurd (omega arith)

pub shallower-high : (d : ℕ) → 2 < d → d - 1 ≡ shallower d
shallower-high zero h = absurd (omega arith)
shallower-high (suc zero) h = absurd (omega arith)
shallower-high (suc (suc zero)) h = absurd (omega arith)
shallower-high (suc (suc (suc d))) h = omega arith

pub enter-pos : (d : ℕ) → (d ≡ 0 → ⊥) → d ≡ enter d
enter-pos zero h = absurd (h refl)
enter-pos (suc d) h = refl

module _ (text ks ss : List ℕ) (i : ℕ) where
  pub name-past : length ks ≤ i → [] ≡ name_in text ks ss i
  unfolding name_in
  name-past h = rw (le-ltb i (length ks) h)

  pub name-other : (get_or ks i 0 ≡ 0 → ⊥) → [] ≡ name_in text ks ss i
  unfolding name_in
  name-other h = rw (ne_eqb (get_or ks i 0) 0 h) (sym (ap (λ (b : Bool). cond b (run is_letter (drop (get_or ss i 0) text)) []) (and-false (ltb i (length ks)))))

  pub name-there : i < length ks → get_or ks i 0 ≡ 0 → (x y : List ℕ) → x ≡ drop (get_or ss i 0) text → y ≡ run is_letter x → y ≡ name_in text ks ss i
  unfolding name_in
  name-there h e x y ex ey = rw (lt-ltb i (length ks) h, e) (ey ∙ ap (run is_letter) ex)

module _ (text : List ℕ) (t : Table) (i : ℕ) (h : length t.kinds ≤ i) where
  pub no-use-left : (d : ℕ) (x : Word) → false ≡ has_word x (uses d (tokens_from text t i))
  unfolding has_word any uses
  no-use-left d x = rw (from_end text t i h)

  pub main-end : tokens_from text t i ≡ main_of (tokens_from text t i)
  unfolding main_of
  main-end = rw (from_end text t i h)

-- words compared byte by byte
pub same-pointwise : (a b : List ℕ) → pointwise eqb a b ≡ same_word a b
unfolding same_word
same-pointwise [] [] = refl
same-pointwise [] (y ∷ ys) = refl
same-pointwise (x ∷ xs) [] = refl
same-pointwise (x ∷ xs) (y ∷ ys) = ap (λ (b : Bool). eqb x y && b) (same-pointwise xs ys)

module _ (text : List ℕ) (t : Table) where
  -- whether a colon stands from i on
  pub last-any : (n i : ℕ) → length t.kinds ≤ i + n → last_of (tokens_from text t i) ≡ cond (list_any (λ y. eqb y 23) (drop i t.kinds)) [] (16 ∷ [])
  unfolding colons
  last-any zero i h = ap last_of (from_end text t i (omega arith)) ∙ sym (rw (drop_of_length-le t.kinds {i = i} (omega arith)))
  last-any (suc n) i h = go (last-any n (i + 1) (omega arith)) (ltb i (length t.kinds)) refl
    where
      by : (b c : Bool) → cond {A = List ℕ} b [] (cond c [] (16 ∷ [])) ≡ cond (b || c) [] (16 ∷ [])
      by true c = refl
      by false c = refl

      go : last_of (tokens_from text t (i + 1)) ≡ cond (list_any (λ y. eqb y 23) (drop (i + 1) t.kinds)) [] (16 ∷ [])
          → (b : Bool) → ltb i (length t.kinds) ≡ b → last_of (tokens_from text t i) ≡ cond (list_any (λ y. eqb y 23) (drop i t.kinds)) [] (16 ∷ [])
      go r true e =
          last_turn text t i (ltb-true i (length t.kinds) e) ∙ ap (cond {A = List ℕ} (eqb (get_or t.kinds i 0) 23) []) r
          ∙ by (eqb (get_or t.kinds i 0) 23) (list_any (λ y. eqb y 23) (drop (i + 1) t.kinds))
          ∙ sym (rw (drop-cons t.kinds i 0 (ltb-true i (length t.kinds) e), add-one i))
      go r false e = ap last_of (from_end text t i (ltb-false i (length t.kinds) e)) ∙ sym (rw (drop_of_length-le t.kinds {i = i} (ltb-false i (length t.kinds) e)))
