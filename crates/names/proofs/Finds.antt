-- The three lookups are one search.
use mathlib.Core.Path.{◌≡◌, refl, sym, ap, ◌∙◌}
use mathlib.Core.Bool.{Bool, true, false, cond, ◌&&◌}
use mathlib.Core.List.{List, [], ◌∷◌, ◌++◌}
use mathlib.Core.Option.{Option, none, some}
use Prim.Native.Nat.{ℕ, zero, suc, ◌+◌, ◌-◌, ◌<◌, ◌≤◌}
use native.Mathlib.Omega.{arith}
use lib.Dec.{eqb, ltb}
use lib.ListN.{length, get_or, drop, length-drop, drop_of_length-le}
use lib.Seq.{get_or-drop}
use borrow.Author.Tests.{eqb-true, ne_eqb, eqb-false, lt-ltb}
use Rattle.quel.specs.Results.{Word, same_word}
use Rattle.quel.specs.Names.{Entry, Bytes, relation_named, attribute_named, value_named}
use Rattle.names.specs.Entries.{place_of, width_of, name_at, entry_at, entries_after, entries}
use Rattle.names.specs.Search.{is_named, seek_after, seek}
use Rattle.names.specs.Answers.{found, valued}
use Rattle.std.specs.Prelude.{Some, None}

-- a kind is one of the three, or none of them
pub by_kind : {X : Type 0} (k : ℕ)
    → (k ≡ 80 → eqb k 80 ≡ true → eqb k 81 ≡ false → eqb k 82 ≡ false → X)
    → (k ≡ 81 → eqb k 80 ≡ false → eqb k 81 ≡ true → eqb k 82 ≡ false → X)
    → (k ≡ 82 → eqb k 80 ≡ false → eqb k 81 ≡ false → eqb k 82 ≡ true → X)
    → ((k ≡ 80 → ⊥) → (k ≡ 81 → ⊥) → (k ≡ 82 → ⊥) → eqb k 80 ≡ false → eqb k 81 ≡ false → eqb k 82 ≡ false → X) → X
by_kind {X} k f g h o = go (eqb k 80) (eqb k 81) (eqb k 82) refl refl refl
  where
    at : (n m : ℕ) → k ≡ n → (n ≡ m → ⊥) → eqb k m ≡ false
    at n m e d = ne_eqb k m (λ z. d (sym e ∙ z))

    go : (a b c : Bool) → eqb k 80 ≡ a → eqb k 81 ≡ b → eqb k 82 ≡ c → X
    go true b c ea eb ec = let e = eqb-true k 80 ea in f e ea (at 80 81 e (λ z. omega arith)) (at 80 82 e (λ z. omega arith))
    go false true c ea eb ec = let e = eqb-true k 81 eb in g e ea eb (at 81 82 e (λ z. omega arith))
    go false false true ea eb ec = h (eqb-true k 82 ec) ea eb ec
    go false false false ea eb ec = o (eqb-false k 80 ea) (eqb-false k 81 eb) (eqb-false k 82 ec) ea eb ec

abbrev pub is_some : {A : Type 0} → Option A → Bool
is_some none = false
is_some (some a) = true

-- what a lookup says is in the first record that has the name
module _ {A : Type 0} (look : List Entry → Option A) (p : List ℕ → Bool) (says : List ℕ → A) (empty : look [] ≡ none)
    (one : (x : List ℕ) (es : List Entry) → look (entry_at x ++ es) ≡ cond (p x) (some (says x)) (look es)) where
  abbrev first : List ℕ → Option A
  first [] = none
  first (b ∷ q) = some (says (b ∷ q))

  looked-after : (n : ℕ) (x : List ℕ) → look (entries_after n x) ≡ first (seek_after p n x)
  unfolding entries_after seek_after
  looked-after zero [] = empty
  looked-after (suc n) [] = empty
  looked-after (suc n) (b ∷ q) = looked-after n q
  looked-after zero (b ∷ q) = one (b ∷ q) (entries_after (width_of b - 1) q) ∙ go (p (b ∷ q)) (looked-after (width_of b - 1) q)
    where
      go : (t : Bool) → look (entries_after (width_of b - 1) q) ≡ first (seek_after p (width_of b - 1) q)
          → cond t (some (says (b ∷ q))) (look (entries_after (width_of b - 1) q)) ≡ first (cond t (b ∷ q) (seek_after p (width_of b - 1) q))
      go true h = refl
      go false h = h

  pub looked : (x : List ℕ) → look (entries x) ≡ first (seek p x)
  unfolding entries seek
  looked x = looked-after 0 x

  pub looked-some : (x : List ℕ) → ltb 0 (length (seek p x)) ≡ is_some (look (entries x))
  looked-some x = go (seek p x) ∙ sym (ap is_some (looked x))
    where
      go : (y : List ℕ) → ltb 0 (length y) ≡ is_some (first y)
      go [] = refl
      go (b ∷ q) = lt-ltb 0 (length (b ∷ q)) (omega arith)

  -- what is found at a place
  module _ (x : List ℕ) where
    pub found_some : (at : ℕ) → drop at x ≡ seek p x → at < length x → look (entries x) ≡ some (says (drop at x))
    found_some at e h = looked x ∙ ap first (sym e) ∙ go (drop at x) (simp length-drop (omega arith))
      where
        go : (y : List ℕ) → 0 < length y → first y ≡ some (says y)
        go [] l = absurd (omega arith)
        go (b ∷ q) l = refl

    pub not-found : [] ≡ seek p x → look (entries x) ≡ none
    not-found e = looked x ∙ ap first (sym e)

    pub found_none : (at : ℕ) → drop at x ≡ seek p x → length x ≤ at → look (entries x) ≡ none
    found_none at e h = not-found (sym (drop_of_length-le x h) ∙ e)

-- the test of the specification and of the search
by-test : {A : Type 0} (t : Bool) (a b : A) → elim t as (λ _. A) [ true ↦ a | false ↦ b ] ≡ cond t a b
by-test true a b = refl
by-test false a b = refl

abbrev pub bytes_at : List ℕ → Bytes
bytes_at x = record { b0 = get_or x 1 0; b1 = get_or x 2 0; b2 = get_or x 3 0; b3 = get_or x 4 0 }

module _ (w : Word) (q : ℕ) (x : List ℕ) (es : List Entry) where
  pub relation-one : relation_named (entry_at x ++ es) w ≡ cond (is_named 80 q w x) (some (get_or x 1 0)) (relation_named es w)
  unfolding entry_at is_named relation_named place_of
  relation-one =
      by_kind (get_or x 0 0)
      (λ e a b c. rw a (by-test (same_word (name_at x 2) w) (some (get_or x 1 0)) (relation_named es w)))
      (λ e a b c. rw (a, b))
      (λ e a b c. rw (a, b, c))
      (λ f g h a b c. rw (a, b, c))

  pub attribute-one : attribute_named (entry_at x ++ es) q w ≡ cond (is_named 81 q w x) (some (get_or x 2 0)) (attribute_named es q w)
  unfolding entry_at is_named attribute_named place_of
  attribute-one =
      by_kind (get_or x 0 0)
      (λ e a b c. rw (a, b))
      (λ e a b c. rw (a, b) (by-test (eqb (get_or x 1 0) q && same_word (name_at x 3) w) (some (get_or x 2 0)) (attribute_named es q w)))
      (λ e a b c. rw (a, b, c))
      (λ f g h a b c. rw (a, b, c))

  pub value-one : value_named (entry_at x ++ es) w ≡ cond (is_named 82 q w x) (some (bytes_at x)) (value_named es w)
  unfolding entry_at is_named value_named place_of
  value-one =
      by_kind (get_or x 0 0)
      (λ e a b c. rw (a, c))
      (λ e a b c. rw (a, b, c))
      (λ e a b c. rw (a, b, c) (by-test (same_word (name_at x 5) w) (some (bytes_at x)) (value_named es w)))
      (λ f g h a b c. rw (a, b, c))

-- the three answers, by the place that the search gives
module _ (x : List ℕ) (w : Word) (q at : ℕ) where
  pub relation-none : [] ≡ seek (is_named 80 q w) x → None ≡ found (relation_named (entries x) w)
  unfolding relation_named
  relation-none e = sym (ap found (not-found (λ es. relation_named es w) (is_named 80 q w) (λ y. get_or y 1 0) refl (λ y es. relation-one w q y es) x e))

  pub relation-some : (a : ℕ) → drop at x ≡ seek (is_named 80 q w) x → at < length x → a ≡ get_or x (at + 1) 0 → Some (a, 0, 0, 0) ≡ found (relation_named (entries x) w)
  unfolding relation_named
  relation-some a e h ea = ap (λ (n : ℕ). Some (n, 0, 0, 0)) (ea ∙ sym (get_or-drop at x 1 0)) ∙ sym (ap found (found_some (λ es. relation_named es w) (is_named 80 q w) (λ y. get_or y 1 0) refl (λ y es. relation-one w q y es) x at e h))

  pub attribute-none : [] ≡ seek (is_named 81 q w) x → None ≡ found (attribute_named (entries x) q w)
  unfolding attribute_named
  attribute-none e = sym (ap found (not-found (λ es. attribute_named es q w) (is_named 81 q w) (λ y. get_or y 2 0) refl (λ y es. attribute-one w q y es) x e))

  pub attribute-some : (a : ℕ) → drop at x ≡ seek (is_named 81 q w) x → at < length x → a ≡ get_or x (at + 2) 0 → Some (a, 0, 0, 0) ≡ found (attribute_named (entries x) q w)
  unfolding attribute_named
  attribute-some a e h ea = ap (λ (n : ℕ). Some (n, 0, 0, 0)) (ea ∙ sym (get_or-drop at x 2 0)) ∙ sym (ap found (found_some (λ es. attribute_named es q w) (is_named 81 q w) (λ y. get_or y 2 0) refl (λ y es. attribute-one w q y es) x at e h))

  pub value_none : [] ≡ seek (is_named 82 q w) x → None ≡ valued (value_named (entries x) w)
  unfolding value_named
  value_none e = sym (ap valued (not-found (λ es. value_named es w) (is_named 82 q w) bytes_at refl (λ y es. value-one w q y es) x e))

  pub value-some : (a b c d : ℕ) → drop at x ≡ seek (is_named 82 q w) x → at < length x → a ≡ get_or x (at + 1) 0 → b ≡ get_or x (at + 2) 0 → c ≡ get_or x (at + 3) 0 → d ≡ get_or x (at + 4) 0
      → Some (a, b, c, d) ≡ valued (value_named (entries x) w)
  unfolding value_named
  value-some a b c d e h ea eb ec ed =
      rw (ea, eb, ec, ed, sym (get_or-drop at x 1 0), sym (get_or-drop at x 2 0), sym (get_or-drop at x 3 0), sym (get_or-drop at x 4 0))
      (sym (ap valued (found_some (λ es. value_named es w) (is_named 82 q w) bytes_at refl (λ y es. value-one w q y es) x at e h)))
