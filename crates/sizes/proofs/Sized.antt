-- A table that holds the sizes of a condition's parts, and that a later measuring elsewhere leaves it so.
use mathlib.Core.Path.{◌≡◌, refl, sym, ap, ◌∙◌}
use mathlib.Core.Bool.{Bool, true, false, cond}
use mathlib.Core.List.{List}
use Prim.Native.Nat.{ℕ, ◌+◌, ◌<◌, ◌≤◌}
use native.Mathlib.Nat.{add-zero, add_assoc}
use native.Mathlib.Omega.{arith}
use borrow.Author.Tests.{lt-ltb}
use lib.Dec.{ltb}
use lib.ListN.{length, get_or, drop, set, length-set}
use lib.Seq.{get_or-drop, get_or-set_same, get_or-set_other}
use Rattle.model.specs.Syntax.{Condition, Term, TRUE, FALSE, NOT, AND, OR, COMPARE, SOME, CONSTANT, ATTRIBUTE, AGGREGATE}
use Rattle.model.proofs.Sizes.{size, size_t}
use Rattle.sizes.specs.Measured.{store}
use Rattle.sizes.proofs.Marks.{marks, marks_t}

-- the table holds the size of a condition, and of each of its parts, from its start on
unfoldable mutual
  pub Sized : Condition → List ℕ → Type 0
  Sized TRUE z = get_or z 0 0 ≡ size TRUE
  Sized FALSE z = get_or z 0 0 ≡ size FALSE
  Sized (NOT c) z = (get_or z 0 0 ≡ size (NOT c)) × Sized c (drop 1 z)
  Sized (AND c d) z = (get_or z 0 0 ≡ size (AND c d)) × Sized c (drop 1 z) × Sized d (drop (1 + size c) z)
  Sized (OR c d) z = (get_or z 0 0 ≡ size (OR c d)) × Sized c (drop 1 z) × Sized d (drop (1 + size c) z)
  Sized (COMPARE o s t) z = (get_or z 0 0 ≡ size (COMPARE o s t)) × SizedT s (drop 2 z) × SizedT t (drop (2 + size_t s) z)
  Sized (SOME v r c) z = (get_or z 0 0 ≡ size (SOME v r c)) × Sized c (drop 3 z)

  pub SizedT : Term → List ℕ → Type 0
  SizedT (CONSTANT a b c d) z = get_or z 0 0 ≡ size_t (CONSTANT a b c d)
  SizedT (ATTRIBUTE v a) z = get_or z 0 0 ≡ size_t (ATTRIBUTE v a)
  SizedT (AGGREGATE f v r a c) z = (get_or z 0 0 ≡ size_t (AGGREGATE f v r a c)) × Sized c (drop 5 z)

pub sized-head : (c : Condition) (z : List ℕ) → Sized c z → get_or z 0 0 ≡ size c
unfolding Sized
sized-head TRUE z h = h
sized-head FALSE z h = h
sized-head (NOT c) z h = h.0
sized-head (AND c d) z h = h.0
sized-head (OR c d) z h = h.0
sized-head (COMPARE o s t) z h = h.0
sized-head (SOME v r c) z h = h.0

pub sized-head_t : (t : Term) (z : List ℕ) → SizedT t z → get_or z 0 0 ≡ size_t t
unfolding Sized
sized-head_t (CONSTANT a b c d) z h = h
sized-head_t (ATTRIBUTE v a) z h = h
sized-head_t (AGGREGATE f v r a c) z h = h.0

-- two tables agree below n
abbrev pub Agree : ℕ → List ℕ → List ℕ → Type 0
Agree n y z = (i : ℕ) → i < n → get_or y i 0 ≡ get_or z i 0

pub agree-drop : (a n m : ℕ) (y z : List ℕ) → a + n ≤ m → Agree m y z → Agree n (drop a y) (drop a z)
agree-drop a n m y z h e i l = get_or-drop a y i 0 ∙ e (a + i) (omega arith) ∙ sym (get_or-drop a z i 0)

-- only the entries of the condition's own bytes matter
mutual
  unfolding Sized size

  pub sized_same : (c : Condition) (y z : List ℕ) → Agree (size c) y z → Sized c z → Sized c y
  sized_same TRUE y z e h = e 0 (omega arith) ∙ h
  sized_same FALSE y z e h = e 0 (omega arith) ∙ h
  sized_same (NOT c) y z e h = (e 0 (omega arith) ∙ h.0, sized_same c (drop 1 y) (drop 1 z) (agree-drop 1 (size c) _ y z (omega arith) e) h.1)
  sized_same (AND c d) y z e h = (
    e 0 (omega arith) ∙ h.0,
    sized_same c (drop 1 y) (drop 1 z) (agree-drop 1 (size c) _ y z (omega arith) e) h.1,
    sized_same d (drop (1 + size c) y) (drop (1 + size c) z) (agree-drop (1 + size c) (size d) _ y z (omega arith) e) h.2,
  )
  sized_same (OR c d) y z e h = (
    e 0 (omega arith) ∙ h.0,
    sized_same c (drop 1 y) (drop 1 z) (agree-drop 1 (size c) _ y z (omega arith) e) h.1,
    sized_same d (drop (1 + size c) y) (drop (1 + size c) z) (agree-drop (1 + size c) (size d) _ y z (omega arith) e) h.2,
  )
  sized_same (COMPARE o s t) y z e h = (
    e 0 (omega arith) ∙ h.0,
    sized-same_t s (drop 2 y) (drop 2 z) (agree-drop 2 (size_t s) _ y z (omega arith) e) h.1,
    sized-same_t t (drop (2 + size_t s) y) (drop (2 + size_t s) z) (agree-drop (2 + size_t s) (size_t t) _ y z (omega arith) e) h.2,
  )
  sized_same (SOME v r c) y z e h = (e 0 (omega arith) ∙ h.0, sized_same c (drop 3 y) (drop 3 z) (agree-drop 3 (size c) _ y z (omega arith) e) h.1)

  pub sized-same_t : (t : Term) (y z : List ℕ) → Agree (size_t t) y z → SizedT t z → SizedT t y
  sized-same_t (CONSTANT a b c d) y z e h = e 0 (omega arith) ∙ h
  sized-same_t (ATTRIBUTE v a) y z e h = e 0 (omega arith) ∙ h
  sized-same_t (AGGREGATE f v r a c) y z e h = (e 0 (omega arith) ∙ h.0, sized_same c (drop 5 y) (drop 5 z) (agree-drop 5 (size c) _ y z (omega arith) e) h.1)

-- a store, at its place and elsewhere
store_same : (z : List ℕ) (p n : ℕ) → n < 65536 → p < length z → get_or (store z p n) p 0 ≡ n
unfolding store
store_same z p n h l = simp (lt-ltb _ _ h) (get_or-set_same z p n 0 l)

store_other : (z : List ℕ) (p n i : ℕ) → (i ≡ p → ⊥) → get_or (store z p n) i 0 ≡ get_or z i 0
unfolding store
store_other z p n i h = go (ltb n 65536)
  where
    go : (b : Bool) → get_or (cond b (set z p n) z) i 0 ≡ get_or z i 0
    go true = get_or-set_other z p i n 0 h
    go false = refl

store_length : (z : List ℕ) (p n : ℕ) → length (store z p n) ≡ length z
unfolding store
store_length z p n = go (ltb n 65536)
  where
    go : (b : Bool) → length (cond b (set z p n) z) ≡ length z
    go true = length-set z p n
    go false = refl

mutual
  unfolding marks

  pub marks-length : (c : Condition) (p : ℕ) (z : List ℕ) → length (marks c p z) ≡ length z
  marks-length TRUE p z = store_length _ _ _
  marks-length FALSE p z = store_length _ _ _
  marks-length (NOT c) p z = store_length _ _ _ ∙ marks-length c _ z
  marks-length (AND c d) p z = store_length _ _ _ ∙ marks-length d _ _ ∙ marks-length c _ z
  marks-length (OR c d) p z = store_length _ _ _ ∙ marks-length d _ _ ∙ marks-length c _ z
  marks-length (COMPARE o s t) p z = store_length _ _ _ ∙ marks-length_t t _ _ ∙ marks-length_t s _ z
  marks-length (SOME v r c) p z = store_length _ _ _ ∙ marks-length c _ z

  pub marks-length_t : (t : Term) (p : ℕ) (z : List ℕ) → length (marks_t t p z) ≡ length z
  marks-length_t (CONSTANT a b c d) p z = store_length _ _ _
  marks-length_t (ATTRIBUTE v a) p z = store_length _ _ _
  marks-length_t (AGGREGATE f v r a c) p z = store_length _ _ _ ∙ marks-length c _ z

-- entries before the condition, and after it, are untouched
mutual
  unfolding marks size

  pub marks-before : (c : Condition) (p : ℕ) (z : List ℕ) (i : ℕ) → i < p → get_or (marks c p z) i 0 ≡ get_or z i 0
  marks-before TRUE p z i h = store_other _ p _ i (λ e. omega arith)
  marks-before FALSE p z i h = store_other _ p _ i (λ e. omega arith)
  marks-before (NOT c) p z i h = store_other _ p _ i (λ e. omega arith) ∙ marks-before c (p + 1) z i (omega arith)
  marks-before (AND c d) p z i h = store_other _ p _ i (λ e. omega arith) ∙ marks-before d (p + (1 + size c)) _ i (omega arith) ∙ marks-before c (p + 1) z i (omega arith)
  marks-before (OR c d) p z i h = store_other _ p _ i (λ e. omega arith) ∙ marks-before d (p + (1 + size c)) _ i (omega arith) ∙ marks-before c (p + 1) z i (omega arith)
  marks-before (COMPARE o s t) p z i h = store_other _ p _ i (λ e. omega arith) ∙ marks-before_t t (p + (2 + size_t s)) _ i (omega arith) ∙ marks-before_t s (p + 2) z i (omega arith)
  marks-before (SOME v r c) p z i h = store_other _ p _ i (λ e. omega arith) ∙ marks-before c (p + 3) z i (omega arith)

  pub marks-before_t : (t : Term) (p : ℕ) (z : List ℕ) (i : ℕ) → i < p → get_or (marks_t t p z) i 0 ≡ get_or z i 0
  marks-before_t (CONSTANT a b c d) p z i h = store_other _ p _ i (λ e. omega arith)
  marks-before_t (ATTRIBUTE v a) p z i h = store_other _ p _ i (λ e. omega arith)
  marks-before_t (AGGREGATE f v r a c) p z i h = store_other _ p _ i (λ e. omega arith) ∙ marks-before c (p + 5) z i (omega arith)

mutual
  unfolding marks size

  pub marks-after : (c : Condition) (p : ℕ) (z : List ℕ) (i : ℕ) → p + size c ≤ i → get_or (marks c p z) i 0 ≡ get_or z i 0
  marks-after TRUE p z i h = store_other _ p _ i (λ e. omega arith)
  marks-after FALSE p z i h = store_other _ p _ i (λ e. omega arith)
  marks-after (NOT c) p z i h = store_other _ p _ i (λ e. omega arith) ∙ marks-after c (p + 1) z i (omega arith)
  marks-after (AND c d) p z i h = store_other _ p _ i (λ e. omega arith) ∙ marks-after d (p + (1 + size c)) _ i (omega arith) ∙ marks-after c (p + 1) z i (omega arith)
  marks-after (OR c d) p z i h = store_other _ p _ i (λ e. omega arith) ∙ marks-after d (p + (1 + size c)) _ i (omega arith) ∙ marks-after c (p + 1) z i (omega arith)
  marks-after (COMPARE o s t) p z i h = store_other _ p _ i (λ e. omega arith) ∙ marks-after_t t (p + (2 + size_t s)) _ i (omega arith) ∙ marks-after_t s (p + 2) z i (omega arith)
  marks-after (SOME v r c) p z i h = store_other _ p _ i (λ e. omega arith) ∙ marks-after c (p + 3) z i (omega arith)

  pub marks-after_t : (t : Term) (p : ℕ) (z : List ℕ) (i : ℕ) → p + size_t t ≤ i → get_or (marks_t t p z) i 0 ≡ get_or z i 0
  marks-after_t (CONSTANT a b c d) p z i h = store_other _ p _ i (λ e. omega arith)
  marks-after_t (ATTRIBUTE v a) p z i h = store_other _ p _ i (λ e. omega arith)
  marks-after_t (AGGREGATE f v r a c) p z i h = store_other _ p _ i (λ e. omega arith) ∙ marks-after c (p + 5) z i (omega arith)

-- a record whose size has been stored, and its children
module _ (w : List ℕ) (p n : ℕ) where
  own : (m : ℕ) → n ≡ m → n < 65536 → p < length w → get_or (drop p (store w p n)) 0 0 ≡ m
  own m e h l = get_or-drop p (store w p n) 0 0 ∙ ap (λ i. get_or (store w p n) i 0) (add-zero p) ∙ store_same w p n h l ∙ e

  child : (a m : ℕ) → 1 ≤ a → Agree m (drop a (drop p (store w p n))) (drop (p + a) w)
  child a m h i l =
      get_or-drop a (drop p (store w p n)) i 0 ∙ get_or-drop p (store w p n) (a + i) 0
      ∙ store_other w p n (p + (a + i)) (λ e. omega arith)
      ∙ ap (λ j. get_or w j 0) (sym (add_assoc p a i)) ∙ sym (get_or-drop (p + a) w i 0)

mutual
  unfolding marks size Sized

  -- the condition that was measured has its sizes in the table
  pub marks-sized : (c : Condition) (p : ℕ) (z : List ℕ) → p + size c ≤ length z → size c < 65536 → Sized c (drop p (marks c p z))
  marks-sized TRUE p z h k = own z p 1 1 refl (omega arith) (omega arith)
  marks-sized FALSE p z h k = own z p 1 1 refl (omega arith) (omega arith)
  marks-sized (NOT c) p z h k =
      let w : List ℕ = marks c (p + 1) z in (
        own w p (1 + size c) _ (omega arith) (omega arith) (omega (arith, marks-length c (p + 1) z)),
        sized_same c _ (drop (p + 1) w) (child w p (1 + size c) 1 (size c) (omega arith)) (marks-sized c (p + 1) z (omega arith) (omega arith)),
      )
  marks-sized (AND c d) p z h k =
      let y : List ℕ = marks c (p + 1) z in
      let p' : ℕ = p + (1 + size c) in
      let w : List ℕ = marks d p' y in
      let n : ℕ = 1 + size c + size d in (
        own w p n _ (omega arith) (omega arith) (omega (arith, marks-length c (p + 1) z, marks-length d p' y)),
        sized_same c _ (drop (p + 1) w) (child w p n 1 (size c) (omega arith))
            (sized_same c _ (drop (p + 1) y) (agree-drop (p + 1) (size c) p' w y (omega arith) (marks-before d p' y)) (marks-sized c (p + 1) z (omega arith) (omega arith))),
        sized_same d _ (drop p' w) (child w p n (1 + size c) (size d) (omega arith)) (marks-sized d p' y (omega (arith, marks-length c (p + 1) z)) (omega arith)),
      )
  marks-sized (OR c d) p z h k =
      let y : List ℕ = marks c (p + 1) z in
      let p' : ℕ = p + (1 + size c) in
      let w : List ℕ = marks d p' y in
      let n : ℕ = 1 + size c + size d in (
        own w p n _ (omega arith) (omega arith) (omega (arith, marks-length c (p + 1) z, marks-length d p' y)),
        sized_same c _ (drop (p + 1) w) (child w p n 1 (size c) (omega arith))
            (sized_same c _ (drop (p + 1) y) (agree-drop (p + 1) (size c) p' w y (omega arith) (marks-before d p' y)) (marks-sized c (p + 1) z (omega arith) (omega arith))),
        sized_same d _ (drop p' w) (child w p n (1 + size c) (size d) (omega arith)) (marks-sized d p' y (omega (arith, marks-length c (p + 1) z)) (omega arith)),
      )
  marks-sized (COMPARE o s t) p z h k =
      let y : List ℕ = marks_t s (p + 2) z in
      let p' : ℕ = p + (2 + size_t s) in
      let w : List ℕ = marks_t t p' y in
      let n : ℕ = 2 + size_t s + size_t t in (
        own w p n _ (omega arith) (omega arith) (omega (arith, marks-length_t s (p + 2) z, marks-length_t t p' y)),
        sized-same_t s _ (drop (p + 2) w) (child w p n 2 (size_t s) (omega arith))
            (sized-same_t s _ (drop (p + 2) y) (agree-drop (p + 2) (size_t s) p' w y (omega arith) (marks-before_t t p' y)) (marks-sized_t s (p + 2) z (omega arith) (omega arith))),
        sized-same_t t _ (drop p' w) (child w p n (2 + size_t s) (size_t t) (omega arith)) (marks-sized_t t p' y (omega (arith, marks-length_t s (p + 2) z)) (omega arith)),
      )
  marks-sized (SOME v r c) p z h k =
      let w : List ℕ = marks c (p + 3) z in (
        own w p (3 + size c) _ (omega arith) (omega arith) (omega (arith, marks-length c (p + 3) z)),
        sized_same c _ (drop (p + 3) w) (child w p (3 + size c) 3 (size c) (omega arith)) (marks-sized c (p + 3) z (omega arith) (omega arith)),
      )

  pub marks-sized_t : (t : Term) (p : ℕ) (z : List ℕ) → p + size_t t ≤ length z → size_t t < 65536 → SizedT t (drop p (marks_t t p z))
  marks-sized_t (CONSTANT a b c d) p z h k = own z p 5 5 refl (omega arith) (omega arith)
  marks-sized_t (ATTRIBUTE v a) p z h k = own z p 3 3 refl (omega arith) (omega arith)
  marks-sized_t (AGGREGATE f v r a c) p z h k =
      let w : List ℕ = marks c (p + 5) z in (
        own w p (5 + size c) _ (omega arith) (omega arith) (omega (arith, marks-length c (p + 5) z)),
        sized_same c _ (drop (p + 5) w) (child w p (5 + size c) 5 (size c) (omega arith)) (marks-sized c (p + 5) z (omega arith) (omega arith)),
      )
