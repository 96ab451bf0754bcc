-- One level of filling the memo as an equation.
use mathlib.Core.Path.{◌≡◌, refl, sym, ap, ap₂, ◌∙◌}
use mathlib.Core.List.{List, [], ◌∷◌}
use Prim.Native.Nat.{ℕ, zero, suc, ◌+◌, ◌-◌}
use native.Mathlib.Numerals.{sub-one}
use lib.IntN.{ℤ}
use lib.ListN.{get_or, drop}
use denote.Enum.Declared.{tag_of, declared}
use types.Run.{OneOf, miss}
use Rattle.model.specs.Syntax.{Condition, Term}
use Rattle.model.specs.Meaning.{Assignment, Rows, Value}
use Rattle.kinds.specs.contracts.ConditionRecord as a-condition
use Rattle.kinds.specs.Tables.{record_length}
use Rattle.kinds.specs.Places.{condition_at, term_at}
use Rattle.kinds.specs.declared.ConditionRecord.{ConditionRecord}
use Rattle.kinds.specs.declared.ConditionRecord.TheVariants as C
use Rattle.kinds.specs.declared.TermRecord.{TermRecord}
use Rattle.kinds.specs.declared.TermRecord.TheVariants as T
use Rattle.numbers.specs.Memo.{remembered}
use Rattle.sizes.specs.Decode.{first, second, condition_by, term_by, decode, decode_t}
use Rattle.sizes.specs.Parts.{targets_at}
use Rattle.numbers.specs.Recalled.{value_by}
use Rattle.walks.specs.Walks.{rows_by}
use Rattle.evaluator.specs.Evaluation.{value_at}
use Rattle.walks.specs.Assigned.{assigned}
use Rattle.aggregates.specs.Filled.{filled_c, filled_t, filled_ts}

module _ (S : Rows) (e : Assignment) (q z : List ℕ) (m : List ℤ) where
  pub none_left : (l : ℕ) → l ≡ 0 → m ≡ filled_c (decode l q z) S e m
  unfolding decode filled_c
  none_left l h = rw h

  pub none-left_t : (l : ℕ) → l ≡ 0 → m ≡ filled_t (decode_t l q z) S e m
  unfolding decode filled_c
  none-left_t l h = rw h

  -- by the record that q starts with
  filled_is : (l : ℕ) (r : ConditionRecord) → (l ≡ 0 → ⊥) → r ≡ condition_at q → filled_c (condition_by r (λ x y. decode (l - 1) x y) (λ x y. decode_t (l - 1) x y) q z) S e m ≡ filled_c (decode l q z) S e m
  unfolding decode
  filled_is zero r h k = absurd (h refl)
  filled_is (suc l) r h k = rw (sub-one, k)

  filled_t-is : (l : ℕ) (r : TermRecord) → (l ≡ 0 → ⊥) → r ≡ term_at q → filled_t (term_by r (λ x y. decode (l - 1) x y) q z) S e m ≡ filled_t (decode_t l q z) S e m
  unfolding decode
  filled_t-is zero r h k = absurd (h refl)
  filled_t-is (suc l) r h k = rw (sub-one, k)

  decoded : (l : ℕ) (r : TermRecord) → (l ≡ 0 → ⊥) → r ≡ term_at q → decode_t l q z ≡ term_by r (λ x y. decode (l - 1) x y) q z
  unfolding decode
  decoded zero r h k = absurd (h refl)
  decoded (suc l) r h k = rw (sub-one, k)

  module _ (l k a : ℕ) (r : ConditionRecord) (nz : l ≡ 0 → ⊥) (ek : k ≡ get_or q 0 0) (ea : a ≡ record_length k) (er : r ≡ condition_at q) (x y : List ℕ) (ex : x ≡ drop a q) (ey : y ≡ drop a z) where
    at_first : a ≡ first q
    at_first = ea ∙ ap record_length ek

    child : (w : List ℤ) → filled_c (decode (l - 1) x y) S e w ≡ filled_c (decode (l - 1) (drop (first q) q) (drop (first q) z)) S e w
    child w = ap₂ (λ (i j : List ℕ). filled_c (decode (l - 1) i j) S e w) (ex ∙ ap (λ n. drop n q) at_first) (ey ∙ ap (λ n. drop n z) at_first)

    child_t : (w : List ℤ) → filled_t (decode_t (l - 1) x y) S e w ≡ filled_t (decode_t (l - 1) (drop (first q) q) (drop (first q) z)) S e w
    child_t w = ap₂ (λ (i j : List ℕ). filled_t (decode_t (l - 1) i j) S e w) (ex ∙ ap (λ n. drop n q) at_first) (ey ∙ ap (λ n. drop n z) at_first)

    pub not_is : (o : List ℤ) → r ≡ C.Not → o ≡ filled_c (decode (l - 1) x y) S e m → o ≡ filled_c (decode l q z) S e m
    unfolding filled_c
    not_is o h eo = eo ∙ child m ∙ filled_is l C.Not nz (sym h ∙ er)

    pub some_is : (v s : ℕ) (o : List ℤ) → r ≡ C.Some v s → o ≡ filled_c (decode (l - 1) x y) S e m → o ≡ filled_c (decode l q z) S e m
    unfolding filled_c
    some_is v s o h eo = eo ∙ child m ∙ filled_is l (C.Some v s) nz (sym h ∙ er)

    module _ (s b : ℕ) (u w : List ℕ) (es : s ≡ get_or z a 0) (eb : b ≡ a + s) (eu : u ≡ drop b q) (ew : w ≡ drop b z) where
      at_second : b ≡ second q z
      at_second = eb ∙ ap (λ n. a + n) es ∙ ap (λ n. n + get_or z n 0) at_first

      next : (v : List ℤ) → filled_c (decode (l - 1) u w) S e v ≡ filled_c (decode (l - 1) (drop (second q z) q) (drop (second q z) z)) S e v
      next v = ap₂ (λ (i j : List ℕ). filled_c (decode (l - 1) i j) S e v) (eu ∙ ap (λ n. drop n q) at_second) (ew ∙ ap (λ n. drop n z) at_second)

      next_t : (v : List ℤ) → filled_t (decode_t (l - 1) u w) S e v ≡ filled_t (decode_t (l - 1) (drop (second q z) q) (drop (second q z) z)) S e v
      next_t v = ap₂ (λ (i j : List ℕ). filled_t (decode_t (l - 1) i j) S e v) (eu ∙ ap (λ n. drop n q) at_second) (ew ∙ ap (λ n. drop n z) at_second)

      -- both children; the places are as they were between them
      module _ (n o : List ℤ) (e₁ : Assignment) (ee : e₁ ≡ e) where
        module _ (en : n ≡ filled_c (decode (l - 1) x y) S e m) (eo : o ≡ filled_c (decode (l - 1) u w) S e₁ n) where
          both : o ≡ filled_c (decode (l - 1) (drop (second q z) q) (drop (second q z) z)) S e (filled_c (decode (l - 1) (drop (first q) q) (drop (first q) z)) S e m)
          both = eo ∙ ap₂ (λ (i : Assignment) (j : List ℤ). filled_c (decode (l - 1) u w) S i j) ee (en ∙ child m) ∙ next _

          pub and_is : r ≡ C.And → o ≡ filled_c (decode l q z) S e m
          unfolding filled_c
          and_is h = both ∙ filled_is l C.And nz (sym h ∙ er)

          pub or_is : r ≡ C.Or → o ≡ filled_c (decode l q z) S e m
          unfolding filled_c
          or_is h = both ∙ filled_is l C.Or nz (sym h ∙ er)

        pub compare-is : (p : ℕ) → r ≡ C.Compare p → n ≡ filled_t (decode_t (l - 1) x y) S e m → o ≡ filled_t (decode_t (l - 1) u w) S e₁ n → o ≡ filled_c (decode l q z) S e m
        unfolding filled_c
        compare-is p h en eo =
            eo ∙ ap₂ (λ (i : Assignment) (j : List ℤ). filled_t (decode_t (l - 1) u w) S i j) ee (en ∙ child_t m) ∙ next_t _ ∙ filled_is l (C.Compare p) nz (sym h ∙ er)

  module _ (l k a : ℕ) (r : TermRecord) (nz : l ≡ 0 → ⊥) (ek : k ≡ get_or q 0 0) (ea : a ≡ record_length k) (er : r ≡ term_at q) (x y : List ℕ) (ex : x ≡ drop a q) (ey : y ≡ drop a z) where
    inner : filled_c (decode (l - 1) x y) S e m ≡ filled_c (decode (l - 1) (drop (first q) q) (drop (first q) z)) S e m
    inner =
        let at_first = ea ∙ ap record_length ek in
        ap₂ (λ (i j : List ℕ). filled_c (decode (l - 1) i j) S e m) (ex ∙ ap (λ n. drop n q) at_first) (ey ∙ ap (λ n. drop n z) at_first)

    -- an aggregate: its condition, then itself
    pub aggregate-is : (f v s t : ℕ) (n o : List ℤ) (u : Value) → r ≡ T.Aggregate f v s t → n ≡ filled_c (decode (l - 1) x y) S e m → u ≡ value_by n (decode_t l q z) S e → o ≡ remembered n v u
        → o ≡ filled_t (decode_t l q z) S e m
    unfolding filled_c
    aggregate-is f v s t n o u h en eu eo =
        let p : n ≡ filled_c (decode (l - 1) (drop (first q) q) (drop (first q) z)) S e m = en ∙ inner in
        eo ∙ ap (remembered n v) eu
        ∙ ap (λ (j : List ℤ). remembered j v (value_by j (decode_t l q z) S e)) p
        ∙ ap (λ (i : Term). remembered (filled_c (decode (l - 1) (drop (first q) q) (drop (first q) z)) S e m) v (value_by (filled_c (decode (l - 1) (drop (first q) q) (drop (first q) z)) S e m) i S e)) (decoded l (T.Aggregate f v s t) nz (sym h ∙ er))
        ∙ filled_t-is l (T.Aggregate f v s t) nz (sym h ∙ er)

-- other records bind no aggregate
rest-condition : (f : List ℕ → List ℕ → Condition) (g : List ℕ → List ℕ → Term) (q z : List ℕ) (r : ConditionRecord) (S : Rows) (e : Assignment) (m : List ℤ)
    → OneOf (0 ∷ 1 ∷ 7 ∷ []) (tag_of (declared a-condition.enum) r) → filled_c (condition_by r f g q z) S e m ≡ m
unfolding filled_c
rest-condition f g q z C.True S e m h = refl
rest-condition f g q z C.False S e m h = refl
rest-condition f g q z C.Not S e m h = absurd (miss (0 ∷ 1 ∷ 7 ∷ []) 2 tt h)
rest-condition f g q z C.And S e m h = absurd (miss (0 ∷ 1 ∷ 7 ∷ []) 3 tt h)
rest-condition f g q z C.Or S e m h = absurd (miss (0 ∷ 1 ∷ 7 ∷ []) 4 tt h)
rest-condition f g q z (C.Compare o) S e m h = absurd (miss (0 ∷ 1 ∷ 7 ∷ []) 5 tt h)
rest-condition f g q z (C.Some v r) S e m h = absurd (miss (0 ∷ 1 ∷ 7 ∷ []) 6 tt h)
rest-condition f g q z C.Other S e m h = refl

pub no-aggregate : (S : Rows) (e : Assignment) (q z : List ℕ) (m : List ℤ) (l : ℕ) (r : ConditionRecord) → (l ≡ 0 → ⊥) → r ≡ condition_at q → OneOf (0 ∷ 1 ∷ 7 ∷ []) (tag_of (declared a-condition.enum) r)
    → m ≡ filled_c (decode l q z) S e m
no-aggregate S e q z m l r nz er h = sym (rest-condition (λ x y. decode (l - 1) x y) (λ x y. decode_t (l - 1) x y) q z r S e m h) ∙ filled_is S e q z m l r nz er

rest-term : (f : List ℕ → List ℕ → Condition) (q z : List ℕ) (r : TermRecord) (S : Rows) (e : Assignment) (m : List ℤ) → ((k v w a : ℕ) → r ≡ T.Aggregate k v w a → ⊥) → filled_t (term_by r f q z) S e m ≡ m
unfolding filled_c
rest-term f q z (T.Constant a b c d) S e m h = refl
rest-term f q z (T.Attribute v a) S e m h = refl
rest-term f q z (T.Aggregate k v r a) S e m h = absurd (h k v r a refl)
rest-term f q z T.Other S e m h = refl

pub no-term : (S : Rows) (e : Assignment) (q z : List ℕ) (m : List ℤ) (l : ℕ) (r : TermRecord) → (l ≡ 0 → ⊥) → r ≡ term_at q → ((k v w a : ℕ) → r ≡ T.Aggregate k v w a → ⊥)
    → m ≡ filled_t (decode_t l q z) S e m
no-term S e q z m l r nz er h = sym (rest-term (λ x y. decode (l - 1) x y) q z r S e m h) ∙ filled_t-is S e q z m l r nz er

module _ (S : Rows) (e : Assignment) (q z : List ℕ) (m : List ℤ) (left l : ℕ) where
  pub targets-none : left ≡ 0 → m ≡ filled_ts (targets_at left l q z) S e m
  unfolding targets_at filled_ts
  targets-none h = rw h

  pub targets-more : (n : ℕ) (u v : List ℕ) (w o : List ℤ) (e₁ : Assignment) → (left ≡ 0 → ⊥) → w ≡ filled_t (decode_t l q z) S e m → n ≡ get_or z 0 0 → u ≡ drop n q → v ≡ drop n z → e₁ ≡ e
      → o ≡ filled_ts (targets_at (left - 1) l u v) S e₁ w → o ≡ filled_ts (targets_at left l q z) S e m
  unfolding targets_at filled_ts
  targets-more n u v w o e₁ nz ew en eu ev ee eo = go left nz eo
    where
      go : (k : ℕ) → (k ≡ 0 → ⊥) → o ≡ filled_ts (targets_at (k - 1) l u v) S e₁ w → o ≡ filled_ts (targets_at k l q z) S e m
      go zero h f = absurd (h refl)
      go (suc k) h f = f ∙ rw (sub-one, ee, eu, ev, en, ew)

-- what the evaluator gives, where the places are as they were
pub term_is : (l : ℕ) (q z ws : List ℕ) (vs n : List ℤ) (e e₁ : List ℕ) (u : Value) → e₁ ≡ e → u ≡ value_at l q z ws vs n e₁ → u ≡ value_by n (decode_t l q z) (rows_by ws vs) (assigned vs e)
unfolding value_at
term_is l q z ws vs n e e₁ u ee eu = eu ∙ ap (λ (i : List ℕ). value_by n (decode_t l q z) (rows_by ws vs) (assigned vs i)) ee
