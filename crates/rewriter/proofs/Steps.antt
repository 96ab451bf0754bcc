-- One level of the rewriting, by the record that was read.
use mathlib.Core.Path.{◌≡◌, refl, sym, ap, ◌∙◌}
use mathlib.Core.List.{List, [], ◌∷◌, ◌++◌}
use Prim.Native.Nat.{ℕ, ◌+◌, ◌-◌}
use native.Mathlib.Nat.{add_comm}
use lib.ListN.{drop}
use denote.Enum.Declared.{tag_of, declared}
use types.Run.{OneOf, miss}
use Rattle.model.specs.Lists.{total}
use Rattle.model.proofs.Lists.{total-append}
use Rattle.model.specs.Syntax.{Condition, Term, TRUE, FALSE, CONSTANT, ATTRIBUTE, AGGREGATE, Binding, bindings, bindings_t}
use Rattle.kinds.specs.Places.{condition_at, term_at}
use Rattle.kinds.specs.declared.ConditionRecord.{ConditionRecord}
use Rattle.kinds.specs.declared.ConditionRecord.TheVariants as C
use Rattle.kinds.specs.declared.TermRecord.{TermRecord}
use Rattle.kinds.specs.declared.TermRecord.TheVariants as T
use Rattle.kinds.specs.contracts.ConditionRecord.{enum}
use Rattle.sizes.specs.Decode.{first, decode, decode_t, condition_by, nothing}
use Rattle.sizes.proofs.Decoding.{decode-zero, decode-step, decode_t-zero, decode_t-step}
use Rattle.copier.specs.Guard.{guard_new}
use Rattle.rewriter.specs.Rewritten.{mask_of, new_of, rewritten, rewritten_t, condition_bytes, condition_new, term_bytes, term_new, from, both_bytes, both_new, under_bytes, under_new}
use Rattle.rewriter.proofs.Runs.{Shape, Leaf}

module _ (masks : List ℕ) (f : ℕ → List ℕ) where
  pub new-append : (xs ys : List Binding) → new_of masks f (xs ++ ys) ≡ new_of masks f xs + new_of masks f ys
  unfolding new_of
  new-append xs ys = total-append (λ (b : Binding). guard_new (mask_of masks f b.variable) f) xs ys

  pub new-cons : (v r : ℕ) (bs : List Binding) → new_of masks f (record { variable = v; relation = r } ∷ bs) ≡ new_of masks f bs + guard_new (mask_of masks f v) f
  unfolding new_of total
  new-cons v r bs = add_comm (guard_new (mask_of masks f v) f) (new_of masks f bs)

  pub new_none : new_of masks f [] ≡ 0
  unfolding new_of total
  new_none = refl

  module _ (l : ℕ) (q z : List ℕ) where
    abbrev W : ℕ → List ℕ
    W n = condition_bytes masks f l q z n

    abbrev K : ℕ
    K = condition_new masks f l q z

    abbrev U : ℕ → List ℕ
    U n = term_bytes masks f l q z n

    abbrev J : ℕ
    J = term_new masks f l q z

    leaf : (c : Condition) (w : List ℕ) → decode l q z ≡ c → ((n : ℕ) → rewritten masks f c n ≡ w) → bindings c ≡ [] → Leaf W K w
    leaf c w e p b = record { bytes = λ n. ap (λ (x : Condition). rewritten masks f x n) e ∙ p n; numbers = ap (λ (x : Condition). new_of masks f (bindings x)) e ∙ ap (new_of masks f) b ∙ new_none }

    leaf_t : (t : Term) (w : List ℕ) → decode_t l q z ≡ t → ((n : ℕ) → rewritten_t masks f t n ≡ w) → bindings_t t ≡ [] → Leaf U J w
    leaf_t t w e p b = record { bytes = λ n. ap (λ (x : Term). rewritten_t masks f x n) e ∙ p n; numbers = ap (λ (x : Term). new_of masks f (bindings_t x)) e ∙ ap (new_of masks f) b ∙ new_none }

    shape : (c : Condition) (w : List ℕ) (b : ℕ → List ℕ) (k : ℕ) → decode l q z ≡ c → ((n : ℕ) → rewritten masks f c n ≡ w ++ b n) → new_of masks f (bindings c) ≡ k → Shape W K w b k
    shape c w b k e p i = record { bytes = λ n. ap (λ (x : Condition). rewritten masks f x n) e ∙ p n; numbers = ap (λ (x : Condition). new_of masks f (bindings x)) e ∙ i }

    pub zero-leaf : l ≡ 0 → Leaf W K (17 ∷ [])
    unfolding rewritten bindings
    zero-leaf h = leaf FALSE (17 ∷ []) (decode-zero l q z h) (λ n. refl) refl

    pub zero-leaf_t : l ≡ 0 → Leaf U J (32 ∷ 0 ∷ 0 ∷ 0 ∷ 0 ∷ [])
    unfolding rewritten bindings
    zero-leaf_t h = leaf_t nothing (32 ∷ 0 ∷ 0 ∷ 0 ∷ 0 ∷ []) (decode_t-zero l q z h) (λ n. refl) refl

    module _ (h : l ≡ 0 → ⊥) where
      pub true-leaf : condition_at q ≡ C.True → Leaf W K (16 ∷ [])
      unfolding rewritten bindings
      true-leaf e = leaf TRUE (16 ∷ []) (decode-step l q z C.True h e) (λ n. refl) refl

      pub not-shape : condition_at q ≡ C.Not → Shape W K (18 ∷ []) (λ n. from (condition_bytes masks f (l - 1)) (first q) q z n) (from (condition_new masks f (l - 1)) (first q) q z)
      unfolding rewritten bindings
      not-shape e = shape _ (18 ∷ []) _ _ (decode-step l q z C.Not h e) (λ n. refl) refl

      pub and-shape : condition_at q ≡ C.And → Shape W K (19 ∷ []) (λ n. both_bytes (condition_bytes masks f (l - 1)) (condition_new masks f (l - 1)) q z n) (both_new (condition_new masks f (l - 1)) q z)
      unfolding rewritten bindings
      and-shape e = shape _ (19 ∷ []) _ _ (decode-step l q z C.And h e) (λ n. refl) (new-append _ _)

      pub or_shape : condition_at q ≡ C.Or → Shape W K (20 ∷ []) (λ n. both_bytes (condition_bytes masks f (l - 1)) (condition_new masks f (l - 1)) q z n) (both_new (condition_new masks f (l - 1)) q z)
      unfolding rewritten bindings
      or_shape e = shape _ (20 ∷ []) _ _ (decode-step l q z C.Or h e) (λ n. refl) (new-append _ _)

      pub compare-shape : (o : ℕ) → condition_at q ≡ C.Compare o → Shape W K (21 ∷ o ∷ []) (λ n. both_bytes (term_bytes masks f (l - 1)) (term_new masks f (l - 1)) q z n) (both_new (term_new masks f (l - 1)) q z)
      unfolding rewritten bindings
      compare-shape o e = shape _ (21 ∷ o ∷ []) _ _ (decode-step l q z (C.Compare o) h e) (λ n. refl) (new-append _ _)

      pub some-shape : (v r : ℕ) → condition_at q ≡ C.Some v r → Shape W K (22 ∷ v ∷ r ∷ []) (λ n. under_bytes masks f v (l - 1) q z n) (under_new masks f v (l - 1) q z)
      unfolding rewritten bindings
      some-shape v r e = shape _ (22 ∷ v ∷ r ∷ []) _ _ (decode-step l q z (C.Some v r) h e) (λ n. refl) (new-cons v r _)

      pub constant-leaf : (a b c d : ℕ) → term_at q ≡ T.Constant a b c d → Leaf U J (32 ∷ a ∷ b ∷ c ∷ d ∷ [])
      unfolding rewritten bindings
      constant-leaf a b c d e = leaf_t (CONSTANT a b c d) (32 ∷ a ∷ b ∷ c ∷ d ∷ []) (decode_t-step l q z (T.Constant a b c d) h e) (λ n. refl) refl

      pub attribute-leaf : (v a : ℕ) → term_at q ≡ T.Attribute v a → Leaf U J (33 ∷ v ∷ a ∷ [])
      unfolding rewritten bindings
      attribute-leaf v a e = leaf_t (ATTRIBUTE v a) (33 ∷ v ∷ a ∷ []) (decode_t-step l q z (T.Attribute v a) h e) (λ n. refl) refl

      pub aggregate-shape : (g v r a : ℕ) → term_at q ≡ T.Aggregate g v r a → Shape U J (34 ∷ g ∷ v ∷ r ∷ a ∷ []) (λ n. under_bytes masks f v (l - 1) q z n) (under_new masks f v (l - 1) q z)
      unfolding rewritten bindings
      aggregate-shape g v r a e =
          let p : decode_t l q z ≡ AGGREGATE g v r a (decode (l - 1) (drop (first q) q) (drop (first q) z)) = decode_t-step l q z (T.Aggregate g v r a) h e in
          record { bytes = λ n. ap (λ (x : Term). rewritten_t masks f x n) p; numbers = ap (λ (x : Term). new_of masks f (bindings_t x)) p ∙ new-cons v r _ }

-- any other record is FALSE, or the constant 0
module _ (c : List ℕ → List ℕ → Condition) (t : List ℕ → List ℕ → Term) (q z : List ℕ) where
  no-condition : (r : ConditionRecord) → OneOf (1 ∷ 7 ∷ []) (tag_of (declared enum) r) → condition_by r c t q z ≡ FALSE
  no-condition C.True h = absurd (miss (1 ∷ 7 ∷ []) 0 tt h)
  no-condition C.False h = refl
  no-condition C.Not h = absurd (miss (1 ∷ 7 ∷ []) 2 tt h)
  no-condition C.And h = absurd (miss (1 ∷ 7 ∷ []) 3 tt h)
  no-condition C.Or h = absurd (miss (1 ∷ 7 ∷ []) 4 tt h)
  no-condition (C.Compare o) h = absurd (miss (1 ∷ 7 ∷ []) 5 tt h)
  no-condition (C.Some v r) h = absurd (miss (1 ∷ 7 ∷ []) 6 tt h)
  no-condition C.Other h = refl

module _ (masks : List ℕ) (f : ℕ → List ℕ) (l : ℕ) (q z : List ℕ) (h : l ≡ 0 → ⊥) where
  pub rest-leaf : (r : ConditionRecord) → r ≡ condition_at q → OneOf (1 ∷ 7 ∷ []) (tag_of (declared enum) r) → Leaf (W masks f l q z) (K masks f l q z) (17 ∷ [])
  unfolding rewritten bindings
  rest-leaf r e o = leaf masks f l q z FALSE (17 ∷ []) (decode-step l q z r h (sym e) ∙ no-condition (λ x y. decode (l - 1) x y) (λ x y. decode_t (l - 1) x y) q z r o) (λ n. refl) refl

  pub rest-leaf_t : (r : TermRecord) → r ≡ term_at q → r ≡ T.Other → Leaf (U masks f l q z) (J masks f l q z) (32 ∷ 0 ∷ 0 ∷ 0 ∷ 0 ∷ [])
  unfolding rewritten bindings
  rest-leaf_t r e o = leaf_t masks f l q z nothing (32 ∷ 0 ∷ 0 ∷ 0 ∷ 0 ∷ []) (decode_t-step l q z T.Other h (sym e ∙ o)) (λ n. refl) refl
