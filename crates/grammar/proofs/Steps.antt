-- One record of a condition or a term, and the conditions that are still to be read after it.
use Prim.Native.Nat.{ℕ, suc, ◌+◌, ◌≤◌}
use mathlib.Core.Bool.{Bool, true, false, cond}
use mathlib.Core.List.{List, [], ◌∷◌}
use mathlib.Core.Option.{none, some}
use mathlib.Core.Option as M
use Rattle.std.specs.Prelude.{Option, Some, None}
use mathlib.Core.Path.{◌≡◌, refl, sym, ◌∙◌, ap}
use native.Mathlib.Omega.{arith}
use lib.Dec.{leb}
use borrow.Author.Tests.{le-leb}
use lib.ListN.{length, get_or, drop}
use Rattle.model.specs.Kinds.{Kind, k-range, k-true, k-false, k-not, k-and, k-or, k-compare, k-some, k-constant, k-attribute, k-aggregate, k-permit, kind_of, body_length, child_conditions, child_terms}
use Rattle.model.specs.Syntax.{Condition, Term, NOT, AND, OR, COMPARE, SOME, AGGREGATE, is_operator, is_function}
use Rattle.model.specs.Encoding.{Read, fail, ok, then, need, condition_body, term_body, on_kind, read_condition, read_term}
use Rattle.model.proofs.Sizes.{size, size_t}
use Rattle.kinds.specs.Tables.{conditions_of, terms_of, record_length}
use Rattle.kinds.specs.Record.{record_at, within}
use Rattle.kinds.specs.declared.Record.{Record}
use Rattle.kinds.specs.declared.Record.TheVariants as R
use Rattle.kinds.proofs.Entries.{of_none, of_some}
use Rattle.kinds.specs.Places.{term_at, condition_of, term_of, is_condition, is_term}
use Rattle.grammar.specs.Sizes.{condition_size, term_size, after, followed, many, head_size}
use Rattle.grammar.proofs.Reader.{cut_short, Took, took-condition, took-term, sized, condition-sized, term-sized}

-- a size after two others
pub after-after : (a b : ℕ) (s : Option ℕ) → after a (after b s) ≡ after (a + b) s
after-after a b (Some n) = ap Some (omega arith)
after-after a b None = refl

-- what a record that names a kind is, by the kind
module _ (k : ℕ) (r : List ℕ) (x : Kind) (e : kind_of k ≡ some x) where
  record-at : record_at (k ∷ r) ≡ within x r
  unfolding record_at
  record-at = of_some R.Unknown (λ y. within y r) k x e

  length_at : record_length k ≡ suc (body_length x)
  unfolding record_length
  length_at = of_some 1 (λ y. suc (body_length y)) k x e

  terms-at : terms_of k ≡ child_terms x
  unfolding terms_of
  terms-at = of_some 0 child_terms k x e

  conditions-at : conditions_of k ≡ child_conditions x
  unfolding conditions_of
  conditions-at = of_some 0 child_conditions k x e

unknown-at : (k : ℕ) (r : List ℕ) → kind_of k ≡ none → record_at (k ∷ r) ≡ R.Unknown
unfolding record_at
unknown-at k r e = of_none R.Unknown (λ y. within y r) k e

-- a record that is no condition, or no term, whether it is whole or cut short
no-condition : (b : Bool) (y : Record) (s : Option ℕ) → is_condition (condition_of y) ≡ false → cond (is_condition (condition_of (cond b y R.Short))) s None ≡ None
no-condition true y s h = rw h
no-condition false y s h = refl

no-term : (b : Bool) (y : Record) (s : Option ℕ) → is_term (term_of y) ≡ false → cond (is_term (term_of (cond b y R.Short))) s None ≡ None
no-term true y s h = rw h
no-term false y s h = refl

-- children, read with a bound that is enough; g is the parent, n the bytes of its record
module _ {A B : Type 0} (read : ℕ → List ℕ → Read B) (b : B → ℕ) (child : List ℕ → Option ℕ) (took : (f : ℕ) (q : List ℕ) (x : B) (r : List ℕ) → read f q ≡ ok x r → Took read q x (b x) r)
    (is : (f : ℕ) (q : List ℕ) → length q ≤ f → child q ≡ sized b (read f q)) (a : A → ℕ) (n f : ℕ) (r : List ℕ) (h : length r ≤ f) where
  one : (g : B → A) → ((x : B) → a (g x) ≡ n + b x) → sized a (then (read f r) λ x r. ok (g x) r) ≡ after n (many child 1 r)
  unfolding many
  one g e = rw (is f r h) (go (read f r))
    where
      go : (x : Read B) → sized a (then x λ c r. ok (g c) r) ≡ after n (followed (sized b x) (λ m. Some 0))
      go fail = refl
      go (ok c u) = ap Some (e c ∙ omega arith)

  two : (g : B → B → A) → ((x y : B) → a (g x y) ≡ n + (b x + b y)) → sized a (then (read f r) λ x r. then (read f r) λ y r. ok (g x y) r) ≡ after n (many child 2 r)
  unfolding many
  two g e = rw (is f r h) (go (read f r) refl)
    where
      go2 : (c : B) (y : Read B) → sized a (then y λ d r. ok (g c d) r) ≡ after n (after (b c) (followed (sized b y) (λ m. Some 0)))
      go2 c fail = refl
      go2 c (ok d u) = ap Some (e c d ∙ omega arith)

      go : (x : Read B) → read f r ≡ x
          → sized a (then x λ c r. then (read f r) λ d r. ok (g c d) r) ≡ after n (followed (sized b x) (λ m. followed (child (drop m r)) (λ m. Some 0)))
      go fail p = refl
      go (ok c u) p =
          let t = took f r c u p in
          let l = t.bytes in
          rw (← t.rest, is f u (omega arith)) (go2 c (read f u))

-- a condition by the kind of its record, what follows the kind byte k being r
module _ (f k : ℕ) where
  followed-zero : (s : Option ℕ) → s ≡ followed s (λ m. Some 0)
  followed-zero (Some n) = ap Some (omega arith)
  followed-zero None = refl

  condition-by : (x : Kind) (r : List ℕ) → length r ≤ f
      → sized size (condition_body (λ y. read_condition f y) (λ y. read_term f y) x r)
      ≡ followed (cond (is_condition (condition_of (within x r))) (after (suc (body_length x)) (many term_size (child_terms x) (drop (body_length x) r))) None) (λ n. many condition_size (child_conditions x) (drop n (k ∷ r)))
  unfolding condition_body many size
  condition-by k-true r h = rw (le-leb 0 (length r) (omega arith))
  condition-by k-false r h = rw (le-leb 0 (length r) (omega arith))
  condition-by k-not r h = rw (le-leb 0 (length r) (omega arith)) (one (λ g x. read_condition g x) size condition_size took-condition condition-sized size 1 f r h NOT (λ c. omega arith))
  condition-by k-and r h = rw (le-leb 0 (length r) (omega arith)) (two (λ g x. read_condition g x) size condition_size took-condition condition-sized size 1 f r h AND (λ c d. omega arith))
  condition-by k-or r h = rw (le-leb 0 (length r) (omega arith)) (two (λ g x. read_condition g x) size condition_size took-condition condition-sized size 1 f r h OR (λ c d. omega arith))
  condition-by k-compare [] h = refl
  condition-by k-compare (o ∷ r) h = rw (le-leb 1 (suc (length r)) (omega arith)) (go (is_operator o))
    where
      go : (b : Bool) → sized size (need b (then (read_term f r) λ s r. then (read_term f r) λ t r. ok (COMPARE o s t) r)) ≡ followed (cond b (after 2 (many term_size 2 r)) None) (λ n. Some 0)
      go true = two (λ g x. read_term g x) size_t term_size took-term term-sized size 2 f r (omega arith) (COMPARE o) (λ s t. omega arith) ∙ followed-zero (after 2 (many term_size 2 r))
      go false = refl
  condition-by k-some [] h = refl
  condition-by k-some (v ∷ []) h = refl
  condition-by k-some (v ∷ q ∷ r) h = rw (le-leb 2 (suc (suc (length r))) (omega arith)) (one (λ g x. read_condition g x) size condition_size took-condition condition-sized size 3 f r (omega arith) (SOME v q) (λ c. omega arith))
  condition-by k-constant r h = rw (no-condition (leb 4 (length r)) (R.Constant (get_or r 0 0) (get_or r 1 0) (get_or r 2 0) (get_or r 3 0)) (after 5 (Some 0)) refl)
  condition-by k-attribute r h = rw (no-condition (leb 2 (length r)) (R.Attribute (get_or r 0 0) (get_or r 1 0)) (after 3 (Some 0)) refl)
  condition-by k-aggregate r h = rw (no-condition (leb 4 (length r)) (R.Aggregate (get_or r 0 0) (get_or r 1 0) (get_or r 2 0) (get_or r 3 0)) (after 5 (Some 0)) refl)
  condition-by k-range r h = rw (no-condition (leb 2 (length r)) (R.Range (get_or r 0 0) (get_or r 1 0)) (after 3 (Some 0)) refl)
  condition-by k-permit r h = rw (no-condition (leb 3 (length r)) (R.Permit (get_or r 0 0) (get_or r 1 0) (get_or r 2 0)) (after 4 (Some 0)) refl)

-- a term likewise
module _ (f : ℕ) where
  term-by : (x : Kind) (r : List ℕ) → length r ≤ f
      → sized size_t (term_body (λ y. read_condition f y) (λ y. read_term f y) x r)
      ≡ cond (is_term (term_of (within x r))) (after (suc (body_length x)) (many condition_size (child_conditions x) (drop (body_length x) r))) None
  unfolding term_body many size
  term-by k-constant [] h = refl
  term-by k-constant (a ∷ []) h = refl
  term-by k-constant (a ∷ b ∷ []) h = refl
  term-by k-constant (a ∷ b ∷ c ∷ []) h = refl
  term-by k-constant (a ∷ b ∷ c ∷ d ∷ r) h = rw (le-leb 4 (suc (suc (suc (suc (length r))))) (omega arith))
  term-by k-attribute [] h = refl
  term-by k-attribute (v ∷ []) h = refl
  term-by k-attribute (v ∷ a ∷ r) h = rw (le-leb 2 (suc (suc (length r))) (omega arith))
  term-by k-aggregate [] h = refl
  term-by k-aggregate (g ∷ []) h = ap (sized size_t) (cut_short (is_function g))
  term-by k-aggregate (g ∷ v ∷ []) h = ap (sized size_t) (cut_short (is_function g))
  term-by k-aggregate (g ∷ v ∷ q ∷ []) h = ap (sized size_t) (cut_short (is_function g))
  term-by k-aggregate (g ∷ v ∷ q ∷ a ∷ r) h = rw (le-leb 4 (suc (suc (suc (suc (length r))))) (omega arith)) (go (is_function g))
    where
      go : (b : Bool) → sized size_t (need b (then (read_condition f r) λ c r. ok (AGGREGATE g v q a c) r)) ≡ cond b (after 5 (many condition_size 1 r)) None
      go true = one (λ g x. read_condition g x) size condition_size took-condition condition-sized size_t 5 f r (omega arith) (AGGREGATE g v q a) (λ c. omega arith)
      go false = refl
  term-by k-true r h = rw (no-term (leb 0 (length r)) R.True (Some 1) refl)
  term-by k-false r h = rw (no-term (leb 0 (length r)) R.False (Some 1) refl)
  term-by k-not r h = sym (no-term (leb 0 (length r)) R.Not (after 1 (many condition_size 1 r)) refl)
  term-by k-and r h = sym (no-term (leb 0 (length r)) R.And (after 1 (many condition_size 2 r)) refl)
  term-by k-or r h = sym (no-term (leb 0 (length r)) R.Or (after 1 (many condition_size 2 r)) refl)
  term-by k-compare r h = sym (no-term (leb 1 (length r)) (R.Compare (get_or r 0 0)) (Some 2) refl)
  term-by k-some r h = sym (no-term (leb 2 (length r)) (R.Some (get_or r 0 0) (get_or r 1 0)) (after 3 (many condition_size 1 (drop 2 r))) refl)
  term-by k-range r h = sym (no-term (leb 2 (length r)) (R.Range (get_or r 0 0) (get_or r 1 0)) (Some 3) refl)
  term-by k-permit r h = sym (no-term (leb 3 (length r)) (R.Permit (get_or r 0 0) (get_or r 1 0) (get_or r 2 0)) (after 4 (many condition_size 1 (drop 3 r))) refl)

-- a condition is its first record with its terms, then its children
pub condition-step : (q : List ℕ) → condition_size q ≡ followed (head_size q) (λ n. many condition_size (conditions_of (get_or q 0 0)) (drop n q))
unfolding condition_size head_size read_condition on_kind record_at
condition-step [] = refl
condition-step (k ∷ r) = condition-sized (suc (suc (length r))) (k ∷ r) (omega arith) ∙ go (kind_of k) refl
  where
    go : (o : M.Option Kind) → kind_of k ≡ o
        → sized size (elim o as (λ _. Read Condition) [ none ↦ fail | some x ↦ condition_body (λ y. read_condition (suc (length r)) y) (λ y. read_term (suc (length r)) y) x r ])
        ≡ followed (head_size (k ∷ r)) (λ n. many condition_size (conditions_of k) (drop n (k ∷ r)))
    go none e = rw (unknown-at k r e)
    go (some x) e = rw (record-at k r x e, length_at k r x e, terms-at k r x e, conditions-at k r x e) (condition-by (suc (length r)) k x r (omega arith))

pub term-step : (q : List ℕ) → term_size q ≡ cond (is_term (term_at q)) (after (record_length (get_or q 0 0)) (many condition_size (conditions_of (get_or q 0 0)) (drop (record_length (get_or q 0 0)) q))) None
unfolding term_size read_condition on_kind record_at
term-step [] = refl
term-step (k ∷ r) = term-sized (suc (suc (length r))) (k ∷ r) (omega arith) ∙ go (kind_of k) refl
  where
    go : (o : M.Option Kind) → kind_of k ≡ o
        → sized size_t (elim o as (λ _. Read Term) [ none ↦ fail | some x ↦ term_body (λ y. read_condition (suc (length r)) y) (λ y. read_term (suc (length r)) y) x r ])
        ≡ cond (is_term (term_at (k ∷ r))) (after (record_length k) (many condition_size (conditions_of k) (drop (record_length k) (k ∷ r)))) None
    go none e = rw (unknown-at k r e)
    go (some x) e = rw (record-at k r x e, length_at k r x e, conditions-at k r x e) (term-by (suc (length r)) x r (omega arith))
