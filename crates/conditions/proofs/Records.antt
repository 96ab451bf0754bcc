-- The bytes that a record was read from.
use mathlib.Core.Path.{◌≡◌, refl, sym, ap, ap₂, ◌∙◌, subst}
use mathlib.Core.Bool.{Bool, true, false}
use mathlib.Core.List.{List, [], ◌∷◌}
use mathlib.Core.Option.{Option, none, some}
use Prim.Native.Nat.{ℕ, ◌+◌, ◌≤◌}
use native.Mathlib.Omega.{arith}
use lib.Dec.{leb}
use lib.ListN.{length, get_or, drop, length-drop}
use borrow.Author.Tests.{leb-true, leb-false}
use denote.Enum.Declared.{tag_of, declared}
use types.Run.{OneOf, miss}
use Rattle.kinds.specs.contracts.ConditionRecord.{enum}
use Rattle.model.specs.Kinds.{Kind, k-range, k-true, k-false, k-not, k-and, k-or, k-compare, k-some, k-constant, k-attribute, k-aggregate, k-permit, kinds, code, body_length, kind_of, find}
use Rattle.model.proofs.Reading.{find-inv}
use Rattle.kinds.specs.Tables.{of_kind, record_length}
use Rattle.kinds.specs.Record.{record_at, filled, within}
use Rattle.kinds.specs.declared.Record.{Record}
use Rattle.kinds.specs.declared.Record.TheVariants as R
use Rattle.kinds.specs.Places.{condition_of, term_of, condition_at, term_at}
use Rattle.kinds.specs.declared.ConditionRecord.{ConditionRecord}
use Rattle.kinds.specs.declared.ConditionRecord.TheVariants as C
use Rattle.kinds.specs.declared.TermRecord.{TermRecord}
use Rattle.kinds.specs.declared.TermRecord.TheVariants as T
use Rattle.kinds.proofs.Entries.{of_none}
use Rattle.kinds.proofs.Records.{whole-record, short-record}

-- bytes that start with a record of a condition, or of a term; nothing is said of the others
abbrev pub Starts : ConditionRecord → List ℕ → Type 0
Starts C.True x = x ≡ 16 ∷ drop 1 x
Starts C.False x = x ≡ 17 ∷ drop 1 x
Starts C.Not x = x ≡ 18 ∷ drop 1 x
Starts C.And x = x ≡ 19 ∷ drop 1 x
Starts C.Or x = x ≡ 20 ∷ drop 1 x
Starts (C.Compare o) x = x ≡ 21 ∷ o ∷ drop 2 x
Starts (C.Some v r) x = x ≡ 22 ∷ v ∷ r ∷ drop 3 x
Starts C.Other x = Unit

abbrev pub StartsT : TermRecord → List ℕ → Type 0
StartsT (T.Constant a b c d) x = x ≡ 32 ∷ a ∷ b ∷ c ∷ d ∷ drop 5 x
StartsT (T.Attribute v a) x = x ≡ 33 ∷ v ∷ a ∷ drop 3 x
StartsT (T.Aggregate f v r a) x = x ≡ 34 ∷ f ∷ v ∷ r ∷ a ∷ drop 5 x
StartsT T.Other x = Unit

-- so many bytes of a body
one : (r : List ℕ) → 1 ≤ length r → r ≡ get_or r 0 0 ∷ drop 1 r
one [] h = absurd (omega arith)
one (a ∷ r) h = refl

two : (r : List ℕ) → 2 ≤ length r → r ≡ get_or r 0 0 ∷ get_or r 1 0 ∷ drop 2 r
two [] h = absurd (omega arith)
two (a ∷ r) h = ap (λ s. a ∷ s) (one r (omega arith))

three : (r : List ℕ) → 3 ≤ length r → r ≡ get_or r 0 0 ∷ get_or r 1 0 ∷ get_or r 2 0 ∷ drop 3 r
three [] h = absurd (omega arith)
three (a ∷ r) h = ap (λ s. a ∷ s) (two r (omega arith))

four : (r : List ℕ) → 4 ≤ length r → r ≡ get_or r 0 0 ∷ get_or r 1 0 ∷ get_or r 2 0 ∷ get_or r 3 0 ∷ drop 4 r
four [] h = absurd (omega arith)
four (a ∷ r) h = ap (λ s. a ∷ s) (three r (omega arith))

by_kind : (x : Kind) (k : ℕ) (r : List ℕ) → k ≡ code x → body_length x ≤ length r → Starts (condition_of (filled (get_or r 0 0) (get_or r 1 0) (get_or r 2 0) (get_or r 3 0) x)) (k ∷ r)
by_kind k-range k r e h = tt
by_kind k-true k r e h = ap (λ n. n ∷ r) e
by_kind k-false k r e h = ap (λ n. n ∷ r) e
by_kind k-not k r e h = ap (λ n. n ∷ r) e
by_kind k-and k r e h = ap (λ n. n ∷ r) e
by_kind k-or k r e h = ap (λ n. n ∷ r) e
by_kind k-compare k r e h = ap₂ ◌∷◌ e (one r h)
by_kind k-some k r e h = ap₂ ◌∷◌ e (two r h)
by_kind k-constant k r e h = tt
by_kind k-attribute k r e h = tt
by_kind k-aggregate k r e h = tt
by_kind k-permit k r e h = tt

by-kind_t : (x : Kind) (k : ℕ) (r : List ℕ) → k ≡ code x → body_length x ≤ length r → StartsT (term_of (filled (get_or r 0 0) (get_or r 1 0) (get_or r 2 0) (get_or r 3 0) x)) (k ∷ r)
by-kind_t k-range k r e h = tt
by-kind_t k-true k r e h = tt
by-kind_t k-false k r e h = tt
by-kind_t k-not k r e h = tt
by-kind_t k-and k r e h = tt
by-kind_t k-or k r e h = tt
by-kind_t k-compare k r e h = tt
by-kind_t k-some k r e h = tt
by-kind_t k-constant k r e h = ap₂ ◌∷◌ e (four r h)
by-kind_t k-attribute k r e h = ap₂ ◌∷◌ e (two r h)
by-kind_t k-aggregate k r e h = ap₂ ◌∷◌ e (four r h)
by-kind_t k-permit k r e h = tt

-- by the kind of the first byte, for either place
module _ {A : Type 0} (of : Record → A) (S : A → List ℕ → Type 0) (unknown : (x : List ℕ) → S (of R.Unknown) x) (short : (x : List ℕ) → S (of R.Short) x)
    (known : (x : Kind) (k : ℕ) (r : List ℕ) → k ≡ code x → body_length x ≤ length r → S (of (filled (get_or r 0 0) (get_or r 1 0) (get_or r 2 0) (get_or r 3 0) x)) (k ∷ r)) where
  starts : (x : List ℕ) → S (of (record_at x)) x
  unfolding record_at kind_of
  starts [] = short []
  starts (k ∷ r) = go (kind_of k) refl
    where
      whole : (x : Kind) → kind_of k ≡ some x → (b : Bool) → leb (body_length x) (length r) ≡ b → S (of (record_at (k ∷ r))) (k ∷ r)
      whole x f true l =
          let h = leb-true (body_length x) (length r) l in
          subst (λ v. S (of v) (k ∷ r)) (sym (whole-record k r x f h)) (known x k r (find-inv k kinds x f) h)
      whole x f false l = subst (λ v. S (of v) (k ∷ r)) (sym (short-record k r x f (leb-false (body_length x) (length r) l))) (short (k ∷ r))

      go : (o : Option Kind) → kind_of k ≡ o → S (of (record_at (k ∷ r))) (k ∷ r)
      go none f = subst (λ v. S (of v) (k ∷ r)) (sym (of_none R.Unknown (λ x. within x r) k f)) (unknown (k ∷ r))
      go (some x) f = whole x f (leb (body_length x) (length r)) refl

-- the lengths of records, as the table gives them
pub lengths : (record_length 16 ≡ 1) × (record_length 18 ≡ 1) × (record_length 19 ≡ 1) × (record_length 21 ≡ 2) × (record_length 22 ≡ 3) × (record_length 32 ≡ 5) × (record_length 33 ≡ 3) × (record_length 34 ≡ 5)
unfolding record_length of_kind kind_of find
lengths = (refl, refl, refl, refl, refl, refl, refl, refl)

-- TRUE and FALSE, and AND and OR, differ in their byte alone
abbrev pub truth : Bool → ℕ
truth true = 16
truth false = 17

abbrev pub joining : Bool → ℕ
joining true = 19
joining false = 20

truths : (x : List ℕ) (y : ConditionRecord) → OneOf (0 ∷ 1 ∷ []) (tag_of (declared enum) y) → Starts y x → (b : Bool) × (x ≡ truth b ∷ drop 1 x)
truths x C.True k s = (true, s)
truths x C.False k s = (false, s)
truths x C.Not k s = absurd (miss (0 ∷ 1 ∷ []) 2 tt k)
truths x C.And k s = absurd (miss (0 ∷ 1 ∷ []) 3 tt k)
truths x C.Or k s = absurd (miss (0 ∷ 1 ∷ []) 4 tt k)
truths x (C.Compare o) k s = absurd (miss (0 ∷ 1 ∷ []) 5 tt k)
truths x (C.Some v w) k s = absurd (miss (0 ∷ 1 ∷ []) 6 tt k)
truths x C.Other k s = absurd (miss (0 ∷ 1 ∷ []) 7 tt k)

joins : (x : List ℕ) (y : ConditionRecord) → OneOf (3 ∷ 4 ∷ []) (tag_of (declared enum) y) → Starts y x → (b : Bool) × (x ≡ joining b ∷ drop 1 x)
joins x C.True k s = absurd (miss (3 ∷ 4 ∷ []) 0 tt k)
joins x C.False k s = absurd (miss (3 ∷ 4 ∷ []) 1 tt k)
joins x C.Not k s = absurd (miss (3 ∷ 4 ∷ []) 2 tt k)
joins x C.And k s = (true, s)
joins x C.Or k s = (false, s)
joins x (C.Compare o) k s = absurd (miss (3 ∷ 4 ∷ []) 5 tt k)
joins x (C.Some v w) k s = absurd (miss (3 ∷ 4 ∷ []) 6 tt k)
joins x C.Other k s = absurd (miss (3 ∷ 4 ∷ []) 7 tt k)

-- it ends within the bytes
ends_at : (q : List ℕ) (p a m : ℕ) → 1 ≤ a → length (drop p q) ≡ a + m → p + a ≤ length q
ends_at q p a m h e = omega (arith, length-drop p q)

-- the record y at place p, as the code reads it, and its length a by the table
module _ (q x : List ℕ) (p : ℕ) (ex : x ≡ drop p q) (y : ConditionRecord) (er : y ≡ condition_at x) where
  pub begins : (k : ConditionRecord) → y ≡ k → Starts k (drop p q)
  begins k e = subst (λ v. Starts v (drop p q)) (sym (ap condition_at ex) ∙ sym er ∙ e) (starts condition_of Starts (λ x. tt) (λ x. tt) by_kind (drop p q))

  pub truth-at : OneOf (0 ∷ 1 ∷ []) (tag_of (declared enum) y) → (b : Bool) × (drop p q ≡ truth b ∷ drop 1 (drop p q))
  truth-at o = truths (drop p q) y o (begins y refl)

  pub join-at : OneOf (3 ∷ 4 ∷ []) (tag_of (declared enum) y) → (b : Bool) × (drop p q ≡ joining b ∷ drop 1 (drop p q))
  join-at o = joins (drop p q) y o (begins y refl)

  module _ (a : ℕ) where
    pub not-room : a ≡ record_length 18 → y ≡ C.Not → p + a ≤ length q
    not-room e f = let n = e ∙ lengths.1 in ends_at q p a (length (drop 1 (drop p q))) (omega (arith, n)) (omega (arith, n, ap length (begins C.Not f)))

    pub both-room : a ≡ record_length 19 → OneOf (3 ∷ 4 ∷ []) (tag_of (declared enum) y) → p + a ≤ length q
    both-room e o = let n = e ∙ lengths.2 in ends_at q p a (length (drop 1 (drop p q))) (omega (arith, n)) (omega (arith, n, ap length (join-at o).1))

    pub compare-room : (o : ℕ) → a ≡ record_length 21 → y ≡ C.Compare o → p + a ≤ length q
    compare-room o e f = let n = e ∙ lengths.3 in ends_at q p a (length (drop 2 (drop p q))) (omega (arith, n)) (omega (arith, n, ap length (begins (C.Compare o) f)))

    pub some-room : (v r : ℕ) → a ≡ record_length 22 → y ≡ C.Some v r → p + a ≤ length q
    some-room v r e f = let n = e ∙ lengths.4 in ends_at q p a (length (drop 3 (drop p q))) (omega (arith, n)) (omega (arith, n, ap length (begins (C.Some v r) f)))

module _ (q x : List ℕ) (p : ℕ) (ex : x ≡ drop p q) (y : TermRecord) (er : y ≡ term_at x) where
  pub begins_t : (k : TermRecord) → y ≡ k → StartsT k (drop p q)
  begins_t k e = subst (λ v. StartsT v (drop p q)) (sym (ap term_at ex) ∙ sym er ∙ e) (starts term_of StartsT (λ x. tt) (λ x. tt) by-kind_t (drop p q))

  pub aggregate-room : (a h v r b : ℕ) → a ≡ record_length 34 → y ≡ T.Aggregate h v r b → p + a ≤ length q
  aggregate-room a h v r b e f = let n = e ∙ lengths.7 in ends_at q p a (length (drop 5 (drop p q))) (omega (arith, n)) (omega (arith, n, ap length (begins_t (T.Aggregate h v r b) f)))
