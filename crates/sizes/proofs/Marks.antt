-- What a condition or a term leaves in the table: the size of each of its parts, at the place where the part starts.
use mathlib.Core.Path.{◌≡◌, refl, ap, ◌∙◌}
use mathlib.Core.Bool.{Bool, true, false}
use mathlib.Core.List.{List, ◌∷◌}
use Prim.Native.Nat.{ℕ, zero, suc, ◌+◌, ◌≤◌}
use native.Mathlib.Omega.{arith}
use lib.ListN.{drop}
use Rattle.model.specs.Kinds.{kind_of, find, k-true, k-false, k-not, k-and, k-or, k-compare, k-some, k-constant, k-attribute, k-aggregate}
use Rattle.model.specs.Syntax.{Condition, Term, TRUE, FALSE, NOT, AND, OR, COMPARE, SOME, CONSTANT, ATTRIBUTE, AGGREGATE, WellFormed, WellFormedT, levels, levels_t}
use Rattle.model.specs.Encoding.{encode, encode_t}
use Rattle.model.proofs.Sizes.{size, size_t, drop-encode, drop-encode_t}
use Rattle.kinds.specs.Tables.{of_kind, conditions_of, terms_of, record_length}
use Rattle.kinds.specs.Record.{record_at}
use Rattle.kinds.specs.declared.Record.{Record}
use Rattle.kinds.specs.declared.Record.TheVariants as R
use Rattle.kinds.proofs.Records.{whole-record}
use Rattle.sizes.specs.Measured.{accepts, children_of, child_term, store, Measured, leaves, onward, children, stored, measured}
use Rattle.std.specs.Prelude.{Some}

-- the table afterwards, p being the place of the first byte
unfoldable mutual
  pub marks : Condition → ℕ → List ℕ → List ℕ
  marks TRUE p z = store z p 1
  marks FALSE p z = store z p 1
  marks (NOT c) p z = store (marks c (p + 1) z) p (1 + size c)
  marks (AND c d) p z = store (marks d (p + (1 + size c)) (marks c (p + 1) z)) p (1 + size c + size d)
  marks (OR c d) p z = store (marks d (p + (1 + size c)) (marks c (p + 1) z)) p (1 + size c + size d)
  marks (COMPARE o s t) p z = store (marks_t t (p + (2 + size_t s)) (marks_t s (p + 2) z)) p (2 + size_t s + size_t t)
  marks (SOME v r c) p z = store (marks c (p + 3) z) p (3 + size c)

  pub marks_t : Term → ℕ → List ℕ → List ℕ
  marks_t (CONSTANT a b c d) p z = store z p 5
  marks_t (ATTRIBUTE v a) p z = store z p 3
  marks_t (AGGREGATE f v r a c) p z = store (marks c (p + 5) z) p (5 + size c)

-- one record with no child, one, or two
module _ (l : ℕ) (t : Bool) (k : ℕ) (r : List ℕ) (p : ℕ) (z : List ℕ) (x : Record) (e : record_at (k ∷ r) ≡ x) (h : accepts t x ≡ true) where
  accepted : measured (suc l) t (k ∷ r) p z ≡ stored p (children (children_of k) (record_length k) (λ x m y. measured l (child_term k) x m y) (k ∷ r) p z)
  unfolding measured
  accepted = let w : accepts t (record_at (k ∷ r)) ≡ true = ap (accepts t) e ∙ h in rw w

module _ (f : List ℕ → ℕ → List ℕ → Measured) (a : ℕ) (q : List ℕ) (p : ℕ) (z : List ℕ) (n : ℕ) (y : List ℕ) (x : List ℕ) (ex : drop a q ≡ x) (e : f x (p + a) z ≡ leaves (Some n) y) where
  first-is : f (drop a q) (p + a) z ≡ leaves (Some n) y
  first-is = ap (λ v. f v (p + a) z) ex ∙ e

  one : stored p (children 1 a f q p z) ≡ leaves (Some (a + n)) (store y p (a + n))
  unfolding children
  one = ap (λ (m : Measured). stored p (onward m.size m.table (λ n y. leaves (Some (a + n)) y))) first-is

  two : (m : ℕ) (w : List ℕ) (v : List ℕ) → drop (a + n) q ≡ v → f v (p + (a + n)) y ≡ leaves (Some m) w → stored p (children 2 a f q p z) ≡ leaves (Some (a + n + m)) (store w p (a + n + m))
  unfolding children
  two m w v ev e2 =
      ap (λ (m : Measured). stored p (onward m.size m.table (λ n y. children 1 (a + n) f q p y))) first-is
      ∙ ap (λ (m : Measured). stored p (onward m.size m.table (λ b u. leaves (Some (a + n + b)) u))) (ap (λ x. f x (p + (a + n)) y) ev ∙ e2)

pub drop-suc : (a : ℕ) (x : List ℕ) (n : ℕ) → drop (1 + n) (a ∷ x) ≡ drop n x
drop-suc a x n = let e : 1 + n ≡ suc n = omega arith in rw e

pub drop-two : (a b : ℕ) (x : List ℕ) (n : ℕ) → drop (2 + n) (a ∷ b ∷ x) ≡ drop n x
drop-two a b x n = let e : 2 + n ≡ suc (suc n) = omega arith in rw e

-- what is measured of the bytes of a condition, or a term
mutual
  unfolding marks size encode levels WellFormed children_of child_term conditions_of terms_of record_length of_kind kind_of find children

  pub measured-is : (c : Condition) (l : ℕ) (r : List ℕ) (p : ℕ) (z : List ℕ) → WellFormed c → levels c ≤ l → measured l false (encode c r) p z ≡ leaves (Some (size c)) (marks c p z)
  measured-is TRUE zero r p z w h = absurd (omega arith)
  measured-is TRUE (suc l) r p z w h = accepted l false 16 r p z R.True (whole-record 16 r k-true refl (omega arith)) refl
  measured-is FALSE zero r p z w h = absurd (omega arith)
  measured-is FALSE (suc l) r p z w h = accepted l false 17 r p z R.False (whole-record 17 r k-false refl (omega arith)) refl
  measured-is (NOT c) zero r p z w h = absurd (omega arith)
  measured-is (NOT c) (suc l) r p z w h =
      accepted l false 18 (encode c r) p z R.Not (whole-record 18 (encode c r) k-not refl (omega arith)) refl
      ∙ one (λ x m y. measured l false x m y) 1 (18 ∷ encode c r) p z (size c) (marks c (p + 1) z) (encode c r) refl (measured-is c l r (p + 1) z w (omega arith))
      ∙ ap (λ n. leaves (Some n) (store (marks c (p + 1) z) p (1 + size c))) (omega arith)
  measured-is (AND c d) zero r p z w h = absurd (omega arith)
  measured-is (AND c d) (suc l) r p z w h =
      let q : List ℕ = 19 ∷ encode c (encode d r) in
      let y : List ℕ = marks c (p + 1) z in
      accepted l false 19 (encode c (encode d r)) p z R.And (whole-record 19 (encode c (encode d r)) k-and refl (omega arith)) refl
      ∙ two (λ x m y. measured l false x m y) 1 q p z (size c) y (encode c (encode d r)) refl (measured-is c l (encode d r) (p + 1) z w.0 (omega arith))
      (size d) (marks d (p + (1 + size c)) y) (encode d r) (drop-suc 19 (encode c (encode d r)) (size c) ∙ drop-encode c (encode d r)) (measured-is d l r (p + (1 + size c)) y w.1 (omega arith))
      ∙ ap (λ n. leaves (Some n) (store (marks d (p + (1 + size c)) y) p (1 + size c + size d))) (omega arith)
  measured-is (OR c d) zero r p z w h = absurd (omega arith)
  measured-is (OR c d) (suc l) r p z w h =
      let q : List ℕ = 20 ∷ encode c (encode d r) in
      let y : List ℕ = marks c (p + 1) z in
      accepted l false 20 (encode c (encode d r)) p z R.Or (whole-record 20 (encode c (encode d r)) k-or refl (omega arith)) refl
      ∙ two (λ x m y. measured l false x m y) 1 q p z (size c) y (encode c (encode d r)) refl (measured-is c l (encode d r) (p + 1) z w.0 (omega arith))
      (size d) (marks d (p + (1 + size c)) y) (encode d r) (drop-suc 20 (encode c (encode d r)) (size c) ∙ drop-encode c (encode d r)) (measured-is d l r (p + (1 + size c)) y w.1 (omega arith))
      ∙ ap (λ n. leaves (Some n) (store (marks d (p + (1 + size c)) y) p (1 + size c + size d))) (omega arith)
  measured-is (COMPARE o s t) zero r p z w h = absurd (omega arith)
  measured-is (COMPARE o s t) (suc l) r p z w h =
      let q : List ℕ = 21 ∷ o ∷ encode_t s (encode_t t r) in
      let y : List ℕ = marks_t s (p + 2) z in
      accepted l false 21 (o ∷ encode_t s (encode_t t r)) p z (R.Compare o) (whole-record 21 (o ∷ encode_t s (encode_t t r)) k-compare refl (omega arith)) w.0
      ∙ two (λ x m y. measured l true x m y) 2 q p z (size_t s) y (encode_t s (encode_t t r)) refl (measured-is_t s l (encode_t t r) (p + 2) z w.1 (omega arith))
      (size_t t) (marks_t t (p + (2 + size_t s)) y) (encode_t t r) (drop-two 21 o (encode_t s (encode_t t r)) (size_t s) ∙ drop-encode_t s (encode_t t r)) (measured-is_t t l r (p + (2 + size_t s)) y w.2 (omega arith))
      ∙ ap (λ n. leaves (Some n) (store (marks_t t (p + (2 + size_t s)) y) p (2 + size_t s + size_t t))) (omega arith)
  measured-is (SOME v q c) zero r p z w h = absurd (omega arith)
  measured-is (SOME v q c) (suc l) r p z w h =
      accepted l false 22 (v ∷ q ∷ encode c r) p z (R.Some v q) (whole-record 22 (v ∷ q ∷ encode c r) k-some refl (omega arith)) refl
      ∙ one (λ x m y. measured l false x m y) 3 (22 ∷ v ∷ q ∷ encode c r) p z (size c) (marks c (p + 3) z) (encode c r) refl (measured-is c l r (p + 3) z w (omega arith))

  pub measured-is_t : (t : Term) (l : ℕ) (r : List ℕ) (p : ℕ) (z : List ℕ) → WellFormedT t → levels_t t ≤ l → measured l true (encode_t t r) p z ≡ leaves (Some (size_t t)) (marks_t t p z)
  measured-is_t (CONSTANT a b c d) zero r p z w h = absurd (omega arith)
  measured-is_t (CONSTANT a b c d) (suc l) r p z w h = accepted l true 32 (a ∷ b ∷ c ∷ d ∷ r) p z (R.Constant a b c d) (whole-record 32 (a ∷ b ∷ c ∷ d ∷ r) k-constant refl (omega arith)) refl
  measured-is_t (ATTRIBUTE v a) zero r p z w h = absurd (omega arith)
  measured-is_t (ATTRIBUTE v a) (suc l) r p z w h = accepted l true 33 (v ∷ a ∷ r) p z (R.Attribute v a) (whole-record 33 (v ∷ a ∷ r) k-attribute refl (omega arith)) refl
  measured-is_t (AGGREGATE f v q a c) zero r p z w h = absurd (omega arith)
  measured-is_t (AGGREGATE f v q a c) (suc l) r p z w h =
      accepted l true 34 (f ∷ v ∷ q ∷ a ∷ encode c r) p z (R.Aggregate f v q a) (whole-record 34 (f ∷ v ∷ q ∷ a ∷ encode c r) k-aggregate refl (omega arith)) w.0
      ∙ one (λ x m y. measured l false x m y) 5 (34 ∷ f ∷ v ∷ q ∷ a ∷ encode c r) p z (size c) (marks c (p + 5) z) (encode c r) refl (measured-is c l r (p + 5) z w.1 (omega arith))
