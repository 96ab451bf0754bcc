-- Some and their table stand for the condition that they were read as.
use mathlib.Core.Path.{◌≡◌, refl, sym, ap, ap₂, ◌∙◌}
use mathlib.Core.Bool.{true, false}
use mathlib.Core.List.{List, [], ◌∷◌}
use Prim.Native.Nat.{ℕ, zero, suc, ◌+◌, ◌-◌, ◌<◌, ◌≤◌}
use native.Mathlib.Nat.{add-zero}
use native.Mathlib.Numerals.{sub-one}
use native.Mathlib.Omega.{arith}
use lib.ListN.{length, get_or, drop, length-drop}
use lib.Seq.{drop-drop, get_or-drop}
use Rattle.model.specs.Kinds.{kind_of, find, k-true, k-false, k-not, k-and, k-or, k-compare, k-some, k-constant, k-attribute, k-aggregate}
use Rattle.model.specs.Syntax.{Condition, Term, TRUE, FALSE, NOT, AND, OR, COMPARE, SOME, CONSTANT, ATTRIBUTE, AGGREGATE, levels, levels_t}
use Rattle.model.specs.Encoding.{encode, encode_t, Read, fail, ok, read_condition, read_term}
use Rattle.model.proofs.Reading.{read-encode, read-encode_t, read-inverse, read-inverse_t}
use Rattle.model.proofs.Sizes.{size, size_t, size-encode, size-encode_t, drop-encode, drop-encode_t}
use Rattle.kinds.specs.Tables.{of_kind, record_length}
use Rattle.kinds.specs.Places.{condition_at, term_at}
use Rattle.kinds.specs.declared.ConditionRecord.{ConditionRecord}
use Rattle.kinds.specs.declared.TermRecord.{TermRecord}
use Rattle.kinds.proofs.Records.{whole-record}
use Rattle.sizes.specs.Measured.{Measured, leaves, measured, size_read, condition_size, term_size, condition_table, term_table}
use Rattle.sizes.specs.Decode.{condition_by, term_by, nothing, decode, decode_t}
use Rattle.sizes.proofs.Reader.{agree}
use Rattle.sizes.proofs.Marks.{marks, marks_t, measured-is, measured-is_t, drop-suc, drop-two}
use Rattle.sizes.proofs.Sized.{Sized, SizedT, sized-head, sized-head_t, sized_same, sized-same_t, Agree, agree-drop, marks-length, marks-length_t, marks-before, marks-before_t, marks-after, marks-after_t, marks-sized, marks-sized_t}
use Rattle.std.specs.Prelude.{Some, None}

-- one level, by the record: for code that reads it
pub decode-zero : (l : ℕ) (q z : List ℕ) → l ≡ 0 → decode l q z ≡ FALSE
unfolding decode
decode-zero l q z h = rw h

pub decode-step : (l : ℕ) (q z : List ℕ) (r : ConditionRecord) → (l ≡ 0 → ⊥) → condition_at q ≡ r → decode l q z ≡ condition_by r (λ x y. decode (l - 1) x y) (λ x y. decode_t (l - 1) x y) q z
unfolding decode
decode-step zero q z r h e = absurd (h refl)
decode-step (suc l) q z r h e = rw (sub-one, e)

pub decode_t-zero : (l : ℕ) (q z : List ℕ) → l ≡ 0 → decode_t l q z ≡ nothing
unfolding decode
decode_t-zero l q z h = rw h

pub decode_t-step : (l : ℕ) (q z : List ℕ) (r : TermRecord) → (l ≡ 0 → ⊥) → term_at q ≡ r → decode_t l q z ≡ term_by r (λ x y. decode (l - 1) x y) q z
unfolding decode
decode_t-step zero q z r h e = absurd (h refl)
decode_t-step (suc l) q z r h e = rw (sub-one, e)

-- the second child stands after the first
module _ {A : Type 0} (f : List ℕ → List ℕ → A) (a n : ℕ) (q z x : List ℕ) (e : get_or (drop a z) 0 0 ≡ n) (ex : drop (a + n) q ≡ x) where
  second_is : f (drop (a + get_or z a 0) q) (drop (a + get_or z a 0) z) ≡ f x (drop (a + n) z)
  second_is =
      let k : get_or z a 0 ≡ n = ap (λ i. get_or z i 0) (sym (add-zero a)) ∙ sym (get_or-drop a z 0 0) ∙ e in
      ap (λ m. f (drop (a + m) q) (drop (a + m) z)) k ∙ ap (λ v. f v (drop (a + n) z)) ex

mutual
  unfolding decode encode levels Sized record_length of_kind kind_of find

  pub decode-encode : (c : Condition) (l : ℕ) (r z : List ℕ) → levels c ≤ l → Sized c z → decode l (encode c r) z ≡ c
  decode-encode TRUE zero r z h s = absurd (omega arith)
  decode-encode TRUE (suc l) r z h s = rw (whole-record 16 r k-true refl (omega arith))
  decode-encode FALSE zero r z h s = absurd (omega arith)
  decode-encode FALSE (suc l) r z h s = rw (whole-record 17 r k-false refl (omega arith))
  decode-encode (NOT c) zero r z h s = absurd (omega arith)
  decode-encode (NOT c) (suc l) r z h s = rw (whole-record 18 (encode c r) k-not refl (omega arith)) (ap NOT (decode-encode c l r (drop 1 z) (omega arith) s.1))
  decode-encode (AND c d) zero r z h s = absurd (omega arith)
  decode-encode (AND c d) (suc l) r z h s =
      let x : List ℕ = encode c (encode d r) in
      rw (whole-record 19 x k-and refl (omega arith))
      (ap₂ AND (decode-encode c l (encode d r) (drop 1 z) (omega arith) s.1)
      (second_is (λ x y. decode l x y) 1 (size c) (19 ∷ x) z (encode d r) (sized-head c (drop 1 z) s.1) (drop-suc 19 x (size c) ∙ drop-encode c (encode d r))
      ∙ decode-encode d l r (drop (1 + size c) z) (omega arith) s.2))
  decode-encode (OR c d) zero r z h s = absurd (omega arith)
  decode-encode (OR c d) (suc l) r z h s =
      let x : List ℕ = encode c (encode d r) in
      rw (whole-record 20 x k-or refl (omega arith))
      (ap₂ OR (decode-encode c l (encode d r) (drop 1 z) (omega arith) s.1)
      (second_is (λ x y. decode l x y) 1 (size c) (20 ∷ x) z (encode d r) (sized-head c (drop 1 z) s.1) (drop-suc 20 x (size c) ∙ drop-encode c (encode d r))
      ∙ decode-encode d l r (drop (1 + size c) z) (omega arith) s.2))
  decode-encode (COMPARE o a b) zero r z h s = absurd (omega arith)
  decode-encode (COMPARE o a b) (suc l) r z h s =
      let x : List ℕ = encode_t a (encode_t b r) in
      rw (whole-record 21 (o ∷ x) k-compare refl (omega arith))
      (ap₂ (COMPARE o) (decode-encode_t a l (encode_t b r) (drop 2 z) (omega arith) s.1)
      (second_is (λ x y. decode_t l x y) 2 (size_t a) (21 ∷ o ∷ x) z (encode_t b r) (sized-head_t a (drop 2 z) s.1) (drop-two 21 o x (size_t a) ∙ drop-encode_t a (encode_t b r))
      ∙ decode-encode_t b l r (drop (2 + size_t a) z) (omega arith) s.2))
  decode-encode (SOME v q c) zero r z h s = absurd (omega arith)
  decode-encode (SOME v q c) (suc l) r z h s = rw (whole-record 22 (v ∷ q ∷ encode c r) k-some refl (omega arith)) (ap (SOME v q) (decode-encode c l r (drop 3 z) (omega arith) s.1))

  pub decode-encode_t : (t : Term) (l : ℕ) (r z : List ℕ) → levels_t t ≤ l → SizedT t z → decode_t l (encode_t t r) z ≡ t
  decode-encode_t (CONSTANT a b c d) zero r z h s = absurd (omega arith)
  decode-encode_t (CONSTANT a b c d) (suc l) r z h s = rw (whole-record 32 (a ∷ b ∷ c ∷ d ∷ r) k-constant refl (omega arith))
  decode-encode_t (ATTRIBUTE v a) zero r z h s = absurd (omega arith)
  decode-encode_t (ATTRIBUTE v a) (suc l) r z h s = rw (whole-record 33 (v ∷ a ∷ r) k-attribute refl (omega arith))
  decode-encode_t (AGGREGATE f v q a c) zero r z h s = absurd (omega arith)
  decode-encode_t (AGGREGATE f v q a c) (suc l) r z h s = rw (whole-record 34 (f ∷ v ∷ q ∷ a ∷ encode c r) k-aggregate refl (omega arith)) (ap (AGGREGATE f v q a) (decode-encode c l r (drop 5 z) (omega arith) s.1))

-- what was read is what the bytes and their table stand for
pub decode_is : (l : ℕ) (q : List ℕ) (c : Condition) (r z : List ℕ) → read_condition l q ≡ ok c r → Sized c z → decode l q z ≡ c
decode_is l q c r z h s = let i = read-inverse l q c r h in ap (λ x. decode l x z) i.bytes ∙ decode-encode c l r z i.deep s

pub decode_t-is : (l : ℕ) (q : List ℕ) (t : Term) (r z : List ℕ) → read_term l q ≡ ok t r → SizedT t z → decode_t l q z ≡ t
decode_t-is l q t r z h s = let i = read-inverse_t l q t r h in ap (λ x. decode_t l x z) i.bytes ∙ decode-encode_t t l r z i.deep s

-- other levels: enough of them read the same, and stand for the same
pub read_again : (l m : ℕ) (q : List ℕ) (c : Condition) (r : List ℕ) → read_condition l q ≡ ok c r → levels c ≤ m → read_condition m q ≡ ok c r
read_again l m q c r h k = let i = read-inverse l q c r h in ap (read_condition m) i.bytes ∙ read-encode c m r i.well k

pub read-again_t : (l m : ℕ) (q : List ℕ) (t : Term) (r : List ℕ) → read_term l q ≡ ok t r → levels_t t ≤ m → read_term m q ≡ ok t r
read-again_t l m q t r h k = let i = read-inverse_t l q t r h in ap (read_term m) i.bytes ∙ read-encode_t t m r i.well k

-- no condition and no term is empty
size-pos : (c : Condition) → 1 ≤ size c
unfolding size
size-pos TRUE = omega arith
size-pos FALSE = omega arith
size-pos (NOT c) = omega arith
size-pos (AND c d) = omega arith
size-pos (OR c d) = omega arith
size-pos (COMPARE o s t) = omega arith
size-pos (SOME v r c) = omega arith

size-pos_t : (t : Term) → 1 ≤ size_t t
unfolding size
size-pos_t (CONSTANT a b c d) = omega arith
size-pos_t (ATTRIBUTE v a) = omega arith
size-pos_t (AGGREGATE f v r a c) = omega arith

-- the condition at p of a longer query has been measured
module _ (l : ℕ) (q : List ℕ) (p : ℕ) (z : List ℕ) (c : Condition) (r : List ℕ) (h : read_condition l (drop p q) ≡ ok c r) where
  pub condition-fits : p + size c + length r ≡ length q
  condition-fits = omega (arith, ap length (read-inverse l (drop p q) c r h).bytes ∙ size-encode c r, length-drop p q, size-pos c)

  pub condition-rest : drop (p + size c) q ≡ r
  condition-rest = sym (drop-drop (size c) p q) ∙ ap (drop (size c)) (read-inverse l (drop p q) c r h).bytes ∙ drop-encode c r

  measured-at : measured l false (drop p q) p z ≡ leaves (Some (size c)) (marks c p z)
  measured-at = let i = read-inverse l (drop p q) c r h in ap (λ x. measured l false x p z) i.bytes ∙ measured-is c l r p z i.well i.deep

  pub condition-size : condition_size l (drop p q) ≡ Some (size c)
  unfolding condition_size
  condition-size = sym ((agree l).0 (drop p q) p z) ∙ ap (λ (m : Measured). m.size) measured-at

  pub condition-table : condition_table l q p z ≡ marks c p z
  unfolding condition_table
  condition-table = ap (λ (m : Measured). m.table) measured-at

  pub condition-length : length (condition_table l q p z) ≡ length z
  condition-length = ap length condition-table ∙ marks-length c p z

  pub condition-before : Agree p (condition_table l q p z) z
  condition-before i k = ap (λ y. get_or y i 0) condition-table ∙ marks-before c p z i k

  pub condition-after : (i : ℕ) → p + size c ≤ i → get_or (condition_table l q p z) i 0 ≡ get_or z i 0
  condition-after i k = ap (λ y. get_or y i 0) condition-table ∙ marks-after c p z i k

  pub condition-sized : length q ≤ length z → length q < 65536 → Sized c (drop p (condition_table l q p z))
  condition-sized m k = rw condition-table (marks-sized c p z (omega (arith, condition-fits)) (omega (arith, condition-fits)))

module _ (l : ℕ) (q : List ℕ) (p : ℕ) (z : List ℕ) (t : Term) (r : List ℕ) (h : read_term l (drop p q) ≡ ok t r) where
  pub term_fits : p + size_t t + length r ≡ length q
  term_fits = omega (arith, ap length (read-inverse_t l (drop p q) t r h).bytes ∙ size-encode_t t r, length-drop p q, size-pos_t t)

  pub term-rest : drop (p + size_t t) q ≡ r
  term-rest = sym (drop-drop (size_t t) p q) ∙ ap (drop (size_t t)) (read-inverse_t l (drop p q) t r h).bytes ∙ drop-encode_t t r

  measured-at_t : measured l true (drop p q) p z ≡ leaves (Some (size_t t)) (marks_t t p z)
  measured-at_t = let i = read-inverse_t l (drop p q) t r h in ap (λ x. measured l true x p z) i.bytes ∙ measured-is_t t l r p z i.well i.deep

  pub term-size : term_size l (drop p q) ≡ Some (size_t t)
  unfolding term_size
  term-size = sym ((agree l).1 (drop p q) p z) ∙ ap (λ (m : Measured). m.size) measured-at_t

  pub term-table : term_table l q p z ≡ marks_t t p z
  unfolding term_table
  term-table = ap (λ (m : Measured). m.table) measured-at_t

  pub term-length : length (term_table l q p z) ≡ length z
  term-length = ap length term-table ∙ marks-length_t t p z

  pub term-before : Agree p (term_table l q p z) z
  term-before i k = ap (λ y. get_or y i 0) term-table ∙ marks-before_t t p z i k

  pub term-after : (i : ℕ) → p + size_t t ≤ i → get_or (term_table l q p z) i 0 ≡ get_or z i 0
  term-after i k = ap (λ y. get_or y i 0) term-table ∙ marks-after_t t p z i k

  pub term-sized : length q ≤ length z → length q < 65536 → SizedT t (drop p (term_table l q p z))
  term-sized m k = rw term-table (marks-sized_t t p z (omega (arith, term_fits)) (omega (arith, term_fits)))

-- a condition or a term that stands before the place where another is measured keeps its sizes
pub sized-kept : (c : Condition) (p m : ℕ) (y z : List ℕ) → p + size c ≤ m → Agree m y z → Sized c (drop p z) → Sized c (drop p y)
sized-kept c p m y z h e s = sized_same c (drop p y) (drop p z) (agree-drop p (size c) m y z h e) s

pub sized-kept_t : (t : Term) (p m : ℕ) (y z : List ℕ) → p + size_t t ≤ m → Agree m y z → SizedT t (drop p z) → SizedT t (drop p y)
sized-kept_t t p m y z h e s = sized-same_t t (drop p y) (drop p z) (agree-drop p (size_t t) m y z h e) s

-- from what `condition` and `term` answer to what the model reads
never : {X : Type 0} (n : ℕ) → None ≡ Some n → X
never n h = let e : ◌≡◌ {A = ℕ} 0 1 = cc in absurd (omega arith)

always : {X : Type 0} (n : ℕ) → Some n ≡ None → X
always n h = let e : ◌≡◌ {A = ℕ} 0 1 = cc in absurd (omega arith)

module _ (l : ℕ) (q : List ℕ) (p : ℕ) where
  pub condition-reads : {X : Type 0} (n : ℕ) → condition_size l (drop p q) ≡ Some n → ((c : Condition) (r : List ℕ) → read_condition l (drop p q) ≡ ok c r → size c ≡ n → X) → X
  unfolding condition_size
  condition-reads {X} n h k = go (read_condition l (drop p q)) refl
    where
      go : (w : Read Condition) → read_condition l (drop p q) ≡ w → X
      go fail e = never n (sym (ap (size_read (drop p q)) e) ∙ h)
      go (ok c r) e = let m : Some (size c) ≡ Some n = sym (condition-size l q p [] c r e) ∙ h in k c r e (cc)

  pub condition-fails : condition_size l (drop p q) ≡ None → read_condition l (drop p q) ≡ fail
  unfolding condition_size
  condition-fails h = go (read_condition l (drop p q)) refl
    where
      go : (w : Read Condition) → read_condition l (drop p q) ≡ w → read_condition l (drop p q) ≡ fail
      go fail e = e
      go (ok c r) e = always (length (drop p q) - length r) (sym (ap (size_read (drop p q)) e) ∙ h)

  pub condition-within : (n : ℕ) → condition_size l (drop p q) ≡ Some n → (1 ≤ n) × (p + n ≤ length q)
  condition-within n h = condition-reads n h λ c r e m. (omega (arith, size-pos c), omega (arith, condition-fits l q p [] c r e))

  pub term-reads : {X : Type 0} (n : ℕ) → term_size l (drop p q) ≡ Some n → ((t : Term) (r : List ℕ) → read_term l (drop p q) ≡ ok t r → size_t t ≡ n → X) → X
  unfolding term_size
  term-reads {X} n h k = go (read_term l (drop p q)) refl
    where
      go : (w : Read Term) → read_term l (drop p q) ≡ w → X
      go fail e = never n (sym (ap (size_read (drop p q)) e) ∙ h)
      go (ok t r) e = let m : Some (size_t t) ≡ Some n = sym (term-size l q p [] t r e) ∙ h in k t r e (cc)

  pub term-fails : term_size l (drop p q) ≡ None → read_term l (drop p q) ≡ fail
  unfolding term_size
  term-fails h = go (read_term l (drop p q)) refl
    where
      go : (w : Read Term) → read_term l (drop p q) ≡ w → read_term l (drop p q) ≡ fail
      go fail e = e
      go (ok t r) e = always (length (drop p q) - length r) (sym (ap (size_read (drop p q)) e) ∙ h)

  pub term-within : (n : ℕ) → term_size l (drop p q) ≡ Some n → (1 ≤ n) × (p + n ≤ length q)
  term-within n h = term-reads n h λ t r e m. (omega (arith, size-pos_t t), omega (arith, term_fits l q p [] t r e))
