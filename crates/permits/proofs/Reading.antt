-- For a list that passes check 20 the permits found by their bytes are the model's.
use mathlib.Core.Path.{◌≡◌, refl, sym, ap, ap₂, subst, ◌∙◌}
use mathlib.Core.Bool.{false}
use mathlib.Core.List.{List, [], ◌∷◌, ◌++◌, map}
use Prim.Native.Nat.{ℕ, suc, ◌+◌, ◌<◌, ◌≤◌}
use native.Mathlib.Nat.{add-zero}
use native.Mathlib.Omega.{arith}
use lib.Dec.{eqb, ltb}
use borrow.Author.Tests.{ltb-false}
use lib.ListN.{length, drop, take}
use Rattle.model.specs.Kinds.{kind_of, find}
use Rattle.model.specs.Syntax.{Condition, Term, TRUE, FALSE, NOT, AND, OR, COMPARE, SOME, CONSTANT, ATTRIBUTE, AGGREGATE, Permit, WellFormedPs}
use Rattle.model.specs.Encoding.{encode, encode_t, encode_permit, encode_permits, Read, fail, ok, failed, read_or, read_permits, permits_read, permits_of}
use Rattle.model.specs.Permits.{mask}
use Rattle.model.specs.Checks.{fails20}
use Rattle.model.proofs.Tests.{clash, or_no}
use Rattle.model.proofs.Sizes.{size, size_t, size-encode, drop-encode}
use Rattle.model.proofs.ReadingQueries.{permits-inverse}
use Rattle.kinds.specs.Tables.{of_kind, record_length}
use Rattle.kinds.specs.declared.PermitRecord.{PermitRecord}
use Rattle.kinds.specs.declared.PermitRecord.TheVariants as P
use Rattle.kinds.proofs.Heads.{permit-at}
use Rattle.permits.specs.Entries.{span_after, span_of, Entry, condition_of, size_of, entry_at, entries}
use Rattle.permits.proofs.Walk.{span-cons, entries-cons, entries_none}

-- a permit by its bytes
abbrev pub entry_of : Permit → Entry
entry_of p = record { head = P.Permit p.relation (mask p); condition = encode p.condition [] }

lead : (b n : ℕ) (s : List ℕ) → eqb b 64 ≡ false → record_length b ≡ suc n → span_of (b ∷ s) ≡ suc n + span_of (drop n s)
lead b n s h e = span-cons b s h ∙ ap (λ (m : ℕ). m + span_of (drop m (b ∷ s))) e

-- no record of a condition has a permit's kind
mutual
  unfolding encode encode_t size size_t record_length of_kind kind_of find

  pub span-encode : (c : Condition) (r : List ℕ) → span_of (encode c r) ≡ size c + span_of r
  span-encode TRUE r = lead 16 0 r refl refl
  span-encode FALSE r = lead 17 0 r refl refl
  span-encode (NOT c) r = omega (arith, lead 18 0 (encode c r) refl refl, span-encode c r)
  span-encode (AND c d) r = omega (arith, lead 19 0 (encode c (encode d r)) refl refl, span-encode c (encode d r), span-encode d r)
  span-encode (OR c d) r = omega (arith, lead 20 0 (encode c (encode d r)) refl refl, span-encode c (encode d r), span-encode d r)
  span-encode (COMPARE o s t) r = omega (arith, lead 21 1 (o ∷ encode_t s (encode_t t r)) refl refl, span-encode_t s (encode_t t r), span-encode_t t r)
  span-encode (SOME v x c) r = omega (arith, lead 22 2 (v ∷ x ∷ encode c r) refl refl, span-encode c r)

  pub span-encode_t : (t : Term) (r : List ℕ) → span_of (encode_t t r) ≡ size_t t + span_of r
  span-encode_t (CONSTANT a b c d) r = lead 32 4 (a ∷ b ∷ c ∷ d ∷ r) refl refl
  span-encode_t (ATTRIBUTE v a) r = lead 33 2 (v ∷ a ∷ r) refl refl
  span-encode_t (AGGREGATE f v x a c) r = omega (arith, lead 34 4 (f ∷ v ∷ x ∷ a ∷ encode c r) refl refl, span-encode c r)

mutual
  unfolding encode encode_t

  pub encode-join : (c : Condition) (x r : List ℕ) → encode c (x ++ r) ≡ encode c x ++ r
  encode-join TRUE x r = refl
  encode-join FALSE x r = refl
  encode-join (NOT c) x r = ap (λ (l : List ℕ). 18 ∷ l) (encode-join c x r)
  encode-join (AND c d) x r = ap (λ (l : List ℕ). 19 ∷ l) (ap (encode c) (encode-join d x r) ∙ encode-join c (encode d x) r)
  encode-join (OR c d) x r = ap (λ (l : List ℕ). 20 ∷ l) (ap (encode c) (encode-join d x r) ∙ encode-join c (encode d x) r)
  encode-join (COMPARE o s t) x r = ap (λ (l : List ℕ). 21 ∷ o ∷ l) (ap (encode_t s) (encode-join_t t x r) ∙ encode-join_t s (encode_t t x) r)
  encode-join (SOME v y c) x r = ap (λ (l : List ℕ). 22 ∷ v ∷ y ∷ l) (encode-join c x r)

  pub encode-join_t : (t : Term) (x r : List ℕ) → encode_t t (x ++ r) ≡ encode_t t x ++ r
  encode-join_t (CONSTANT a b c d) x r = refl
  encode-join_t (ATTRIBUTE v a) x r = refl
  encode-join_t (AGGREGATE f v y a c) x r = ap (λ (l : List ℕ). 34 ∷ f ∷ v ∷ y ∷ a ∷ l) (encode-join c x r)

take-first : (x r : List ℕ) → take (length x) (x ++ r) ≡ x
take-first [] r = refl
take-first (a ∷ x) r = ap (λ (l : List ℕ). a ∷ l) (take-first x r)

pub take-encode : (c : Condition) (r : List ℕ) → take (size c) (encode c r) ≡ encode c []
take-encode c r =
    ap₂ take (sym (size-encode c [] ∙ add-zero (size c))) (encode-join c [] r) ∙ take-first (encode c []) r

drop-four : (a b c d n : ℕ) (x : List ℕ) → drop (4 + n) (a ∷ b ∷ c ∷ d ∷ x) ≡ drop n x
drop-four a b c d n x =
    let e : 4 + n ≡ suc (suc (suc (suc n))) = omega arith in
    ap (λ (m : ℕ). drop m (a ∷ b ∷ c ∷ d ∷ x)) e

-- the first of a list of permits
module _ (p : Permit) (r : List ℕ) (h : span_of r ≡ 0) where
  span-is : span_of (encode p.condition r) ≡ size p.condition
  span-is = omega (arith, span-encode p.condition r, h)

  pub first-condition : condition_of (encode_permit p r) ≡ encode p.condition []
  unfolding condition_of encode_permit
  first-condition = ap (λ (n : ℕ). take n (encode p.condition r)) span-is ∙ take-encode p.condition r

  pub first-size : size_of (encode_permit p r) ≡ 4 + size p.condition
  unfolding size_of encode_permit
  first-size = ap (λ (n : ℕ). 4 + n) span-is

  pub first_entry : entry_at (encode_permit p r) ≡ entry_of p
  unfolding encode_permit
  first_entry =
      ap₂ (λ (h : PermitRecord) (c : List ℕ). record { head = h; condition = c }) (permit-at p.relation p.low p.high (encode p.condition r)) first-condition

  pub first_rest : drop (size_of (encode_permit p r)) (encode_permit p r) ≡ r
  unfolding encode_permit
  first_rest = ap (λ (n : ℕ). drop n (encode_permit p r)) first-size ∙ drop-four 64 p.relation p.low p.high (size p.condition) (encode p.condition r) ∙ drop-encode p.condition r

-- a list of permits starts with a permit, or is empty
pub permits-span : (ps : List Permit) → span_of (encode_permits ps) ≡ 0
unfolding encode_permits encode_permit span_of span_after
permits-span [] = refl
permits-span (p ∷ ps) = refl

-- a permit is not empty
pub some_bytes : (p : Permit) (r : List ℕ) → 0 < length (encode_permit p r)
unfolding encode_permit
some_bytes p r = omega arith

pub entries-are : (ps : List Permit) → entries (encode_permits ps) ≡ map entry_of ps
unfolding encode_permits
entries-are [] = entries_none
entries-are (p ∷ ps) =
    entries-cons (encode_permit p (encode_permits ps)) (some_bytes p (encode_permits ps))
    ∙ ap₂ (λ (e : Entry) (l : List ℕ). e ∷ entries l) (first_entry p (encode_permits ps) (permits-span ps)) (first_rest p (encode_permits ps) (permits-span ps))
    ∙ ap (λ (l : List Entry). entry_of p ∷ l) (entries-are ps)

-- a list that passes check 20
pub record Listed (pb : List ℕ) : Type 0 where
  pub bytes : pb ≡ encode_permits (permits_of pb)
  pub well : WellFormedPs (permits_of pb)
  pub found : entries pb ≡ map entry_of (permits_of pb)
  pub short : length pb ≤ 2048

pub listed : (pb : List ℕ) → fails20 pb ≡ false → Listed pb
unfolding fails20 permits_read permits_of
listed pb h = go (read_permits (suc (length pb)) pb) refl (or_no (ltb 2048 (length pb)) (failed (read_permits (suc (length pb)) pb)) h)
  where
    go : (x : Read (List Permit)) → read_permits (suc (length pb)) pb ≡ x → (ltb 2048 (length pb) ≡ false) × (failed (read_permits (suc (length pb)) pb) ≡ false) → Listed pb
    go fail e k = clash (sym k.1 ∙ ap failed e)
    go (ok ps r) e k =
        let s = permits-inverse (suc (length pb)) pb ps r e in
        let is : permits_of pb ≡ ps = ap (read_or []) e in
        record {
          bytes = s.1 ∙ ap encode_permits (sym is);
          well = subst WellFormedPs (sym is) s.0;
          found = ap entries s.1 ∙ entries-are ps ∙ ap (map entry_of) (sym is);
          short = omega (arith, ltb-false 2048 (length pb) k.0);
        }
