-- The table of kinds and the bytes say the same (document 01: "one byte of kind, then a body whose length the kind fixes"; "children follow their parent").
-- proofs/Records.antt proves it.
use Rattle.std.specs.Prelude.{ℕ, List, [], ◌∷◌, ◌++◌, ◌≡◌, length}
use Rattle.model.specs.Kinds.{Kind, k-range, k-true, k-false, k-not, k-and, k-or, k-compare, k-some, k-constant, k-attribute, k-aggregate, k-permit, code, body_length, child_conditions, child_terms}
use Rattle.model.specs.Syntax.{Condition, Term, TRUE, FALSE, NOT, AND, OR, COMPARE, SOME, CONSTANT, ATTRIBUTE, AGGREGATE, Binding, Permit}
use Rattle.model.specs.Encoding.{encode, encode_t, encode_targets, encode_ranges, encode_permit}

-- conditions one after the other
unfoldable pub encode_all : List Condition → List ℕ → List ℕ
encode_all [] r = r
encode_all (c ∷ cs) r = encode c (encode_all cs r)

-- the bytes `bs` are a record of kind k: its byte, a body, the terms and the conditions under it, then `r`
pub record IsRecord (k : Kind) (bs : List ℕ) (r : List ℕ) : Type 0 where
  pub body : List ℕ
  pub terms : List Term
  pub conditions : List Condition
  pub body-length : length body ≡ body_length k
  pub term-count : length terms ≡ child_terms k
  pub condition-count : length conditions ≡ child_conditions k
  pub bytes : bs ≡ code k ∷ (body ++ encode_targets terms (encode_all conditions r))

-- the kind of a condition's record, and of a term's
abbrev pub kind_c : Condition → Kind
kind_c TRUE = k-true
kind_c FALSE = k-false
kind_c (NOT c) = k-not
kind_c (AND c d) = k-and
kind_c (OR c d) = k-or
kind_c (COMPARE o s t) = k-compare
kind_c (SOME v r c) = k-some

abbrev pub kind_t : Term → Kind
kind_t (CONSTANT a b c d) = k-constant
kind_t (ATTRIBUTE v a) = k-attribute
kind_t (AGGREGATE f v r a c) = k-aggregate

pub record ByTable : Type 0 where
  pub condition : (c : Condition) (r : List ℕ) → IsRecord (kind_c c) (encode c r) r
  pub term : (t : Term) (r : List ℕ) → IsRecord (kind_t t) (encode_t t r) r
  pub range : (b : Binding) (bs : List Binding) (r : List ℕ) → IsRecord k-range (encode_ranges (b ∷ bs) r) (encode_ranges bs r)
  pub permit : (p : Permit) (r : List ℕ) → IsRecord k-permit (encode_permit p r) r
