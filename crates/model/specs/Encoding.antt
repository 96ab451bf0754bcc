-- The bytes of queries and permits: records in prefix order, children after their parent (document 01, "Questions").
use Rattle.std.specs.Prelude.{ℕ, zero, suc, Bool, true, false, ◌||◌, List, [], ◌∷◌, eqb, leb, length}
use Rattle.std.proofs.Math.Option.{none, some}
use Rattle.model.specs.Kinds.{Kind, k-range, k-true, k-false, k-not, k-and, k-or, k-compare, k-some, k-constant, k-attribute, k-aggregate, k-permit, kind_of}
use Rattle.model.specs.Syntax.{Condition, Term, TRUE, FALSE, NOT, AND, OR, COMPARE, SOME, CONSTANT, ATTRIBUTE, AGGREGATE, Binding, Query, Permit, is_operator, is_function}

-- written: the bytes of a condition or a term, before the bytes `r`
unfoldable mutual
  pub encode : Condition → List ℕ → List ℕ
  encode TRUE r = 16 ∷ r
  encode FALSE r = 17 ∷ r
  encode (NOT c) r = 18 ∷ encode c r
  encode (AND c d) r = 19 ∷ encode c (encode d r)
  encode (OR c d) r = 20 ∷ encode c (encode d r)
  encode (COMPARE o s t) r = 21 ∷ o ∷ encode_t s (encode_t t r)
  encode (SOME v q c) r = 22 ∷ v ∷ q ∷ encode c r

  pub encode_t : Term → List ℕ → List ℕ
  encode_t (CONSTANT a b c d) r = 32 ∷ a ∷ b ∷ c ∷ d ∷ r
  encode_t (ATTRIBUTE v a) r = 33 ∷ v ∷ a ∷ r
  encode_t (AGGREGATE f v q a c) r = 34 ∷ f ∷ v ∷ q ∷ a ∷ encode c r

unfoldable pub encode_targets : List Term → List ℕ → List ℕ
encode_targets [] r = r
encode_targets (t ∷ ts) r = encode_t t (encode_targets ts r)

unfoldable pub encode_ranges : List Binding → List ℕ → List ℕ
encode_ranges [] r = r
encode_ranges (b ∷ bs) r = 1 ∷ b.variable ∷ b.relation ∷ encode_ranges bs r

unfoldable pub encode_query : Query → List ℕ
encode_query q = encode_ranges q.ranges (encode_targets q.targets (encode q.condition []))

unfoldable pub encode_permit : Permit → List ℕ → List ℕ
encode_permit p r = 64 ∷ p.relation ∷ p.low ∷ p.high ∷ encode p.condition r

unfoldable pub encode_permits : List Permit → List ℕ
encode_permits [] = []
encode_permits (p ∷ ps) = encode_permit p (encode_permits ps)

-- read: a value and the bytes after it, or nothing where the bytes are not well formed
pub data Read (A : Type 0) : Type 0 where
  fail : Read A
  ok : A → List ℕ → Read A

abbrev pub then : {A B : Type 0} → Read A → (A → List ℕ → Read B) → Read B
then fail k = fail
then (ok a r) k = k a r

-- the next byte; cut short where there is none
abbrev pub byte : {B : Type 0} → List ℕ → (ℕ → List ℕ → Read B) → Read B
byte [] k = fail
byte (b ∷ r) k = k b r

abbrev pub need : {B : Type 0} → Bool → Read B → Read B
need true g = g
need false g = fail

-- what follows a kind byte, given the readers of the children
module _ (condition : List ℕ → Read Condition) (term : List ℕ → Read Term) where
  unfoldable pub condition_body : Kind → List ℕ → Read Condition
  condition_body k-true r = ok TRUE r
  condition_body k-false r = ok FALSE r
  condition_body k-not r = then (condition r) λ c r. ok (NOT c) r
  condition_body k-and r = then (condition r) λ c r. then (condition r) λ d r. ok (AND c d) r
  condition_body k-or r = then (condition r) λ c r. then (condition r) λ d r. ok (OR c d) r
  condition_body k-compare r = byte r λ o r. need (is_operator o) (then (term r) λ s r. then (term r) λ t r. ok (COMPARE o s t) r)
  condition_body k-some r = byte r λ v r. byte r λ q r. then (condition r) λ c r. ok (SOME v q c) r
  condition_body k-constant r = fail
  condition_body k-attribute r = fail
  condition_body k-aggregate r = fail
  condition_body k-range r = fail
  condition_body k-permit r = fail

  unfoldable pub term_body : Kind → List ℕ → Read Term
  term_body k-constant r = byte r λ a r. byte r λ b r. byte r λ c r. byte r λ d r. ok (CONSTANT a b c d) r
  term_body k-attribute r = byte r λ v r. byte r λ a r. ok (ATTRIBUTE v a) r
  term_body k-aggregate r = byte r λ f r. need (is_function f) (byte r λ v r. byte r λ q r. byte r λ a r. then (condition r) λ c r. ok (AGGREGATE f v q a c) r)
  term_body k-true r = fail
  term_body k-false r = fail
  term_body k-not r = fail
  term_body k-and r = fail
  term_body k-or r = fail
  term_body k-compare r = fail
  term_body k-some r = fail
  term_body k-range r = fail
  term_body k-permit r = fail

-- an unknown kind is not well formed
unfoldable pub on_kind : {A : Type 0} → (Kind → List ℕ → Read A) → List ℕ → Read A
on_kind g [] = fail
on_kind g (k ∷ r) = elim (kind_of k) [ none ↦ fail | some x ↦ g x r ]

-- the first argument bounds the nesting; as many levels as there are bytes are enough for any bytes
unfoldable mutual
  pub read_condition : ℕ → List ℕ → Read Condition
  read_condition zero r = fail
  read_condition (suc n) r = on_kind (condition_body (λ x. read_condition n x) (λ x. read_term n x)) r

  pub read_term : ℕ → List ℕ → Read Term
  read_term zero r = fail
  read_term (suc n) r = on_kind (term_body (λ x. read_condition n x) (λ x. read_term n x)) r

unfoldable pub starts_range : List ℕ → Bool
starts_range [] = false
starts_range (k ∷ r) = eqb k 1

-- targets have kinds 33 and 34
unfoldable pub starts_target : List ℕ → Bool
starts_target [] = false
starts_target (k ∷ r) = eqb k 33 || eqb k 34

unfoldable pub read_ranges : ℕ → List ℕ → Read (List Binding)
read_ranges zero r = fail
read_ranges (suc n) r = elim (starts_range r) [
  | false ↦ ok [] r
  | true ↦ byte r λ k r. byte r λ v r. byte r λ x r. then (read_ranges n r) λ bs r. ok (record { variable = v; relation = x } ∷ bs) r
]

unfoldable pub read_targets : ℕ → List ℕ → Read (List Term)
read_targets zero r = fail
read_targets (suc n) r = elim (starts_target r) [ false ↦ ok [] r | true ↦ then (read_term n r) λ t r. then (read_targets n r) λ ts r. ok (t ∷ ts) r ]

abbrev pub at_end : {A : Type 0} → A → List ℕ → Read A
at_end a [] = ok a []
at_end a (x ∷ xs) = fail

-- RANGE records, targets (at least one), one condition, and no byte more
unfoldable pub read_query : List ℕ → Read Query
read_query bs =
    let n = suc (length bs) in
    then (read_ranges n bs) λ rs r. then (read_targets n r) λ ts r. need (leb 1 (length ts)) (then (read_condition n r) λ c r. at_end (record { ranges = rs; targets = ts; condition = c }) r)

unfoldable pub read_permit : ℕ → List ℕ → Read Permit
read_permit n r = byte r λ k r. need (eqb k 64) (byte r λ x r. byte r λ a r. byte r λ b r. then (read_condition n r) λ c r. ok (record { relation = x; low = a; high = b; condition = c }) r)

unfoldable pub read_permits : ℕ → List ℕ → Read (List Permit)
read_permits zero r = fail
read_permits (suc n) [] = ok [] []
read_permits (suc n) (x ∷ xs) = then (read_permit n (x ∷ xs)) λ p r. then (read_permits n r) λ ps r. ok (p ∷ ps) r

abbrev pub failed : {A : Type 0} → Read A → Bool
failed fail = true
failed (ok a r) = false

-- what was read, or z
abbrev pub read_or : {A : Type 0} → A → Read A → A
read_or z fail = z
read_or z (ok a r) = a

-- bytes that cannot be read count as a query with no target: 30 refuses them, whatever stands here
unfoldable pub query_of : List ℕ → Query
query_of bs = read_or (record { ranges = []; targets = []; condition = TRUE }) (read_query bs)

unfoldable pub permits_read : List ℕ → Read (List Permit)
permits_read bs = read_permits (suc (length bs)) bs

-- bytes that cannot be read count as no permits: 20 refuses them, whatever stands here
unfoldable pub permits_of : List ℕ → List Permit
permits_of bs = read_or [] (permits_read bs)
