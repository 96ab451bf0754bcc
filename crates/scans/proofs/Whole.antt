-- The flat walk over what was written finds what the trees bind and use, in the same order.
use mathlib.Core.Path.{◌≡◌, refl, sym, ap, ◌∙◌}
use mathlib.Core.List.{List, [], ◌∷◌, ◌++◌, append_assoc, append-nil}
use mathlib.Core.Option.{some}
use Prim.Native.Nat.{ℕ, suc, ◌≤◌}
use native.Mathlib.Omega.{arith}
use lib.ListN.{length, get_or, drop}
use Rattle.model.specs.Lists.{concat_map, unique}
use Rattle.model.specs.Syntax.{Condition, Term, TRUE, FALSE, NOT, AND, OR, COMPARE, SOME, CONSTANT, ATTRIBUTE, AGGREGATE, Binding, Use, Query, Permit, variables, bindings, bindings_t, bindings_q, uses, uses_t, uses_q}
use Rattle.model.specs.Encoding.{encode, encode_t, encode_targets, encode_ranges, encode_query, encode_permit}
use Rattle.model.specs.Kinds.{Kind, k-range, k-true, k-false, k-not, k-and, k-or, k-compare, k-some, k-constant, k-attribute, k-aggregate, k-permit, code, body_length, kind_of, find}
use Rattle.model.specs.Permits.{used_of}
use Rattle.model.specs.Scope.{bound_once}
use Rattle.kinds.specs.Tables.{record_length}
use Rattle.kinds.specs.Record.{filled}
use Rattle.kinds.specs.declared.Record.{Record}
use Rattle.kinds.proofs.Entries.{of_some}
use Rattle.kinds.proofs.Records.{whole-record}
use Rattle.scans.specs.Flat.{records_after, records_of, flat, binding_of, use_of, flat_bindings, flat_uses, used_in}
use Rattle.scans.proofs.Walk.{records-cons}

kind-is : (x : Kind) → kind_of (code x) ≡ some x
unfolding kind_of find
kind-is k-range = refl
kind-is k-true = refl
kind-is k-false = refl
kind-is k-not = refl
kind-is k-and = refl
kind-is k-or = refl
kind-is k-compare = refl
kind-is k-some = refl
kind-is k-constant = refl
kind-is k-attribute = refl
kind-is k-aggregate = refl
kind-is k-permit = refl

-- a record that is whole, then the rest
pub at : {A : Type 0} (f : Record → List A) (x : Kind) (s : List ℕ) → body_length x ≤ length s → flat f (code x ∷ s) ≡ f (filled (get_or s 0 0) (get_or s 1 0) (get_or s 2 0) (get_or s 3 0) x) ++ flat f (drop (body_length x) s)
unfolding flat concat_map record_length
at f x s h =
    ap (concat_map f) (records-cons (code x ∷ s) (omega arith))
    ∙ ap (λ (y : Record). f y ++ concat_map f (records_of (drop (record_length (code x)) (code x ∷ s)))) (whole-record (code x) s x (kind-is x) h)
    ∙ ap (λ (n : ℕ). f (filled (get_or s 0 0) (get_or s 1 0) (get_or s 2 0) (get_or s 3 0) x) ++ concat_map f (records_of (drop n (code x ∷ s)))) (of_some 1 (λ y. suc (body_length y)) (code x) x (kind-is x))

-- two parts, one after the other
both : {A : Type 0} (xs ys zs l m : List A) → l ≡ xs ++ m → m ≡ ys ++ zs → l ≡ (xs ++ ys) ++ zs
both xs ys zs l m p q = p ∙ ap (λ (n : List _). xs ++ n) q ∙ sym (append_assoc xs ys zs)

mutual
  unfolding encode encode_t bindings bindings_t

  pub bindings-flat : (c : Condition) (r : List ℕ) → flat_bindings (encode c r) ≡ bindings c ++ flat_bindings r
  bindings-flat TRUE r = at binding_of k-true r (omega arith)
  bindings-flat FALSE r = at binding_of k-false r (omega arith)
  bindings-flat (NOT c) r = at binding_of k-not (encode c r) (omega arith) ∙ bindings-flat c r
  bindings-flat (AND c d) r = at binding_of k-and (encode c (encode d r)) (omega arith) ∙ both (bindings c) (bindings d) _ _ _ (bindings-flat c (encode d r)) (bindings-flat d r)
  bindings-flat (OR c d) r = at binding_of k-or (encode c (encode d r)) (omega arith) ∙ both (bindings c) (bindings d) _ _ _ (bindings-flat c (encode d r)) (bindings-flat d r)
  bindings-flat (COMPARE o s t) r = at binding_of k-compare (o ∷ encode_t s (encode_t t r)) (omega arith) ∙ both (bindings_t s) (bindings_t t) _ _ _ (bindings-flat_t s (encode_t t r)) (bindings-flat_t t r)
  bindings-flat (SOME v x c) r = at binding_of k-some (v ∷ x ∷ encode c r) (omega arith) ∙ ap (λ (l : List Binding). record { variable = v; relation = x } ∷ l) (bindings-flat c r)

  pub bindings-flat_t : (t : Term) (r : List ℕ) → flat_bindings (encode_t t r) ≡ bindings_t t ++ flat_bindings r
  bindings-flat_t (CONSTANT a b c d) r = at binding_of k-constant (a ∷ b ∷ c ∷ d ∷ r) (omega arith)
  bindings-flat_t (ATTRIBUTE v a) r = at binding_of k-attribute (v ∷ a ∷ r) (omega arith)
  bindings-flat_t (AGGREGATE f v x a c) r = at binding_of k-aggregate (f ∷ v ∷ x ∷ a ∷ encode c r) (omega arith) ∙ ap (λ (l : List Binding). record { variable = v; relation = x } ∷ l) (bindings-flat c r)

mutual
  unfolding encode encode_t uses uses_t

  pub uses-flat : (c : Condition) (r : List ℕ) → flat_uses (encode c r) ≡ uses c ++ flat_uses r
  uses-flat TRUE r = at use_of k-true r (omega arith)
  uses-flat FALSE r = at use_of k-false r (omega arith)
  uses-flat (NOT c) r = at use_of k-not (encode c r) (omega arith) ∙ uses-flat c r
  uses-flat (AND c d) r = at use_of k-and (encode c (encode d r)) (omega arith) ∙ both (uses c) (uses d) _ _ _ (uses-flat c (encode d r)) (uses-flat d r)
  uses-flat (OR c d) r = at use_of k-or (encode c (encode d r)) (omega arith) ∙ both (uses c) (uses d) _ _ _ (uses-flat c (encode d r)) (uses-flat d r)
  uses-flat (COMPARE o s t) r = at use_of k-compare (o ∷ encode_t s (encode_t t r)) (omega arith) ∙ both (uses_t s) (uses_t t) _ _ _ (uses-flat_t s (encode_t t r)) (uses-flat_t t r)
  uses-flat (SOME v x c) r = at use_of k-some (v ∷ x ∷ encode c r) (omega arith) ∙ uses-flat c r

  pub uses-flat_t : (t : Term) (r : List ℕ) → flat_uses (encode_t t r) ≡ uses_t t ++ flat_uses r
  uses-flat_t (CONSTANT a b c d) r = at use_of k-constant (a ∷ b ∷ c ∷ d ∷ r) (omega arith)
  uses-flat_t (ATTRIBUTE v a) r = at use_of k-attribute (v ∷ a ∷ r) (omega arith)
  uses-flat_t (AGGREGATE f v x a c) r = at use_of k-aggregate (f ∷ v ∷ x ∷ a ∷ encode c r) (omega arith) ∙ ap (λ (l : List Use). record { variable = v; attribute = a } ∷ l) (uses-flat c r)

bindings-targets : (ts : List Term) (r : List ℕ) → flat_bindings (encode_targets ts r) ≡ concat_map bindings_t ts ++ flat_bindings r
unfolding encode_targets concat_map
bindings-targets [] r = refl
bindings-targets (t ∷ ts) r = both (bindings_t t) (concat_map bindings_t ts) _ _ _ (bindings-flat_t t (encode_targets ts r)) (bindings-targets ts r)

uses-targets : (ts : List Term) (r : List ℕ) → flat_uses (encode_targets ts r) ≡ concat_map uses_t ts ++ flat_uses r
unfolding encode_targets concat_map
uses-targets [] r = refl
uses-targets (t ∷ ts) r = both (uses_t t) (concat_map uses_t ts) _ _ _ (uses-flat_t t (encode_targets ts r)) (uses-targets ts r)

bindings-ranges : (bs : List Binding) (r : List ℕ) → flat_bindings (encode_ranges bs r) ≡ bs ++ flat_bindings r
unfolding encode_ranges
bindings-ranges [] r = refl
bindings-ranges (b ∷ bs) r = at binding_of k-range (b.variable ∷ b.relation ∷ encode_ranges bs r) (omega arith) ∙ ap (λ (l : List Binding). b ∷ l) (bindings-ranges bs r)

uses-ranges : (bs : List Binding) (r : List ℕ) → flat_uses (encode_ranges bs r) ≡ flat_uses r
unfolding encode_ranges
uses-ranges [] r = refl
uses-ranges (b ∷ bs) r = at use_of k-range (b.variable ∷ b.relation ∷ encode_ranges bs r) (omega arith) ∙ uses-ranges bs r

pub nothing-flat : {A : Type 0} (f : Record → List A) → flat f [] ≡ []
unfolding flat concat_map records_of records_after
nothing-flat f = refl

-- a condition that is all there is
pub bindings-condition : (c : Condition) → flat_bindings (encode c []) ≡ bindings c
bindings-condition c = bindings-flat c [] ∙ ap (λ (l : List Binding). bindings c ++ l) (nothing-flat binding_of) ∙ append-nil (bindings c)

pub uses-condition : (c : Condition) → flat_uses (encode c []) ≡ uses c
uses-condition c = uses-flat c [] ∙ ap (λ (l : List Use). uses c ++ l) (nothing-flat use_of) ∙ append-nil (uses c)

-- a whole query
pub bindings-query : (q : Query) → flat_bindings (encode_query q) ≡ bindings_q q
unfolding encode_query bindings_q
bindings-query q =
    bindings-ranges q.ranges (encode_targets q.targets (encode q.condition []))
    ∙ ap (λ (l : List Binding). q.ranges ++ l) (bindings-targets q.targets (encode q.condition []) ∙ ap (λ (l : List Binding). concat_map bindings_t q.targets ++ l) (bindings-condition q.condition))

pub uses-query : (q : Query) → flat_uses (encode_query q) ≡ uses_q q
unfolding encode_query uses_q
uses-query q =
    uses-ranges q.ranges (encode_targets q.targets (encode q.condition []))
    ∙ uses-targets q.targets (encode q.condition [])
    ∙ ap (λ (l : List Use). concat_map uses_t q.targets ++ l) (uses-condition q.condition)

pub used-query : (q : Query) (v a : ℕ) → used_in (flat_uses (encode_query q)) v a ≡ used_of q v a
unfolding used_in used_of
used-query q v a = ap (λ (us : List Use). used_in us v a) (uses-query q)

-- a permit, its own record first
pub bindings-permit : (p : Permit) (r : List ℕ) → flat_bindings (encode_permit p r) ≡ bindings p.condition ++ flat_bindings r
unfolding encode_permit
bindings-permit p r = at binding_of k-permit (p.relation ∷ p.low ∷ p.high ∷ encode p.condition r) (omega arith) ∙ bindings-flat p.condition r

-- each number bound once, known bindings
pub once-query : (q : Query) → unique (variables (flat_bindings (encode_query q))) ≡ bound_once q
unfolding bound_once
once-query q = ap (λ (bs : List Binding). unique (variables bs)) (bindings-query q)
