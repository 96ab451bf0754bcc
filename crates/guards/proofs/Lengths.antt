-- How many bytes the guards add to a query: an equation, so that the length is known before the first byte is written.
use Prim.Native.Nat.{ℕ, suc, ◌+◌}
use mathlib.Core.Bool.{Bool, cond}
use mathlib.Core.List.{List, [], ◌∷◌, ◌++◌}
use mathlib.Core.Path.{◌≡◌, refl, sym, ap, ◌∙◌}
use native.Mathlib.Omega.{arith}
use lib.Dec.{eqb}
use lib.ListN.{length}
use borrow.Author.Tests.{ne_eqb}
use Rattle.model.specs.Lists.{concat_map, total}
use Rattle.model.specs.Syntax.{Condition, Term, TRUE, FALSE, NOT, AND, OR, COMPARE, SOME, CONSTANT, ATTRIBUTE, AGGREGATE, Binding, Query, bindings, bindings_t, bindings_q}
use Rattle.model.specs.Encoding.{encode_query}
use Rattle.model.specs.Permits.{Guard, free, only, Guards}
use Rattle.model.specs.Rewriting.{copy_for, disjunction, new_in, new_number, guarded, new_for, rewrite, rewrite_t, rewrite_targets, guard_ranges, rewrite_query}
use Rattle.model.proofs.Lists.{total-append}
use Rattle.model.proofs.Sizes.{size, size_t, size_ts, size_q, size-query}
use Rattle.model.proofs.Limits.{rename-like}

-- the conditions of a guard, each with one byte more
unfoldable pub joined_bytes : List Condition → ℕ
joined_bytes cs = total (λ c. suc (size c)) cs

-- the bytes that a guard adds
unfoldable pub guard_bytes : Guard → ℕ
guard_bytes free = 0
guard_bytes (only cs) = cond (eqb (joined_bytes cs) 0) 2 (joined_bytes cs)

unfoldable pub bytes_for : Guards → List Binding → ℕ
bytes_for G bs = total (λ (b : Binding). guard_bytes (G b.variable b.relation)) bs

copy-size : (c : Condition) (v n : ℕ) → size (copy_for c v n) ≡ size c
unfolding copy_for
copy-size c v n = (rename-like c (new_number c v n)).long

disjunction-some : (c : Condition) (cs : List Condition) (v n : ℕ) → suc (size (disjunction (c ∷ cs) v n)) ≡ joined_bytes (c ∷ cs)
unfolding disjunction joined_bytes total size
disjunction-some c [] v n = omega (arith, copy-size c v n)
disjunction-some c (d ∷ ds) v n = omega (arith, copy-size c v n, disjunction-some d ds v (n + length (bindings c)))

disjunction-size : (cs : List Condition) (v n : ℕ) → suc (size (disjunction cs v n)) ≡ cond (eqb (joined_bytes cs) 0) 2 (joined_bytes cs)
unfolding disjunction joined_bytes total size
disjunction-size [] v n = refl
disjunction-size (c ∷ cs) v n =
    disjunction-some c cs v n ∙ sym (ap (λ (b : Bool). cond b 2 (joined_bytes (c ∷ cs))) (ne_eqb (joined_bytes (c ∷ cs)) 0 (λ h. absurd (omega (arith, h)))))

guarded-size : (g : Guard) (v n : ℕ) (c : Condition) → size (guarded g v n c) ≡ size c + guard_bytes g
unfolding guarded guard_bytes size
guarded-size free v n c = omega arith
guarded-size (only cs) v n c = omega (arith, disjunction-size cs v n)

module _ (G : Guards) where
  bytes-nil : bytes_for G [] ≡ 0
  unfolding bytes_for total
  bytes-nil = refl

  bytes-append : (xs ys : List Binding) → bytes_for G (xs ++ ys) ≡ bytes_for G xs + bytes_for G ys
  unfolding bytes_for
  bytes-append xs ys = total-append _ xs ys

  bytes-cons : (v r : ℕ) (bs : List Binding) → bytes_for G (record { variable = v; relation = r } ∷ bs) ≡ guard_bytes (G v r) + bytes_for G bs
  unfolding bytes_for total
  bytes-cons v r bs = refl

  mutual
    unfolding rewrite bindings size

    pub rewrite-size : (c : Condition) (n : ℕ) → size (rewrite G c n) ≡ size c + bytes_for G (bindings c)
    rewrite-size TRUE n = omega (arith, bytes-nil)
    rewrite-size FALSE n = omega (arith, bytes-nil)
    rewrite-size (NOT c) n = omega (arith, rewrite-size c n)
    rewrite-size (AND c d) n = omega (arith, rewrite-size c n, rewrite-size d (n + new_for G (bindings c)), bytes-append (bindings c) (bindings d))
    rewrite-size (OR c d) n = omega (arith, rewrite-size c n, rewrite-size d (n + new_for G (bindings c)), bytes-append (bindings c) (bindings d))
    rewrite-size (COMPARE o s t) n = omega (arith, rewrite-size_t s n, rewrite-size_t t (n + new_for G (bindings_t s)), bytes-append (bindings_t s) (bindings_t t))
    rewrite-size (SOME v r c) n = omega (arith, rewrite-size c n, guarded-size (G v r) v (n + new_for G (bindings c)) (rewrite G c n), bytes-cons v r (bindings c))

    pub rewrite-size_t : (t : Term) (n : ℕ) → size_t (rewrite_t G t n) ≡ size_t t + bytes_for G (bindings_t t)
    rewrite-size_t (CONSTANT a b c d) n = omega (arith, bytes-nil)
    rewrite-size_t (ATTRIBUTE v a) n = omega (arith, bytes-nil)
    rewrite-size_t (AGGREGATE f v r a c) n = omega (arith, rewrite-size c n, guarded-size (G v r) v (n + new_for G (bindings c)) (rewrite G c n), bytes-cons v r (bindings c))

  targets-size : (ts : List Term) (n : ℕ) → size_ts (rewrite_targets G ts n) ≡ size_ts ts + bytes_for G (concat_map bindings_t ts)
  unfolding rewrite_targets concat_map size_ts
  targets-size [] n = omega (arith, bytes-nil)
  targets-size (t ∷ ts) n = omega (arith, rewrite-size_t t n, targets-size ts (n + new_for G (bindings_t t)), bytes-append (bindings_t t) (concat_map bindings_t ts))

  ranges-size : (qs : List Binding) (n : ℕ) (c : Condition) → size (guard_ranges G qs n c) ≡ size c + bytes_for G qs
  unfolding guard_ranges
  ranges-size [] n c = omega (arith, bytes-nil)
  ranges-size (b ∷ qs) n c =
      let g = G b.variable b.relation in
      omega (arith, guarded-size g b.variable n c, ranges-size qs (n + new_in g) (guarded g b.variable n c), bytes-cons b.variable b.relation qs)

  -- the rewritten query is longer by the bytes of its guards
  pub rewritten-size : (q : Query) → length (encode_query (rewrite_query G q)) ≡ length (encode_query q) + bytes_for G (bindings_q q)
  unfolding rewrite_query size_q bindings_q
  rewritten-size q =
      let n = 8 + new_for G (concat_map bindings_t q.targets) in
      omega (arith, size-query q, size-query (rewrite_query G q), targets-size q.targets 8, rewrite-size q.condition n, ranges-size q.ranges (n + new_for G (bindings q.condition)) (rewrite G q.condition n), bytes-append q.ranges (concat_map bindings_t q.targets ++ bindings q.condition), bytes-append (concat_map bindings_t q.targets) (bindings q.condition))
