-- How many bytes conditions and terms take.
use Prim.Native.Nat.{ℕ, suc, ◌+◌, ◌*◌, ◌≤◌}
use mathlib.Core.List.{List, [], ◌∷◌}
use mathlib.Core.Path.{◌≡◌, refl, sym, ap, ◌∙◌}
use native.Mathlib.Omega.{arith}
use lib.ListN.{length, drop}
use lib.Seq.{drop-drop}
use Rattle.model.specs.Syntax.{Condition, Term, TRUE, FALSE, NOT, AND, OR, COMPARE, SOME, CONSTANT, ATTRIBUTE, AGGREGATE, Binding, Query, levels, levels_t}
use Rattle.model.specs.Encoding.{encode, encode_t, encode_targets, encode_ranges, encode_query}

-- bytes
unfoldable mutual
  pub size : Condition → ℕ
  size TRUE = 1
  size FALSE = 1
  size (NOT c) = suc (size c)
  size (AND c d) = suc (size c + size d)
  size (OR c d) = suc (size c + size d)
  size (COMPARE o s t) = 2 + (size_t s + size_t t)
  size (SOME v r c) = 3 + size c

  pub size_t : Term → ℕ
  size_t (CONSTANT a b c d) = 5
  size_t (ATTRIBUTE v a) = 3
  size_t (AGGREGATE f v r a c) = 5 + size c

mutual
  unfolding size encode

  pub size-encode : (c : Condition) (r : List ℕ) → length (encode c r) ≡ size c + length r
  size-encode TRUE r = omega arith
  size-encode FALSE r = omega arith
  size-encode (NOT c) r = omega (arith, size-encode c r)
  size-encode (AND c d) r = omega (arith, size-encode c (encode d r), size-encode d r)
  size-encode (OR c d) r = omega (arith, size-encode c (encode d r), size-encode d r)
  size-encode (COMPARE o s t) r = omega (arith, size-encode_t s (encode_t t r), size-encode_t t r)
  size-encode (SOME v q c) r = omega (arith, size-encode c r)

  pub size-encode_t : (t : Term) (r : List ℕ) → length (encode_t t r) ≡ size_t t + length r
  size-encode_t (CONSTANT a b c d) r = omega arith
  size-encode_t (ATTRIBUTE v a) r = omega arith
  size-encode_t (AGGREGATE f v q a c) r = omega (arith, size-encode c r)

-- what stands after the bytes
mutual
  unfolding size encode

  pub drop-encode : (c : Condition) (r : List ℕ) → drop (size c) (encode c r) ≡ r
  drop-encode TRUE r = refl
  drop-encode FALSE r = refl
  drop-encode (NOT c) r = drop-encode c r
  drop-encode (AND c d) r = sym (drop-drop (size d) (size c) (encode c (encode d r))) ∙ ap (drop (size d)) (drop-encode c (encode d r)) ∙ drop-encode d r
  drop-encode (OR c d) r = sym (drop-drop (size d) (size c) (encode c (encode d r))) ∙ ap (drop (size d)) (drop-encode c (encode d r)) ∙ drop-encode d r
  drop-encode (COMPARE o s t) r =
      let n : 2 + (size_t s + size_t t) ≡ suc (suc (size_t s + size_t t)) = omega arith in
      ap (λ m. drop m (21 ∷ o ∷ encode_t s (encode_t t r))) n
      ∙ sym (drop-drop (size_t t) (size_t s) (encode_t s (encode_t t r))) ∙ ap (drop (size_t t)) (drop-encode_t s (encode_t t r)) ∙ drop-encode_t t r
  drop-encode (SOME v q c) r =
      let n : 3 + size c ≡ suc (suc (suc (size c))) = omega arith in
      ap (λ m. drop m (22 ∷ v ∷ q ∷ encode c r)) n ∙ drop-encode c r

  pub drop-encode_t : (t : Term) (r : List ℕ) → drop (size_t t) (encode_t t r) ≡ r
  drop-encode_t (CONSTANT a b c d) r = refl
  drop-encode_t (ATTRIBUTE v a) r = refl
  drop-encode_t (AGGREGATE f v q a c) r =
      let n : 5 + size c ≡ suc (suc (suc (suc (suc (size c))))) = omega arith in
      ap (λ m. drop m (34 ∷ f ∷ v ∷ q ∷ a ∷ encode c r)) n ∙ drop-encode c r

pub drop-ranges : (bs : List Binding) (r : List ℕ) → drop (3 * length bs) (encode_ranges bs r) ≡ r
unfolding encode_ranges
drop-ranges [] r = refl
drop-ranges (b ∷ bs) r = let e : 3 * suc (length bs) ≡ suc (suc (suc (3 * length bs))) = omega arith in ap (λ n. drop n (1 ∷ b.variable ∷ b.relation ∷ encode_ranges bs r)) e ∙ drop-ranges bs r

-- a level is at least a byte
mutual
  unfolding size levels

  pub levels-size : (c : Condition) → levels c ≤ size c
  levels-size TRUE = omega arith
  levels-size FALSE = omega arith
  levels-size (NOT c) = omega (arith, levels-size c)
  levels-size (AND c d) = omega (arith, levels-size c, levels-size d)
  levels-size (OR c d) = omega (arith, levels-size c, levels-size d)
  levels-size (COMPARE o s t) = omega (arith, levels-size_t s, levels-size_t t)
  levels-size (SOME v r c) = omega (arith, levels-size c)

  pub levels-size_t : (t : Term) → levels_t t ≤ size_t t
  levels-size_t (CONSTANT a b c d) = omega arith
  levels-size_t (ATTRIBUTE v a) = omega arith
  levels-size_t (AGGREGATE f v r a c) = omega (arith, levels-size c)

unfoldable pub size_ts : List Term → ℕ
size_ts [] = 0
size_ts (t ∷ ts) = size_t t + size_ts ts

unfoldable pub size_q : Query → ℕ
size_q q = 3 * length q.ranges + size_ts q.targets + size q.condition

pub size-targets : (ts : List Term) (r : List ℕ) → length (encode_targets ts r) ≡ size_ts ts + length r
unfolding encode_targets size_ts
size-targets [] r = omega arith
size-targets (t ∷ ts) r = omega (arith, size-encode_t t (encode_targets ts r), size-targets ts r)

pub size-ranges : (bs : List Binding) (r : List ℕ) → length (encode_ranges bs r) ≡ 3 * length bs + length r
unfolding encode_ranges
size-ranges [] r = omega arith
size-ranges (b ∷ bs) r = omega (arith, size-ranges bs r)

pub size-query : (q : Query) → length (encode_query q) ≡ size_q q
unfolding encode_query size_q
size-query q = omega (arith, size-ranges q.ranges (encode_targets q.targets (encode q.condition [])), size-targets q.targets (encode q.condition []), size-encode q.condition [])
