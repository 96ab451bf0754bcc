-- A walk from record to record: what is left of it, at each of its steps.
use mathlib.Core.Path.{◌≡◌, refl, sym, ap, ◌∙◌}
use mathlib.Core.List.{List, [], ◌∷◌, ◌++◌}
use Rattle.std.specs.Prelude.{None, Some}
use Rattle.std.specs.List.{slice_get}
use Prim.Native.Nat.{ℕ, zero, suc, ◌-◌, ◌<◌, ◌≤◌}
use native.Mathlib.Omega.{arith}
use lib.ListN.{length, get_or, drop, length-append}
use Rattle.model.specs.Lists.{concat_map}
use Rattle.kinds.specs.Tables.{record_length}
use Rattle.kinds.specs.Record.{record_at}
use Rattle.kinds.specs.declared.Record.{Record}
use Rattle.kinds.specs.declared.Record.TheVariants as R
use Rattle.kinds.proofs.Entries.{length-small}
use Rattle.scans.specs.Flat.{records_after, records_of, parts_after, parts_of, flat, binding_of, flat_bindings, is_binding, bound_by}
use Rattle.scans.specs.declared.BoundVariable.{BoundVariable}
use Rattle.model.specs.Syntax.{Binding}

after_is : (n : ℕ) (q : List ℕ) → records_after n q ≡ records_of (drop n q)
unfolding records_after records_of
after_is zero [] = refl
after_is (suc n) [] = refl
after_is zero (b ∷ q) = refl
after_is (suc n) (b ∷ q) = after_is n q

-- the first record, and those of the bytes after it
pub records-cons : (q : List ℕ) → 0 < length q → records_of q ≡ record_at q ∷ records_of (drop (record_length (get_or q 0 0)) q)
unfolding records_after records_of
records-cons [] h = absurd (omega arith)
records-cons (b ∷ q) h = ap (λ (l : List Record). record_at (b ∷ q) ∷ l) (after_is (record_length b - 1) q ∙ go (record_length b) (length-small b).0)
  where
    go : (n : ℕ) → 1 ≤ n → records_of (drop (n - 1) q) ≡ records_of (drop n (b ∷ q))
    go zero l = absurd (omega arith)
    go (suc n) l = let e : suc n - 1 ≡ n = omega arith in ap (λ (m : ℕ). records_of (drop m q)) e

part_after : (n : ℕ) (q : List ℕ) → parts_after n q ≡ parts_of (drop n q)
unfolding parts_after parts_of
part_after zero [] = refl
part_after (suc n) [] = refl
part_after zero (b ∷ q) = refl
part_after (suc n) (b ∷ q) = part_after n q

-- the bytes from the first record on, and those from each record after it
pub parts-cons : (q : List ℕ) → 0 < length q → parts_of q ≡ q ∷ parts_of (drop (record_length (get_or q 0 0)) q)
unfolding parts_after parts_of
parts-cons [] h = absurd (omega arith)
parts-cons (b ∷ q) h = ap (λ (l : List (List ℕ)). (b ∷ q) ∷ l) (part_after (record_length b - 1) q ∙ go (record_length b) (length-small b).0)
  where
    go : (n : ℕ) → 1 ≤ n → parts_of (drop (n - 1) q) ≡ parts_of (drop n (b ∷ q))
    go zero l = absurd (omega arith)
    go (suc n) l = let e : suc n - 1 ≡ n = omega arith in ap (λ (m : ℕ). parts_of (drop m q)) e

parts-nil : parts_of [] ≡ []
unfolding parts_after parts_of
parts-nil = refl

-- one call of the walk's `next`
pub left-none : (q : List ℕ) → None ≡ slice_get q 0 → parts_of q ≡ []
left-none [] h = parts-nil
left-none (b ∷ q) h = cc

pub left-some : (q t : List ℕ) (b n : ℕ) → Some b ≡ slice_get q 0 → n ≡ record_length b → t ≡ drop n q → parts_of q ≡ q ∷ parts_of t
left-some [] t b n h k l = cc
left-some (x ∷ q) t b n h k l =
    let e : b ≡ x = cc in
    parts-cons (x ∷ q) (omega arith) ∙ ap (λ (s : List ℕ). (x ∷ q) ∷ parts_of s) (ap (λ (m : ℕ). drop m (x ∷ q)) (ap record_length (sym e) ∙ sym k) ∙ sym l)

pub fewer : (q t : List ℕ) (b n : ℕ) → Some b ≡ slice_get q 0 → n ≡ record_length b → t ≡ drop n q → length (parts_of t) < length (parts_of q)
fewer q t b n h k l = let e = left-some q t b n h k l in rw e (omega arith)

module _ {A : Type 0} (f : Record → List A) where
  along : (n : ℕ) (q : List ℕ) → concat_map f (records_after n q) ≡ concat_map (λ x. f (record_at x)) (parts_after n q)
  unfolding records_after parts_after concat_map
  along zero [] = refl
  along (suc n) [] = refl
  along zero (b ∷ q) = ap (λ (l : List A). f (record_at (b ∷ q)) ++ l) (along (record_length b - 1) q)
  along (suc n) (b ∷ q) = along n q

  flat_parts : (q : List ℕ) → flat f q ≡ concat_map (λ x. f (record_at x)) (parts_of q)
  unfolding flat records_of parts_of
  flat_parts q = along 0 q

  -- what the records say, where the walk over them goes on to t, and where it ends
  pub flat-on : (s t x : List ℕ) → parts_of s ≡ x ∷ parts_of t → flat f s ≡ f (record_at x) ++ flat f t
  unfolding concat_map
  flat-on s t x e = flat_parts s ∙ ap (concat_map (λ y. f (record_at y))) e ∙ ap (λ (l : List A). f (record_at x) ++ l) (sym (flat_parts t))

  pub flat-over : (s : List ℕ) → parts_of s ≡ [] → flat f s ≡ []
  unfolding concat_map
  flat-over s e = flat_parts s ∙ ap (concat_map (λ y. f (record_at y))) e

-- no more records than bytes
records-few : (n : ℕ) (q : List ℕ) → length (parts_after n q) ≤ length q
unfolding parts_after
records-few zero [] = omega arith
records-few (suc n) [] = omega arith
records-few zero (b ∷ q) = omega (arith, records-few (record_length b - 1) q)
records-few (suc n) (b ∷ q) = omega (arith, records-few n q)

pub parts-few : (q : List ℕ) → length (parts_of q) ≤ length q
unfolding parts_of
parts-few q = records-few 0 q

few-each : {A : Type 0} (f : Record → List A) → ((r : Record) → length (f r) ≤ 1) → (xs : List (List ℕ)) → length (concat_map (λ x. f (record_at x)) xs) ≤ length xs
unfolding concat_map
few-each f h [] = omega arith
few-each f h (x ∷ xs) = omega (arith, h (record_at x), few-each f h xs, length-append (f (record_at x)) (concat_map (λ y. f (record_at y)) xs))

binds-one : (r : Record) → length (binding_of r) ≤ 1
binds-one (R.Range v r) = omega arith
binds-one (R.Some v r) = omega arith
binds-one (R.Aggregate f v r a) = omega arith
binds-one R.True = omega arith
binds-one R.False = omega arith
binds-one R.Not = omega arith
binds-one R.And = omega arith
binds-one R.Or = omega arith
binds-one (R.Compare o) = omega arith
binds-one (R.Constant a b c d) = omega arith
binds-one (R.Attribute v a) = omega arith
binds-one (R.Permit a b c) = omega arith
binds-one R.Unknown = omega arith
binds-one R.Short = omega arith

-- a record binds one variable at most, so that there are no more than bytes
pub bindings-few : (q : List ℕ) → length (flat_bindings q) ≤ length q
bindings-few q = omega (arith, ap length (flat_parts binding_of q), few-each binding_of binds-one (parts_of q), parts-few q)

-- a record that binds a variable, and one that binds none
module _ (s t x : List ℕ) where
  pub binding-on : (b : BoundVariable) → parts_of s ≡ x ∷ parts_of t → bound_by (Some b) ≡ binding_of (record_at x) → flat_bindings s ≡ is_binding b ∷ flat_bindings t
  binding-on b e k = flat-on binding_of s t x e ∙ ap (λ (l : List Binding). l ++ flat_bindings t) (sym k)

  pub no_binding-on : parts_of s ≡ x ∷ parts_of t → bound_by None ≡ binding_of (record_at x) → flat_bindings t ≡ flat_bindings s
  no_binding-on e k = sym (flat-on binding_of s t x e ∙ ap (λ (l : List Binding). l ++ flat_bindings t) (sym k))

-- where a walk stands before and after one of its records
parts-head : (s x : List ℕ) (xs : List (List ℕ)) → parts_of s ≡ x ∷ xs → (0 < length s) × (x ≡ s) × (parts_of (drop (record_length (get_or s 0 0)) s) ≡ xs)
parts-head [] x xs e = let n = parts-nil in cc
parts-head (b ∷ s) x xs e = let c = parts-cons (b ∷ s) (omega arith) in (omega arith, cc, cc)

parts-same : (s t : List ℕ) → parts_of s ≡ parts_of t → s ≡ t
parts-same [] [] e = refl
parts-same [] (c ∷ t) e = let n = parts-nil in let k = parts-cons (c ∷ t) (omega arith) in cc
parts-same (b ∷ s) [] e = let n = parts-nil in let k = parts-cons (b ∷ s) (omega arith) in cc
parts-same (b ∷ s) (c ∷ t) e = let n = parts-cons (b ∷ s) (omega arith) in let k = parts-cons (c ∷ t) (omega arith) in cc

pub parts-on : (s t x : List ℕ) → parts_of s ≡ x ∷ parts_of t → (0 < length s) × (x ≡ s) × (t ≡ drop (record_length (get_or s 0 0)) s)
parts-on s t x e = let h = parts-head s x (parts_of t) e in (h.0, h.1, sym (parts-same _ t h.2))

pub parts-over : (s : List ℕ) → parts_of s ≡ [] → length s ≡ 0
parts-over [] e = refl
parts-over (b ∷ s) e = let k = parts-cons (b ∷ s) (omega arith) in cc
