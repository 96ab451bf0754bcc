-- The copy of a condition that is written out is the renamed condition, written out.
use mathlib.Core.Path.{◌≡◌, refl, sym, ap, ap₂, ◌∙◌}
use mathlib.Core.Bool.{Bool, true, false, cond, ◌||◌}
use mathlib.Core.List.{List, [], ◌∷◌, ◌++◌, map, append_assoc}
use Prim.Native.Nat.{ℕ, zero, suc, ◌+◌, ◌*◌, ◌/◌, ◌%◌, ◌≤◌}
use native.Mathlib.Omega.{arith}
use lib.Dec.{eqb}
use lib.ListN.{length}
use borrow.Author.Tests.{eq-eqb, ne_eqb}
use Rattle.model.specs.Lists.{index_of, total, filter, any, cons_if}
use Rattle.model.specs.Syntax.{Condition, Term, TRUE, FALSE, NOT, AND, OR, COMPARE, SOME, CONSTANT, ATTRIBUTE, AGGREGATE, Binding, variables, bindings}
use Rattle.model.specs.Encoding.{encode, encode_t}
use Rattle.model.specs.Rewriting.{rename, rename_t, new_number, copy_for, disjunction}
use Rattle.model.specs.Kinds.{k-true, k-false, k-not, k-and, k-or, k-compare, k-some, k-constant, k-attribute, k-aggregate}
use Rattle.kinds.specs.declared.Record.{Record}
use Rattle.scans.specs.Flat.{flat}
use Rattle.scans.proofs.Whole.{at, nothing-flat, bindings-condition}
use Rattle.copier.specs.Copied.{record_bytes, renamed_record, number_in, copied_bytes}
use Rattle.copier.specs.Guard.{picked, new_in_part, disjunction_bytes, bits_of, PartsOf}
use Rattle.copier.proofs.Turns.{picked_none}

-- every record of a condition renamed, whatever follows
module _ (ρ : ℕ → ℕ) where
  abbrev f : Record → List ℕ
  f r = record_bytes (renamed_record ρ r)

  mutual
    unfolding encode encode_t rename rename_t

    pub renamed-flat : (c : Condition) (r : List ℕ) → flat f (encode c r) ≡ encode (rename ρ c) (flat f r)
    renamed-flat TRUE r = at f k-true r (omega arith)
    renamed-flat FALSE r = at f k-false r (omega arith)
    renamed-flat (NOT c) r = at f k-not (encode c r) (omega arith) ∙ ap (λ (l : List ℕ). 18 ∷ l) (renamed-flat c r)
    renamed-flat (AND c d) r = at f k-and (encode c (encode d r)) (omega arith) ∙ ap (λ (l : List ℕ). 19 ∷ l) (renamed-flat c (encode d r) ∙ ap (encode (rename ρ c)) (renamed-flat d r))
    renamed-flat (OR c d) r = at f k-or (encode c (encode d r)) (omega arith) ∙ ap (λ (l : List ℕ). 20 ∷ l) (renamed-flat c (encode d r) ∙ ap (encode (rename ρ c)) (renamed-flat d r))
    renamed-flat (COMPARE o s t) r = at f k-compare (o ∷ encode_t s (encode_t t r)) (omega arith) ∙ ap (λ (l : List ℕ). 21 ∷ o ∷ l) (renamed-flat_t s (encode_t t r) ∙ ap (encode_t (rename_t ρ s)) (renamed-flat_t t r))
    renamed-flat (SOME v x c) r = at f k-some (v ∷ x ∷ encode c r) (omega arith) ∙ ap (λ (l : List ℕ). 22 ∷ ρ v ∷ x ∷ l) (renamed-flat c r)

    pub renamed-flat_t : (t : Term) (r : List ℕ) → flat f (encode_t t r) ≡ encode_t (rename_t ρ t) (flat f r)
    renamed-flat_t (CONSTANT a b c d) r = at f k-constant (a ∷ b ∷ c ∷ d ∷ r) (omega arith)
    renamed-flat_t (ATTRIBUTE v a) r = at f k-attribute (v ∷ a ∷ r) (omega arith)
    renamed-flat_t (AGGREGATE h v x a c) r = at f k-aggregate (h ∷ v ∷ x ∷ a ∷ encode c r) (omega arith) ∙ ap (λ (l : List ℕ). 34 ∷ h ∷ ρ v ∷ x ∷ a ∷ l) (renamed-flat c r)

number_same : (c : Condition) (v n : ℕ) → number_in (encode c []) v n ≡ new_number c v n
unfolding number_in new_number
number_same c v n = ap {B = ℕ → ℕ} (λ (bs : List Binding) (w : ℕ). cond (eqb w 0) v (n + index_of w (variables bs))) (bindings-condition c)

-- the copy of a condition's bytes is the bytes of the copied condition
pub copied-written : (c : Condition) (v n : ℕ) → copied_bytes (encode c []) v n ≡ encode (copy_for c v n) []
unfolding copied_bytes copy_for
copied-written c v n =
    ap (λ (ρ : ℕ → ℕ). flat (λ r. record_bytes (renamed_record ρ r)) (encode c [])) (number_same c v n)
    ∙ renamed-flat (new_number c v n) c []
    ∙ ap (encode (rename (new_number c v n) c)) (nothing-flat _)

-- what follows a condition, or a term
after : (f g : List ℕ → List ℕ) → ((s : List ℕ) → f s ≡ f [] ++ s) → ((s : List ℕ) → g s ≡ g [] ++ s) → (r : List ℕ) → f (g r) ≡ f (g []) ++ r
after f g hf hg r = hf (g r) ∙ ap (λ (l : List ℕ). f [] ++ l) (hg r) ∙ sym (append_assoc (f []) (g []) r) ∙ ap (λ (l : List ℕ). l ++ r) (sym (hf (g [])))

mutual
  unfolding encode encode_t

  pub encode-append : (c : Condition) (r : List ℕ) → encode c r ≡ encode c [] ++ r
  encode-append TRUE r = refl
  encode-append FALSE r = refl
  encode-append (NOT c) r = ap (λ (l : List ℕ). 18 ∷ l) (encode-append c r)
  encode-append (AND c d) r = ap (λ (l : List ℕ). 19 ∷ l) (after (encode c) (encode d) (λ s. encode-append c s) (λ s. encode-append d s) r)
  encode-append (OR c d) r = ap (λ (l : List ℕ). 20 ∷ l) (after (encode c) (encode d) (λ s. encode-append c s) (λ s. encode-append d s) r)
  encode-append (COMPARE o s t) r = ap (λ (l : List ℕ). 21 ∷ o ∷ l) (after (encode_t s) (encode_t t) (λ x. encode-append_t s x) (λ x. encode-append_t t x) r)
  encode-append (SOME v q c) r = ap (λ (l : List ℕ). 22 ∷ v ∷ q ∷ l) (encode-append c r)

  pub encode-append_t : (t : Term) (r : List ℕ) → encode_t t r ≡ encode_t t [] ++ r
  encode-append_t (CONSTANT a b c d) r = refl
  encode-append_t (ATTRIBUTE v a) r = refl
  encode-append_t (AGGREGATE f v q a c) r = ap (λ (l : List ℕ). 34 ∷ f ∷ v ∷ q ∷ a ∷ l) (encode-append c r)

-- the guard of conditions that are written out is their disjunction, written out
pub disjunction-written : (cs : List Condition) (v n : ℕ) → disjunction_bytes (map (λ c. encode c []) cs) v n ≡ encode (disjunction cs v n) []
unfolding disjunction_bytes disjunction encode
disjunction-written [] v n = refl
disjunction-written (c ∷ []) v n = copied-written c v n
disjunction-written (c ∷ d ∷ cs) v n =
    ap (λ (l : List ℕ). 20 ∷ l)
    (ap₂ (λ (x : List ℕ) (k : ℕ). x ++ disjunction_bytes (map (λ c. encode c []) (d ∷ cs)) v (n + k)) (copied-written c v n) (ap length (bindings-condition c))
    ∙ ap (λ (x : List ℕ). encode (copy_for c v n) [] ++ x) (disjunction-written (d ∷ cs) v (n + length (bindings c)))
    ∙ sym (encode-append (copy_for c v n) (encode (disjunction (d ∷ cs) v (n + length (bindings c))) []))
    )

pub numbers-written : (cs : List Condition) → total new_in_part (map (λ c. encode c []) cs) ≡ total (λ c. length (bindings c)) cs
unfolding total
numbers-written [] = refl
numbers-written (c ∷ cs) = ap₂ ◌+◌ (ap length (bindings-condition c)) (numbers-written cs)

-- the mask of a list picks those that pass the test
module _ {A : Type 0} (t : A → Bool) where
  bits_none : (xs : List A) → bits_of t xs ≡ 0 → filter t xs ≡ []
  unfolding bits_of filter
  bits_none [] h = refl
  bits_none (x ∷ xs) h = go (t x) h (λ e. bits_none xs e)
    where
      go : (b : Bool) → cond b 1 0 + 2 * bits_of t xs ≡ 0 → (bits_of t xs ≡ 0 → filter t xs ≡ []) → cons_if b x (filter t xs) ≡ []
      go true h i = absurd (omega arith)
      go false h i = i (omega arith)

  pub bits-some : (xs : List A) → any t xs ≡ true → bits_of t xs ≡ 0 → ⊥
  unfolding bits_of any
  bits-some [] e h = let z : ◌≡◌ {A = ℕ} 0 1 = ap (λ (b : Bool). cond b 1 0) e in omega arith
  bits-some (x ∷ xs) e h = go (t x) e h (λ e h. bits-some xs e h)
    where
      go : (b : Bool) → (b || any t xs) ≡ true → cond b 1 0 + 2 * bits_of t xs ≡ 0 → (any t xs ≡ true → bits_of t xs ≡ 0 → ⊥) → ⊥
      go true e h i = omega arith
      go false e h i = i e (omega arith)

  pub picked-filter : (g : A → List ℕ) (f : ℕ → List ℕ) (xs : List A) (l k : ℕ) → bits_of t xs ≤ l → PartsOf g f k xs → picked l (bits_of t xs) k f ≡ map g (filter t xs)
  unfolding bits_of filter PartsOf picked
  picked-filter g f [] l k h p = picked_none l k f
  picked-filter g f (x ∷ xs) zero k h p = sym (ap (map g) (bits_none (x ∷ xs) (omega arith)))
  picked-filter g f (x ∷ xs) (suc l) k h p = go (t x) h (λ e. picked-filter g f xs l (suc k) e p.1)
    where
      go : (b : Bool) → cond b 1 0 + 2 * bits_of t xs ≤ suc l → (bits_of t xs ≤ l → picked l (bits_of t xs) (suc k) f ≡ map g (filter t xs))
          → cons_if (eqb ((cond b 1 0 + 2 * bits_of t xs) % 2) 1) (f k) (picked l ((cond b 1 0 + 2 * bits_of t xs) / 2) (suc k) f) ≡ map g (cons_if b x (filter t xs))
      go true h i =
          let e : (1 + 2 * bits_of t xs) / 2 ≡ bits_of t xs = omega arith in
          let o : (1 + 2 * bits_of t xs) % 2 ≡ 1 = omega arith in
          rw (eq-eqb ((1 + 2 * bits_of t xs) % 2) 1 o, e) (ap₂ (λ (y : List ℕ) (ys : List (List ℕ)). y ∷ ys) p.0 (i (omega arith)))
      go false h i =
          let e : (0 + 2 * bits_of t xs) / 2 ≡ bits_of t xs = omega arith in
          let o : (0 + 2 * bits_of t xs) % 2 ≡ 1 → ⊥ = λ o. omega arith in
          rw (ne_eqb ((0 + 2 * bits_of t xs) % 2) 1 o, e) (i (omega arith))
