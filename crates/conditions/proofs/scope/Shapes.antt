-- The shape that catalogue bytes describe, by its numbers; the model's where check 10 passes.
use mathlib.Core.Path.{◌≡◌, refl, sym, ap, ◌∙◌}
use mathlib.Core.Bool.{false, not}
use mathlib.Core.List.{List, [], ◌∷◌}
use Prim.Native.Nat.{ℕ, zero, suc, ◌+◌, ◌*◌, ◌<◌, ◌≤◌, zero-le}
use native.Mathlib.Omega.{arith}
use lib.Dec.{eqb, ltb}
use lib.ListN.{length, get_or}
use borrow.Author.Tests.{le-ltb}
use Rattle.model.specs.Catalogue.{Shape, shape_of, catalogue_of, attributes_at}
use Rattle.model.specs.Checks.{fails10}
use Rattle.catalogue.specs.Layout.{kind_of, attributes_of, count_of}
use Rattle.catalogue.proofs.Reading.{relations_in, relations-are}
use Rattle.conditions.specs.Reach.{shape_in}

pub shape-length : (c : List ℕ) → length (shape_in c) ≡ count_of c
unfolding shape_in
shape-length (k ∷ w ∷ a ∷ b ∷ r) = omega (arith, shape-length r)
shape-length (k ∷ w ∷ a ∷ []) = omega arith
shape-length (k ∷ w ∷ []) = omega arith
shape-length (k ∷ []) = omega arith
shape-length [] = omega arith

four : (k w a b : ℕ) (c : List ℕ) (n m i : ℕ) → n ≡ suc (suc (suc (suc m))) → m ≡ i → get_or (k ∷ w ∷ a ∷ b ∷ c) n 0 ≡ get_or c i 0
four k w a b c n m i e f = ap (λ (j : ℕ). get_or (k ∷ w ∷ a ∷ b ∷ c) j 0) e ∙ ap (λ (j : ℕ). get_or c j 0) f

pub attributes-in : (c : List ℕ) (r : ℕ) → r < count_of c → attributes_at (shape_in c) r ≡ attributes_of c r
unfolding shape_in attributes_at attributes_of
attributes-in (k ∷ w ∷ a ∷ b ∷ c) zero h = refl
attributes-in (k ∷ w ∷ a ∷ b ∷ c) (suc r) h = attributes-in c r (omega arith) ∙ sym (four k w a b c (4 * suc r + 1) (4 * r + 1) (4 * r + 1) (omega arith) refl)
attributes-in (k ∷ w ∷ a ∷ []) r h = absurd (omega arith)
attributes-in (k ∷ w ∷ []) r h = absurd (omega arith)
attributes-in (k ∷ []) r h = absurd (omega arith)
attributes-in [] r h = absurd (omega arith)

pub attributes-past : (sh : Shape) (r : ℕ) → length sh ≤ r → attributes_at sh r ≡ 0
unfolding attributes_at
attributes-past [] r h = refl
attributes-past (x ∷ xs) zero h = absurd (omega arith)
attributes-past (x ∷ xs) (suc r) h = attributes-past xs r (omega arith)

relations-shape : (n : ℕ) (c : List ℕ) → length c ≡ 4 * n → shape_in c ≡ shape_of (relations_in n c)
unfolding shape_in shape_of relations_in kind_of attributes_of
relations-shape zero [] e = refl
relations-shape zero (k ∷ c) e = absurd (omega arith)
relations-shape (suc n) (k ∷ w ∷ a ∷ b ∷ c) e = ap (λ (sh : Shape). record { stored = not (eqb k 49); latest = eqb k 50; attributes = w } ∷ sh) (relations-shape n c (omega arith))
relations-shape (suc n) (k ∷ w ∷ a ∷ []) e = absurd (omega arith)
relations-shape (suc n) (k ∷ w ∷ []) e = absurd (omega arith)
relations-shape (suc n) (k ∷ []) e = absurd (omega arith)
relations-shape (suc n) [] e = absurd (omega arith)

pub shape_is : (c : List ℕ) → fails10 c ≡ false → shape_in c ≡ shape_of (catalogue_of c)
shape_is c h = let r = relations-are c h in relations-shape (count_of c) c r.1 ∙ ap shape_of (sym r.0)

-- a relation's attribute, as the code tests it
module _ (c : List ℕ) (r a n : ℕ) (en : n ≡ count_of c) where
  pub has-none : n ≤ r → false ≡ ltb a (attributes_at (shape_in c) r)
  has-none h = sym (ap (λ (m : ℕ). ltb a m) (attributes-past (shape_in c) r (omega (arith, shape-length c))) ∙ le-ltb a 0 zero-le)

  pub has_some : r < n → (b : ℕ) → b ≡ get_or c (4 * r + 1) 0 → ltb a b ≡ ltb a (attributes_at (shape_in c) r)
  unfolding attributes_of
  has_some h b eb = ap (λ (m : ℕ). ltb a m) (eb ∙ sym (attributes-in c r (omega arith)))
