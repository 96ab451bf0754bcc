-- Laws of the list functions.
use Prim.Native.Nat.{ℕ, zero, suc, ◌+◌}
use native.Mathlib.Nat.{add-zero}
use native.Mathlib.Omega.{arith}
use mathlib.Core.Bool.{Bool, true, false, cond, ◌&&◌, ◌||◌}
use mathlib.Core.List.{List, [], ◌∷◌, ◌++◌, map, map-append, append_assoc}
use mathlib.Core.Path.{◌≡◌, refl, sym, ◌∙◌, ap}
use lib.ListN.{length, get_or, drop, replicate}
use lib.Seq.{get_or-drop}
use Rattle.model.specs.Lists.{cons_if, filter, any, all, concat_map, total, backwards, Every}
use Rattle.model.proofs.Tests.{and-inv, and_intro, or-inv, or_left, or_right, any_append}

module _ {A : Type 0} (f g : A → Bool) where
  pub any-filter : (xs : List A) → any (λ x. f x && g x) xs ≡ any f (filter g xs)
  unfolding any filter
  any-filter [] = refl
  any-filter (x ∷ xs) = go (f x) (g x) refl refl (any-filter xs)
    where
      go : (a b : Bool) → f x ≡ a → g x ≡ b → any (λ x. f x && g x) xs ≡ any f (filter g xs) → (f x && g x) || any (λ x. f x && g x) xs ≡ any f (cons_if (g x) x (filter g xs))
      go true true p q h = rw (p, q, p)
      go true false p q h = rw (p, q, h)
      go false true p q h = rw (p, q, p, h)
      go false false p q h = rw (p, q, h)

  pub filter-filter : (xs : List A) → filter (λ x. f x && g x) xs ≡ filter f (filter g xs)
  unfolding filter
  filter-filter [] = refl
  filter-filter (x ∷ xs) = go (f x) (g x) refl refl (filter-filter xs)
    where
      go : (a b : Bool) → f x ≡ a → g x ≡ b → filter (λ x. f x && g x) xs ≡ filter f (filter g xs) → cons_if (f x && g x) x (filter (λ x. f x && g x) xs) ≡ filter f (cons_if (g x) x (filter g xs))
      go true true p q h = rw (p, q, p, h)
      go true false p q h = rw (p, q, h)
      go false true p q h = rw (p, q, p, h)
      go false false p q h = rw (p, q, h)

module _ {A B : Type 0} (f : A → B) (g : B → Bool) where
  pub any-map : (xs : List A) → any g (map f xs) ≡ any (λ x. g (f x)) xs
  unfolding any
  any-map [] = refl
  any-map (x ∷ xs) = ap (λ b. g (f x) || b) (any-map xs)

  pub filter_map : (xs : List A) → filter g (map f xs) ≡ map f (filter (λ x. g (f x)) xs)
  unfolding filter
  filter_map [] = refl
  filter_map (x ∷ xs) = go (g (f x)) (filter_map xs)
    where
      go : (a : Bool) → filter g (map f xs) ≡ map f (filter (λ x. g (f x)) xs) → cons_if a (f x) (filter g (map f xs)) ≡ map f (cons_if a x (filter (λ x. g (f x)) xs))
      go true h = ap (λ l. f x ∷ l) h
      go false h = h

  pub concat_map-map : {C : Type 0} (h : B → List C) (xs : List A) → concat_map h (map f xs) ≡ concat_map (λ x. h (f x)) xs
  unfolding concat_map
  concat_map-map h [] = refl
  concat_map-map h (x ∷ xs) = ap (λ l. h (f x) ++ l) (concat_map-map h xs)

module _ {A : Type 0} (p : A → Bool) where
  pub filter-append : (xs ys : List A) → filter p (xs ++ ys) ≡ filter p xs ++ filter p ys
  unfolding filter
  filter-append [] ys = refl
  filter-append (x ∷ xs) ys = go (p x) (filter-append xs ys)
    where
      go : (b : Bool) → filter p (xs ++ ys) ≡ filter p xs ++ filter p ys → cons_if b x (filter p (xs ++ ys)) ≡ cons_if b x (filter p xs) ++ filter p ys
      go true h = ap (λ l. x ∷ l) h
      go false h = h

  pub filter-concat_map : {B : Type 0} (h : B → List A) (xs : List B) → filter p (concat_map h xs) ≡ concat_map (λ x. filter p (h x)) xs
  unfolding concat_map filter
  filter-concat_map h [] = refl
  filter-concat_map h (x ∷ xs) = filter-append (h x) (concat_map h xs) ∙ ap (λ l. filter p (h x) ++ l) (filter-concat_map h xs)

  -- a test that does not look at the element
  pub filter-const : (b : Bool) (xs : List A) → filter (λ x. p x && b) xs ≡ cond b (filter p xs) []
  unfolding filter
  filter-const true [] = refl
  filter-const false [] = refl
  filter-const true (x ∷ xs) = go (p x) (filter-const true xs)
    where
      go : (b : Bool) → filter (λ x. p x && true) xs ≡ filter p xs → cons_if (b && true) x (filter (λ x. p x && true) xs) ≡ cons_if b x (filter p xs)
      go true h = ap (λ l. x ∷ l) h
      go false h = h
  filter-const false (x ∷ xs) = go (p x) (filter-const false xs)
    where
      go : (b : Bool) → filter (λ x. p x && false) xs ≡ [] → cons_if (b && false) x (filter (λ x. p x && false) xs) ≡ []
      go true h = h
      go false h = h

  pub concat_map-filter : {B : Type 0} (h : A → List B) (xs : List A) → concat_map (λ x. cond (p x) (h x) []) xs ≡ concat_map h (filter p xs)
  unfolding concat_map filter
  concat_map-filter h [] = refl
  concat_map-filter h (x ∷ xs) = go (p x) (concat_map-filter h xs)
    where
      go : (b : Bool) → concat_map (λ x. cond (p x) (h x) []) xs ≡ concat_map h (filter p xs) → cond b (h x) [] ++ concat_map (λ x. cond (p x) (h x) []) xs ≡ concat_map h (cons_if b x (filter p xs))
      go true e = ap (λ l. h x ++ l) e
      go false e = e

pub map-concat_map : {A B C : Type 0} (g : B → C) (h : A → List B) (xs : List A) → map g (concat_map h xs) ≡ concat_map (λ x. map g (h x)) xs
unfolding concat_map
map-concat_map g h [] = refl
map-concat_map g h (x ∷ xs) = map-append g (h x) (concat_map h xs) ∙ ap (λ l. map g (h x) ++ l) (map-concat_map g h xs)

pub total-append : {A : Type 0} (f : A → ℕ) (xs ys : List A) → total f (xs ++ ys) ≡ total f xs + total f ys
unfolding total
total-append f [] ys = omega arith
total-append f (x ∷ xs) ys = omega (arith, total-append f xs ys)

pub concat_map-append : {A B : Type 0} (f : A → List B) (xs ys : List A) → concat_map f (xs ++ ys) ≡ concat_map f xs ++ concat_map f ys
unfolding concat_map
concat_map-append f [] ys = refl
concat_map-append f (x ∷ xs) ys = ap (λ l. f x ++ l) (concat_map-append f xs ys) ∙ sym (append_assoc (f x) (concat_map f xs) (concat_map f ys))

module _ {A : Type 0} where
  pub every_append : (P : A → Type 0) (xs ys : List A) → Every P (xs ++ ys) → Every P xs × Every P ys
  unfolding Every
  every_append P [] ys h = (tt, h)
  every_append P (x ∷ xs) ys h = let i = every_append P xs ys h.1 in ((h.0, i.0), i.1)

  pub every-join : (P : A → Type 0) (xs ys : List A) → Every P xs → Every P ys → Every P (xs ++ ys)
  unfolding Every
  every-join P [] ys h k = k
  every-join P (x ∷ xs) ys h k = (h.0, every-join P xs ys h.1 k)

  pub every_map : (P Q : A → Type 0) (f : (x : A) → P x → Q x) (xs : List A) → Every P xs → Every Q xs
  unfolding Every
  every_map P Q f [] h = tt
  every_map P Q f (x ∷ xs) h = (f x h.0, every_map P Q f xs h.1)

  pub every-both : (P Q : A → Type 0) (xs : List A) → Every P xs → Every Q xs → Every (λ x. P x × Q x) xs
  unfolding Every
  every-both P Q [] h k = tt
  every-both P Q (x ∷ xs) h k = ((h.0, k.0), every-both P Q xs h.1 k.1)

  pub every-filter : (P : A → Type 0) (t : A → Bool) (xs : List A) → Every P xs → Every P (filter t xs)
  unfolding Every filter
  every-filter P t [] h = tt
  every-filter P t (x ∷ xs) h = go (t x) (every-filter P t xs h.1)
    where
      go : (b : Bool) → Every P (filter t xs) → Every P (cons_if b x (filter t xs))
      go true k = (h.0, k)
      go false k = k

-- tests of a list: a weaker test, and an element more
module _ {A : Type 0} where
  pub any-weaken : (f g : A → Bool) → ((x : A) → f x ≡ true → g x ≡ true) → (xs : List A) → any f xs ≡ true → any g xs ≡ true
  unfolding any
  any-weaken f g k [] h = h
  any-weaken f g k (x ∷ xs) h = or-inv (f x) (any f xs) h (λ e. or_left (g x) (any g xs) (k x e)) (λ e. or_right (g x) (any g xs) (any-weaken f g k xs e))

  pub all-weaken : (f g : A → Bool) → ((x : A) → f x ≡ true → g x ≡ true) → (xs : List A) → all f xs ≡ true → all g xs ≡ true
  unfolding all
  all-weaken f g k [] h = h
  all-weaken f g k (x ∷ xs) h = let i = and-inv (f x) (all f xs) h in and_intro (g x) (all g xs) (k x i.0) (all-weaken f g k xs i.1)

  pub any-concat_map : {B : Type 0} (f : A → Bool) (h : B → List A) (xs : List B) → any f (concat_map h xs) ≡ any (λ x. any f (h x)) xs
  unfolding any concat_map
  any-concat_map f h [] = refl
  any-concat_map f h (x ∷ xs) = any_append f (h x) (concat_map h xs) ∙ ap (λ b. any f (h x) || b) (any-concat_map f h xs)

  -- an element that fails the test
  pub any-skip : (f : A → Bool) (xs : List A) (y : A) (ys : List A) → f y ≡ false → any f (xs ++ (y ∷ ys)) ≡ any f (xs ++ ys)
  unfolding any
  any-skip f [] y ys e = rw e
  any-skip f (x ∷ xs) y ys e = ap (λ b. f x || b) (any-skip f xs y ys e)

  -- lists as sets: every test that some element of the first meets, some element of the second meets
  abbrev pub Within : List A → List A → Type 0
  Within xs ys = (f : A → Bool) → any f xs ≡ true → any f ys ≡ true

  pub within-insert : (xs : List A) (y : A) (ys : List A) → Within (xs ++ ys) (xs ++ (y ∷ ys))
  unfolding any
  within-insert [] y ys f h = or_right (f y) (any f ys) h
  within-insert (x ∷ xs) y ys f h = or-inv (f x) (any f (xs ++ ys)) h (λ e. or_left (f x) (any f (xs ++ (y ∷ ys))) e) (λ e. or_right (f x) (any f (xs ++ (y ∷ ys))) (within-insert xs y ys f e))

-- from the last to the first
pub backwards-last : {A : Type 0} (xs : List A) (y : A) → backwards (xs ++ (y ∷ [])) ≡ y ∷ backwards xs
unfolding backwards
backwards-last [] y = refl
backwards-last (x ∷ xs) y = ap (λ l. l ++ (x ∷ [])) (backwards-last xs y)

pub map-backwards : {A B : Type 0} (f : A → B) (xs : List A) → map f (backwards xs) ≡ backwards (map f xs)
unfolding backwards
map-backwards f [] = refl
map-backwards f (x ∷ xs) = map-append f (backwards xs) (x ∷ []) ∙ ap (λ l. l ++ (f x ∷ [])) (map-backwards f xs)

-- a list of one value, past its end too
pub get_or-same : {A : Type 0} (n : ℕ) (k : A) (v : ℕ) → get_or (replicate n k) v k ≡ k
get_or-same zero k v = refl
get_or-same (suc n) k zero = refl
get_or-same (suc n) k (suc v) = get_or-same n k v

-- the first number of a part
pub first-at : (at : ℕ) (q : List ℕ) → get_or (drop at q) 0 0 ≡ get_or q at 0
first-at at q = get_or-drop at q 0 0 ∙ ap (λ (i : ℕ). get_or q i 0) (add-zero at)

pub nothing_left : {A : Type 0} (x : List A) → length x ≡ 0 → x ≡ []
nothing_left [] h = refl
nothing_left (a ∷ x) h = absurd (omega arith)
