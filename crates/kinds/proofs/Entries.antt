-- A constant table by kind agrees with the model's kinds: one test that is computed over each word, and one law for every entry.
use mathlib.Core.Path.{◌≡◌, refl, sym, ap, subst, ◌∙◌}
use mathlib.Core.Bool.{Bool, true, false, cond, ◌&&◌, ◌||◌}
use mathlib.Core.List.{List, [], ◌∷◌}
use mathlib.Core.Option.{Option, none, some}
use Prim.Native.Nat.{ℕ, zero, suc, ◌+◌, ◌*◌, ◌/◌, ◌%◌, ◌^◌, ◌<◌, ◌≤◌}
use native.Mathlib.Nat.{not-suc-le-zero}
use native.Mathlib.Omega.{arith}
use lib.Dec.{T, eqb, eqb→eq, ltb}
use borrow.Author.Tests.{ne_eqb, eqb-true, eqb-false, le-ltb}
use Rattle.model.specs.Kinds.{Kind, k-range, k-true, k-false, k-not, k-and, k-or, k-compare, k-some, k-constant, k-attribute, k-aggregate, k-permit, kinds, code, body_length, child_conditions, child_terms, find, kind_of}
use Rattle.kinds.specs.Tables.{byte_in, of_kind, body_of, conditions_of, terms_of, record_length}

and_left : (a b : Bool) → T (a && b) → T a
and_left true b t = tt
and_left false b t = t

and_right : (a b : Bool) → T (a && b) → T b
and_right true b t = t
and_right false b t = absurd t

-- the test f passes at each number below n
abbrev every : (ℕ → Bool) → ℕ → Bool
every f zero = true
every f (suc n) = f n && every f n

below : (f : ℕ → Bool) (n : ℕ) → T (every f n) → (k : ℕ) → k < n → T (f k)
below f zero t k h = absurd (not-suc-le-zero h)
below f (suc n) t k h = last (eqb k n) refl (λ l. below f n (and_right (f n) (every f n) t) k l)
  where
    last : (b : Bool) → eqb k n ≡ b → (k < n → T (f k)) → T (f k)
    last true e g = subst (λ (m : ℕ). T (f m)) (sym (eqb-true k n e)) (and_left (f n) (every f n) t)
    last false e g = g (omega (arith, h, eqb-false k n e))

-- a byte that fails a test which the bytes of all kinds pass names no kind
passes : (ℕ → Bool) → List Kind → Bool
passes p [] = true
passes p (x ∷ xs) = p (code x) && passes p xs

none-fails : (p : ℕ → Bool) (b : ℕ) → p b ≡ false → (xs : List Kind) → T (passes p xs) → find b xs ≡ none
unfolding find passes
none-fails p b h [] t = refl
none-fails p b h (x ∷ xs) t =
    let l : T (p (code x)) = and_left (p (code x)) (passes p xs) t in
    rw (ne_eqb b (code x) (λ e. subst T h (subst (λ (k : ℕ). T (p k)) (sym e) l))) (none-fails p b h xs (and_right (p (code x)) (passes p xs) t))

-- what is said of a byte that names a kind, and of one that names none
pub of_none : {A : Type 0} (d : A) (f : Kind → A) (b : ℕ) → kind_of b ≡ none → of_kind d f b ≡ d
unfolding of_kind
of_none d f b e = rw (e, of_kind)

pub of_some : {A : Type 0} (d : A) (f : Kind → A) (b : ℕ) (x : Kind) → kind_of b ≡ some x → of_kind d f b ≡ f x
unfolding of_kind
of_some d f b x e = rw (e, of_kind)

-- no kind has a byte from 65 on, and none stands in the upper half of its row of sixteen
pub past : {A : Type 0} (d : A) (f : Kind → A) (b : ℕ) → 65 ≤ b → of_kind d f b ≡ d
unfolding kind_of passes
past d f b h = of_none d f b (none-fails (λ k. ltb k 65) b (le-ltb b 65 h) kinds tt)

pub upper : {A : Type 0} (d : A) (f : Kind → A) (b : ℕ) → 8 ≤ b % 16 → of_kind d f b ≡ d
unfolding kind_of passes
upper d f b h = of_none d f b (none-fails (λ k. ltb (k % 16) 8) b (le-ltb (b % 16) 8 h) kinds tt)

-- a byte of the word for row i is what f says of the kind, where the test over the word passes
pub row-entry : (d : ℕ) (f : Kind → ℕ) (w i : ℕ) → T (every (λ l. eqb (byte_in w l) (of_kind d f (16 * i + l))) 8) → (k : ℕ) → k / 16 ≡ i → k % 16 < 8 → byte_in w (k % 8) ≡ of_kind d f k
row-entry d f w i t k e h =
    let l : k % 8 < 8 = omega arith in
    let p : 16 * i + k % 8 ≡ k = omega (arith, e, h) in
    eqb→eq (byte_in w (k % 8)) (of_kind d f (16 * i + k % 8)) (below (λ l. eqb (byte_in w l) (of_kind d f (16 * i + l))) 8 t (k % 8) l) ∙ ap (of_kind d f) p

-- f says d of a byte that fails a test, where each kind passes the test or has d
abbrev pub covered : (ℕ → Bool) → ℕ → (Kind → ℕ) → List Kind → Bool
covered p d f [] = true
covered p d f (x ∷ xs) = (p (code x) || eqb (f x) d) && covered p d f xs

covered-some : (p : ℕ → Bool) (d : ℕ) (f : Kind → ℕ) (b : ℕ) → p b ≡ false → (xs : List Kind) (x : Kind) → T (covered p d f xs) → find b xs ≡ some x → f x ≡ d
unfolding find
covered-some p d f b h [] x t e = absurd (let z : ◌≡◌ {A = Bool} true false = cc in subst T z tt)
covered-some p d f b h (y ∷ ys) x t e = go (eqb b (code y)) refl e (covered-some p d f b h ys x (and_right (p (code y) || eqb (f y) d) (covered p d f ys) t))
  where
    l : T (p (code y) || eqb (f y) d)
    l = and_left (p (code y) || eqb (f y) d) (covered p d f ys) t

    go : (c : Bool) → eqb b (code y) ≡ c → cond c (some y) (find b ys) ≡ some x → (find b ys ≡ some x → f x ≡ d) → f x ≡ d
    go true q g k = let z : y ≡ x = cc in subst (λ (w : Kind). f w ≡ d) z (eqb→eq (f y) d (subst (λ (a : Bool). T (a || eqb (f y) d)) (ap p (sym (eqb-true b (code y) q)) ∙ h) l))
    go false q g k = k g

pub outside : (p : ℕ → Bool) (d : ℕ) (f : Kind → ℕ) (b : ℕ) → p b ≡ false → T (covered p d f kinds) → of_kind d f b ≡ d
unfolding kind_of
outside p d f b h t = go (kind_of b) refl
  where
    go : (o : Option Kind) → kind_of b ≡ o → of_kind d f b ≡ d
    go none e = of_none d f b e
    go (some x) e = of_some d f b x e ∙ covered-some p d f b h kinds x t e

-- a body has at most four bytes
pub body-small : (x : Kind) → body_length x ≤ 4
body-small k-range = omega arith
body-small k-true = omega arith
body-small k-false = omega arith
body-small k-not = omega arith
body-small k-and = omega arith
body-small k-or = omega arith
body-small k-compare = omega arith
body-small k-some = omega arith
body-small k-constant = omega arith
body-small k-attribute = omega arith
body-small k-aggregate = omega arith
body-small k-permit = omega arith

pub unknown : (b : ℕ) → body_of b ≡ 255 → kind_of b ≡ none
unfolding body_of
unknown b h = go (kind_of b) refl
  where
    go : (o : Option Kind) → kind_of b ≡ o → kind_of b ≡ none
    go none e = e
    go (some x) e = absurd (omega (arith, of_some 255 body_length b x e, body-small x))

pub known : {X : Type 0} (b : ℕ) → (body_of b ≡ 255 → ⊥) → ((x : Kind) → kind_of b ≡ some x → body_of b ≡ body_length x → X) → X
unfolding body_of
known {X} b h k = go (kind_of b) refl
  where
    go : (o : Option Kind) → kind_of b ≡ o → X
    go none e = absurd (h (of_none 255 body_length b e))
    go (some x) e = k x e (of_some 255 body_length b x e)

pub length-unknown : (b : ℕ) → body_of b ≡ 255 → record_length b ≡ 1
unfolding record_length
length-unknown b h = of_none 1 (λ x. suc (body_length x)) b (unknown b h)

pub length-known : (b : ℕ) → (body_of b ≡ 255 → ⊥) → record_length b ≡ suc (body_of b)
unfolding record_length
length-known b h = known b h λ x e l. of_some 1 (λ x. suc (body_length x)) b x e ∙ ap suc (sym l)

pub length-small : (b : ℕ) → (1 ≤ record_length b) × (record_length b ≤ 5)
unfolding record_length of_kind
length-small b = go (kind_of b)
  where
    go : (o : Option Kind) → (1 ≤ elim o [ none ↦ 1 | some x ↦ suc (body_length x) ]) × (elim o [ none ↦ 1 | some x ↦ suc (body_length x) ] ≤ 5)
    go none = (omega arith, omega arith)
    go (some x) = (omega arith, omega (arith, body-small x))

-- a record has at most two children
kind-children : (x : Kind) → child_conditions x + child_terms x ≤ 2
kind-children k-range = omega arith
kind-children k-true = omega arith
kind-children k-false = omega arith
kind-children k-not = omega arith
kind-children k-and = omega arith
kind-children k-or = omega arith
kind-children k-compare = omega arith
kind-children k-some = omega arith
kind-children k-constant = omega arith
kind-children k-attribute = omega arith
kind-children k-aggregate = omega arith
kind-children k-permit = omega arith

pub children-small : (b : ℕ) → conditions_of b + terms_of b ≤ 2
unfolding conditions_of terms_of of_kind
children-small b = go (kind_of b)
  where
    go : (o : Option Kind) → elim o [ none ↦ 0 | some x ↦ child_conditions x ] + elim o [ none ↦ 0 | some x ↦ child_terms x ] ≤ 2
    go none = omega arith
    go (some x) = kind-children x

-- the length that code names
pub range_length : record_length 1 ≡ 3
unfolding record_length of_kind kind_of find
range_length = refl
