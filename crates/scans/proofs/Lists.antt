-- Tests over the bindings that are left, one record at a time; a table of marks stands for the numbers that were met.
use mathlib.Core.Path.{◌≡◌, refl, sym, ap, ap₂, ◌∙◌}
use mathlib.Core.Bool.{Bool, true, false, not, ◌&&◌, ◌||◌}
use mathlib.Core.List.{List, [], ◌∷◌, ◌++◌}
use Prim.Native.Nat.{ℕ, ◌≤◌, ◌<◌}
use native.Mathlib.Omega.{arith}
use lib.Dec.{eqb}
use lib.ListN.{length, get_or, set, replicate}
use lib.Seq.{get_or-set_same, get_or-set_other}
use borrow.Author.Tests.{eqb-true, eqb-false, ne_eqb}
use mir.Val.{bool_byte}
use Rattle.model.specs.Lists.{all, any, contains, unique, cons_if}
use Rattle.model.specs.Syntax.{Binding, variables}
use Rattle.model.proofs.Lists.{get_or-same}
use Rattle.std.specs.List.{list_all}
use Rattle.std.specs.Fn.{Called}
use Rattle.std.specs.Iterator.{YieldsFirstBy, ChecksAll}
use Rattle.std.proofs.lemmas.Iterator.Consumers.{YieldsList-from_first}
use Rattle.std.proofs.lemmas.Iterator.Search.{all_from_yields_List}
use denote.Param.Members.{Mut}
use Rattle.scans.specs.declared.BoundVariable.{BoundVariable}
use Rattle.scans.specs.declared.BoundVariables.{BoundVariables}
use Rattle.scans.specs.Flat.{seen_in, fresh, is_binding, bindings_left}

pub all_join : {A : Type 0} (t : A → Bool) (xs ys : List A) → all t (xs ++ ys) ≡ all t xs && all t ys
unfolding all
all_join t [] ys = refl
all_join t (x ∷ xs) ys = go (t x) (all_join t xs ys)
  where
    go : (b : Bool) → all t (xs ++ ys) ≡ all t xs && all t ys → b && all t (xs ++ ys) ≡ (b && all t xs) && all t ys
    go true h = h
    go false h = refl

pub list_all-all : {A : Type 0} (t : A → Bool) (xs : List A) → list_all t xs ≡ all t xs
unfolding all
list_all-all t [] = refl
list_all-all t (x ∷ xs) = ap (λ (b : Bool). t x && b) (list_all-all t xs)

-- `all` over the variables that are bound
module _ {F : Type 0} {g : Mut F (BoundVariable × Unit {0}) Bool} (t : Binding → Bool) (s : BoundVariables) (bs : List Binding) (e : bindings_left s ≡ bs) where
  pub all_bound : (u : BoundVariables) (f : F) (r : Bool) → ChecksAll (YieldsFirstBy is_binding bindings_left) g s f r u
      → ((x : BoundVariable) (b : Bool) (q : F) → Called g f (x, tt) b q → (q ≡ f) × (b ≡ t (is_binding x))) → r ≡ all t bs
  all_bound u f r h k = all_from_yields_List t u f r h (YieldsList-from_first is_binding bindings_left bs e) k ∙ list_all-all t bs

-- a number is marked after it was marked, and another as before
marked : (s : List ℕ) (v w : ℕ) → v < length s → not (seen_in (set s v 1) w) ≡ not (seen_in s w) && not (eqb v w)
marked s v w h = go (eqb v w) refl
  where
    no : (b : Bool) → false ≡ b && false
    no true = refl
    no false = refl

    yes : (b : Bool) → b ≡ b && true
    yes true = refl
    yes false = refl

    go : (b : Bool) → eqb v w ≡ b → not (seen_in (set s v 1) w) ≡ not (seen_in s w) && not (eqb v w)
    go true e =
        let p : get_or (set s v 1) w 0 ≡ 1 = ap (λ (i : ℕ). get_or (set s v 1) i 0) (sym (eqb-true v w e)) ∙ get_or-set_same s v 1 0 h in
        rw (p, e) (no (not (seen_in s w)))
    go false e =
        let p : get_or (set s v 1) w 0 ≡ get_or s w 0 = get_or-set_other s v w 1 0 (λ x. eqb-false v w e (sym x)) in
        rw (p, e) (yes (not (seen_in s w)))

all-marked : (s : List ℕ) (v : ℕ) → v < length s → (xs : List ℕ) → all (λ x. not (seen_in (set s v 1) x)) xs ≡ all (λ x. not (seen_in s x)) xs && not (contains v xs)
unfolding all contains any
all-marked s v h [] = refl
all-marked s v h (x ∷ xs) =
    ap₂ (λ (a b : Bool). a && b) (marked s v x h) (all-marked s v h xs) ∙ go (not (seen_in s x)) (eqb v x) (all (λ x. not (seen_in s x)) xs) (any (λ x. eqb v x) xs)
  where
    go : (a b c d : Bool) → (a && not b) && (c && not d) ≡ (a && c) && not (b || d)
    go true true true d = refl
    go true true false d = refl
    go true false c d = refl
    go false b c d = refl

pub fresh_step : (s : List ℕ) (v : ℕ) (xs : List ℕ) → v < length s → fresh s (v ∷ xs) ≡ not (seen_in s v) && fresh (set s v 1) xs
unfolding fresh all unique
fresh_step s v xs h =
    go (not (seen_in s v)) (all (λ x. not (seen_in s x)) xs) (not (contains v xs)) (unique xs) ∙ ap (λ (b : Bool). not (seen_in s v) && (b && unique xs)) (sym (all-marked s v h xs))
  where
    go : (a b c d : Bool) → (a && b) && (c && d) ≡ a && ((b && c) && d)
    go true true c d = refl
    go true false c d = refl
    go false b c d = refl

-- a number that is marked already, and one that is not
module _ (s : List ℕ) (v i : ℕ) (e : i ≡ v) where
  pub fresh-marked : get_or s i 0 ≡ 1 → (xs : List ℕ) → fresh s (v ∷ xs) ≡ false
  unfolding fresh all
  fresh-marked h xs = rw (sym (ap (λ (j : ℕ). get_or s j 0) e) ∙ h)

  pub fresh-first : (get_or s i 0 ≡ 1 → ⊥) → i < length s → (xs : List ℕ) → fresh s (v ∷ xs) ≡ fresh (set s i 1) xs
  fresh-first h l xs =
      fresh_step s v xs (omega arith)
      ∙ ap₂ (λ (t : Bool) (j : ℕ). not t && fresh (set s j 1) xs) (ne_eqb (get_or s v 0) 1 (λ k. h (ap (λ (j : ℕ). get_or s j 0) e ∙ k))) (sym e)

pub fresh-none : (s : List ℕ) → true ≡ fresh s []
unfolding fresh all unique
fresh-none s = refl

-- nothing is marked at first
pub fresh-blank : (n : ℕ) (xs : List ℕ) → fresh (replicate n 0) xs ≡ unique xs
unfolding fresh all
fresh-blank n xs = ap (λ (b : Bool). b && unique xs) (go xs)
  where
    go : (ys : List ℕ) → all (λ x. not (seen_in (replicate n 0) x)) ys ≡ true
    go [] = refl
    go (y ∷ ys) = rw (get_or-same {A = ℕ} n 0 y) (go ys)

-- a table that starts with variable 0 marked, or not
pub fresh_start : (zero : Bool) (xs : List ℕ) → fresh (set (replicate 256 0) 0 (bool_byte zero)) xs ≡ unique (cons_if zero 0 xs)
fresh_start true xs = sym (fresh_step (replicate 256 0) 0 xs (omega arith)) ∙ fresh-blank 256 (0 ∷ xs)
fresh_start false xs = fresh-blank 256 xs

-- a number that is alone stands once
pub few-once : (zero : Bool) (bs : List Binding) → ((zero ≡ true → length bs ≡ 0) × (zero ≡ false → length bs ≤ 1)) → true ≡ unique (cons_if zero 0 (variables bs))
unfolding unique contains any
few-once true [] h = refl
few-once true (b ∷ bs) h = absurd (omega (arith, h.0 refl))
few-once false [] h = refl
few-once false (b ∷ []) h = refl
few-once false (b ∷ c ∷ bs) h = absurd (omega (arith, h.1 refl))
