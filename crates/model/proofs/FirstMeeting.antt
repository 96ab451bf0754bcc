-- The answer has each row once, in order of first meeting (specs/Demands: `FirstMeeting`).
use Prim.Native.Nat.{ℕ, zero, suc, ◌<◌}
use mathlib.Core.Bool.{Bool, true, false}
use mathlib.Core.List.{List, [], ◌∷◌, ◌++◌, append_assoc, append-nil}
use mathlib.Core.Path.{◌≡◌, refl, sym, ◌∙◌, ap, subst}
use native.Mathlib.Omega.{arith}
use lib.Dec.{ltb}
use lib.IntN.{ℤ}
use lib.ListN.{length, get_or, length-append, get_or-append}
use lib.Seq.{get_or_at}
use borrow.Author.Tests.{ltb-true, ltb-false}
use Rattle.model.specs.Lists.{any}
use Rattle.model.specs.Meaning.{same_row, add_row, add_rows, rows_met, answers}
use Rattle.model.specs.Demands.{FirstAt, InOrder}
use Rattle.model.proofs.Tests.{clash, or-inv, or_no}
use Rattle.model.proofs.Monotone.{same-equal, same_refl}

abbrev Row : Type 0
Row = List ℤ

-- below, equal or above
three : {X : Type 0} (k l : ℕ) → (k < l → X) → (k ≡ l → X) → (l < k → X) → X
three {X} k l a b c = go (ltb k l) (ltb l k) refl refl
  where
    go : (s t : Bool) → ltb k l ≡ s → ltb l k ≡ t → X
    go true t p q = a (ltb-true k l p)
    go false true p q = c (ltb-true l k q)
    go false false p q = b (omega (arith, ltb-false k l p, ltb-false l k q))

-- the last place, or one before it
last_or : {X : Type 0} (rows : List Row) (x : Row) (j : ℕ) → j < length (rows ++ (x ∷ [])) → (j < length rows → X) → (j ≡ length rows → X) → X
last_or rows x j h a b = let n = length-append rows (x ∷ []) in three j (length rows) a b (λ g. absurd (omega arith))

-- a row that a test finds, and one that it does not find
found : (x : Row) (rows : List Row) → any (same_row x) rows ≡ true → (i : ℕ) × (i < length rows) × (get_or rows i [] ≡ x)
unfolding any
found x [] h = clash h
found x (y ∷ rows) h =
    or-inv (same_row x y) (any (same_row x) rows) h (λ e. (0, omega arith, sym (same-equal x y e))) (λ e. let i = found x rows e in (suc i.0, omega (arith, i.1), i.2))

not_found : (x : Row) (rows : List Row) → any (same_row x) rows ≡ false → (i : ℕ) → i < length rows → get_or rows i [] ≡ x → ⊥
unfolding any
not_found x [] h i l e = omega arith
not_found x (y ∷ rows) h zero l e = clash (sym (or_no (same_row x y) (any (same_row x) rows) h).0 ∙ subst (λ (z : Row). same_row x z ≡ true) (sym e) (same_refl x))
not_found x (y ∷ rows) h (suc i) l e = not_found x rows (or_no (same_row x y) (any (same_row x) rows) h).1 i (omega arith) e

-- a first place is one only, and stays where rows follow
one-first : (x : Row) (rows : List Row) (k l : ℕ) → FirstAt x rows k → FirstAt x rows l → k ≡ l
one-first x rows k l f g = three k l (λ h. absurd (g.earlier k h f.here)) (λ e. e) (λ h. absurd (f.earlier l h g.here))

first-stays : (x : Row) (rows ys : List Row) (k : ℕ) → FirstAt x rows k → FirstAt x (rows ++ ys) k
first-stays x rows ys k f = record {
  inside = omega (arith, length-append rows ys, f.inside);
  here = get_or-append rows ys [] k f.inside ∙ f.here;
  earlier = λ j l e. f.earlier j l (sym (get_or-append rows ys [] j (omega (arith, f.inside))) ∙ e);
}

-- what a walk over the rows keeps; `rising` gives `once` and `before`
record Kept (met kept : List Row) : Type 0 where
  from : (i : ℕ) → i < length kept → (k : ℕ) × FirstAt (get_or kept i []) met k
  into : (k : ℕ) → k < length met → (i : ℕ) × (i < length kept) × (get_or kept i [] ≡ get_or met k [])
  rising : (i j k l : ℕ) → i < j → j < length kept → FirstAt (get_or kept i []) met k → FirstAt (get_or kept j []) met l → k < l

-- one row more is met
module _ (met kept : List Row) (x : Row) (h : Kept met kept) where
  abbrev met' : List Row
  met' = met ++ (x ∷ [])

  stays : (i : ℕ) (l : i < length kept) → FirstAt (get_or kept i []) met' (h.from i l).0
  stays i l = let f = h.from i l in first-stays (get_or kept i []) met (x ∷ []) f.0 f.1

  -- the first place of an older row is the one it had
  same_place : (i k : ℕ) (l : i < length kept) → FirstAt (get_or kept i []) met' k → k ≡ (h.from i l).0
  same_place i k l f = one-first (get_or kept i []) met' k (h.from i l).0 f (stays i l)

  older : (i j k l : ℕ) → i < j → j < length kept → FirstAt (get_or kept i []) met' k → FirstAt (get_or kept j []) met' l → k < l
  older i j k l a b f g =
      let c : i < length kept = omega arith in
      let r = h.rising i j (h.from i c).0 (h.from j b).0 a b (h.from i c).1 (h.from j b).1 in
      omega (arith, r, same_place i k c f, same_place j l b g)

  -- the row stands at the end of those met
  at-end : get_or met' (length met) [] ≡ x
  at-end = get_or_at met x [] [] (length met) refl

  again : any (same_row x) kept ≡ true → Kept met' kept
  again e = record {
    from = λ i l. ((h.from i l).0, stays i l);
    into = λ k l. last_or met x k l (λ b. let i = h.into k b in (i.0, i.1, i.2 ∙ sym (get_or-append met (x ∷ []) [] k b))) (λ z. let i = found x kept e in (i.0, i.1, i.2 ∙ sym at-end ∙ ap (λ (m : ℕ). get_or met' m []) (sym z)));
    rising = older;
  }

  module _ (e : any (same_row x) kept ≡ false) where
    abbrev kept' : List Row
    kept' = kept ++ (x ∷ [])

    -- it is met for the first time
    first : FirstAt x met' (length met)
    first = record {
      inside = omega (arith, length-append met (x ∷ []));
      here = at-end;
      earlier = λ j l z. let i = h.into j l in not_found x kept e i.0 i.1 (i.2 ∙ sym (get_or-append met (x ∷ []) [] j l) ∙ z);
    }

    old : (i : ℕ) → i < length kept → get_or kept' i [] ≡ get_or kept i []
    old i l = get_or-append kept (x ∷ []) [] i l

    new : (i : ℕ) → i ≡ length kept → get_or kept' i [] ≡ x
    new i z = get_or_at kept x [] [] i (sym z)

    more : Kept met' kept'
    more = record {
      from = λ i l. last_or kept x i l (λ a. ((h.from i a).0, rw (old i a) (stays i a))) (λ z. (length met, rw (new i z) first));
      into = λ k l. last_or met x k l
          (λ b. let i = h.into k b in (i.0, omega (arith, i.1, length-append kept (x ∷ [])), old i.0 i.1 ∙ i.2 ∙ sym (get_or-append met (x ∷ []) [] k b)))
          (λ z. (length kept, omega (arith, length-append kept (x ∷ [])), new (length kept) refl ∙ sym at-end ∙ ap (λ (m : ℕ). get_or met' m []) (sym z)));
      rising = λ i j k l a b f g. last_or kept x j b
          (λ c. older i j k l a c (rw (old i (omega arith)) at f) (rw (old j c) at g))
          (λ z.
          let c : i < length kept = omega arith in
          let p = same_place i k c (rw (old i c) at f) in
          let q = one-first x met' l (length met) (rw (new j z) at g) first in
          omega (arith, p, q, (h.from i c).1.inside));
    }

kept_row : (met kept : List Row) (x : Row) → Kept met kept → Kept (met ++ (x ∷ [])) (add_row kept x)
unfolding add_row
kept_row met kept x h = go (any (same_row x) kept) refl
  where
    go : (b : Bool) → any (same_row x) kept ≡ b → Kept (met ++ (x ∷ [])) (elim b [ true ↦ kept | false ↦ kept ++ (x ∷ []) ])
    go true e = again met kept x h e
    go false e = more met kept x h e

kept-rows : (met kept xs : List Row) → Kept met kept → Kept (met ++ xs) (add_rows kept xs)
unfolding add_rows
kept-rows met kept [] h = rw append-nil h
kept-rows met kept (x ∷ xs) h = subst (λ (m : List Row). Kept m (add_rows (add_row kept x) xs)) (append_assoc met (x ∷ []) xs) (kept-rows (met ++ (x ∷ [])) (add_row kept x) xs (kept_row met kept x h))

pub first-meeting : InOrder
unfolding answers
first-meeting q R = record {
  once = λ i j a b e. let f = k.from i (omega arith) in let g = k.from j b in absurd (omega (arith, k.rising i j f.0 g.0 a b f.1 g.1, one-first (get_or (answers q R) i []) met f.0 g.0 f.1 (rw (← e) at g.1)));
  from = k.from;
  into = k.into;
  before = λ i j m n a b f g. (λ l. k.rising i j m n l b f g, λ l. three i j (λ c. c) (λ e. absurd (omega (arith, one-first (get_or (answers q R) i []) met m n f (rw (← e) at g)))) (λ c. absurd (omega (arith, k.rising j i n m c a g f))));
}
  where
    met : List Row
    met = rows_met q R

    k : Kept met (answers q R)
    k = kept-rows [] [] met (record { from = λ i l. absurd (omega arith); into = λ k l. absurd (omega arith); rising = λ i j k l a b f g. absurd (omega arith) })
