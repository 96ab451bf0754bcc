-- The stage of a condition: its truth depends on the variables of its attributes alone.
use Prim.Native.Nat.{ℕ, zero, suc, ◌+◌, ◌-◌, ◌*◌, ◌≤◌, ◌<◌}
use mathlib.Core.Bool.{Bool, true, false, not, cond, ◌&&◌, ◌||◌}
use mathlib.Core.List.{List, [], ◌∷◌, map}
use mathlib.Core.Option.{Option, none, some}
use mathlib.Core.Path.{◌≡◌, refl, sym, ap, ap₂, ◌∙◌, fun_ext}
use native.Mathlib.Omega.{arith}
use native.Mathlib.Numerals.{sub-one}
use lib.Dec.{eqb, leb}
use lib.ListN.{length, get_or, drop}
use lib.Seq.{drop-drop, get_or-drop}
use borrow.Author.Tests.{ne_eqb}
use Rattle.model.specs.Kinds.{Kind, k-range, k-true, k-false, k-not, k-and, k-or, k-compare, k-some, k-constant, k-attribute, k-aggregate, k-permit, kinds, code, find, kind_of, body_length, child_conditions, child_terms}
use Rattle.model.proofs.Lists.{first-at}
use Rattle.model.specs.Lists.{update, filter, any, contains}
use Rattle.model.specs.Syntax.{Binding, variables}
use Rattle.model.specs.Meaning.{Tuple, Assignment, whole, compare, aggregate, known_or, holds_with}
use Rattle.model.proofs.Reading.{find-inv}
use Rattle.model.proofs.Tests.{or_no}
use Rattle.kinds.specs.Tables.{record_length, conditions_of, terms_of, of_kind}
use Rattle.kinds.specs.Record.{record_at, within, filled}
use Rattle.kinds.specs.Places.{condition_of, term_of}
use Rattle.kinds.specs.declared.Record.{Record}
use Rattle.kinds.specs.declared.Record.TheVariants as R
use Rattle.kinds.proofs.Entries.{of_none, of_some}
use Rattle.sizes.specs.Decode.{decode, decode_t, condition_by, term_by, first, second}
use Rattle.sizes.specs.Measured.{children_of}
use Rattle.sizes.specs.Parts.{ranges_at}
use Rattle.sizes.proofs.Decoding.{decode-step, decode_t-step}
use Rattle.numbers.specs.Recalled.{recall, holds_by, value_by}
use Rattle.conjuncts.specs.Stages.{Extends}
use Rattle.conjuncts.specs.Filling.{Stable, StableT, Settled}

pub length-ranges : (n : ℕ) (q : List ℕ) → length (ranges_at n q) ≡ n
unfolding ranges_at
length-ranges zero q = refl
length-ranges (suc n) q = ap suc (length-ranges n (drop (record_length 1) q))

-- all ranges are bound
none_after : (n : ℕ) (q : List ℕ) → drop n (ranges_at n q) ≡ []
unfolding ranges_at
none_after zero q = refl
none_after (suc n) q = none_after n (drop (record_length 1) q)

-- range n of those that q starts with
range-there : (ranges n : ℕ) (q : List ℕ) → suc n ≤ ranges → drop n (ranges_at ranges q) ≡ record { variable = get_or q (3 * n + 1) 0; relation = get_or q (3 * n + 2) 0 } ∷ drop (suc n) (ranges_at ranges q)
unfolding ranges_at record_length of_kind kind_of find
range-there zero n q h = absurd (omega arith)
range-there (suc ranges) zero q h = refl
range-there (suc ranges) (suc n) q h =
    range-there ranges n (drop 3 q) (omega arith)
    ∙ ap₂ (λ (v r : ℕ). record { variable = v; relation = r } ∷ drop (suc n) (ranges_at ranges (drop 3 q))) (there 1) (there 2)
  where
    there : (i : ℕ) → get_or (drop 3 q) (3 * n + i) 0 ≡ get_or q (3 * suc n + i) 0
    there i = get_or-drop 3 q (3 * n + i) 0 ∙ ap (λ (j : ℕ). get_or q j 0) (omega arith)

-- no range from n on binds the variable, and none from n - 1 on where that one does not
pub none_from : (v n ranges : ℕ) (q : List ℕ) → n ≡ ranges → contains v (variables (drop n (ranges_at ranges q))) ≡ false
unfolding contains any
none_from v n ranges q h = rw h (ap (λ (bs : List Binding). contains v (variables bs)) (none_after ranges q))

pub none_before : (v n ranges b : ℕ) (q : List ℕ) → 0 < n → n ≤ ranges → b ≡ get_or q (3 * (n - 1) + 1) 0 → (b ≡ v → ⊥) → contains v (variables (drop n (ranges_at ranges q))) ≡ false
    → contains v (variables (drop (n - 1) (ranges_at ranges q))) ≡ false
unfolding contains any
none_before v zero ranges b q nz le eb ne h = absurd (omega arith)
none_before v (suc n) ranges b q nz le eb ne h = rw (sub-one, range-there ranges n q le, ne_eqb v (get_or q (3 * n + 1) 0) other) h
  where
    other : v ≡ get_or q (3 * n + 1) 0 → ⊥
    other e = let i : 3 * (suc n - 1) + 1 ≡ 3 * n + 1 = omega arith in ne (eb ∙ ap (λ (j : ℕ). get_or q j 0) i ∙ sym e)

-- a stage may be later
fewer : (s t : ℕ) (bs : List Binding) → s ≤ t → (w : ℕ) → contains w (variables (drop s bs)) ≡ false → contains w (variables (drop t bs)) ≡ false
unfolding contains any
fewer zero zero bs l w h = h
fewer zero (suc t) [] l w h = h
fewer zero (suc t) (b ∷ bs) l w h = fewer zero t bs (omega arith) w (or_no (eqb w b.variable) (contains w (variables bs)) h).1
fewer (suc s) zero bs l w h = absurd (omega arith)
fewer (suc s) (suc t) [] l w h = h
fewer (suc s) (suc t) (b ∷ bs) l w h = fewer s t bs (omega arith) w h

later-settled : (s t l : ℕ) (q z : List ℕ) (bs : List Binding) → s ≤ t → Settled s l q z bs → Settled t l q z bs
later-settled s t l q z bs le k = record {
  condition = λ m R e e' h. k.condition m R e e' (λ w x. h w (fewer s t bs le w x));
  term = λ m R e e' h. k.term m R e e' (λ w x. h w (fewer s t bs le w x));
}

pub all_settled : (s ranges l : ℕ) (query q z : List ℕ) → s ≡ ranges → Settled s l q z (ranges_at ranges query)
unfolding contains any
all_settled s ranges l query q z h = record {
  condition = λ m R e e' k. ap (holds_by m (decode l q z) R) (fun_ext λ w. sym (k w (none_from w s ranges query h)));
  term = λ m R e e' k. ap (value_by m (decode_t l q z) R) (fun_ext λ w. sym (k w (none_from w s ranges query h)));
}

pub zero_settled : (l : ℕ) (q z : List ℕ) (bs : List Binding) → l ≡ 0 → Settled 0 l q z bs
unfolding decode holds_with
zero_settled l q z bs h = rw h (record { condition = λ m R e e' k. refl; term = λ m R e e' k. refl })

-- a row of one variable is put in place of what both have
extends-row : (bs : List Binding) (e e' : Assignment) (v : ℕ) (x : Tuple) → Extends bs e e' → Extends bs (update e v x) (update e' v x)
extends-row bs e e' v x h w k = ap (λ (y : Tuple). cond (eqb w v) x y) (h w k)

-- by the kind of record, given its children
module _ (s : ℕ) (bs : List Binding) (l : ℕ) (q z : List ℕ) where
  abbrev Part : ℕ → Type 0
  Part i = Settled s l (drop i q) (drop i z) bs

  by_kind : (x : Kind) (whole? : Bool) (a b c d : ℕ) → (x ≡ k-attribute → contains a (variables (drop s bs)) ≡ false) → (1 ≤ child_conditions x + child_terms x → Part (first q)) → (2 ≤ child_conditions x + child_terms x → Part (second q z))
      → Stable (condition_by (condition_of (cond whole? (filled a b c d x) R.Short)) (λ x y. decode l x y) (λ x y. decode_t l x y) q z) s bs × StableT (term_by (term_of (cond whole? (filled a b c d x) R.Short)) (λ x y. decode l x y) q z) s bs
  unfolding holds_with
  by_kind x false a b c d att one two = (λ m R e e' k. refl, λ m R e e' k. refl)
  by_kind k-range true a b c d att one two = (λ m R e e' k. refl, λ m R e e' k. refl)
  by_kind k-true true a b c d att one two = (λ m R e e' k. refl, λ m R e e' k. refl)
  by_kind k-false true a b c d att one two = (λ m R e e' k. refl, λ m R e e' k. refl)
  by_kind k-not true a b c d att one two = (λ m R e e' k. ap not ((one (omega arith)).condition m R e e' k), λ m R e e' k. refl)
  by_kind k-and true a b c d att one two = (λ m R e e' k. ap₂ ◌&&◌ ((one (omega arith)).condition m R e e' k) ((two (omega arith)).condition m R e e' k), λ m R e e' k. refl)
  by_kind k-or true a b c d att one two = (λ m R e e' k. ap₂ ◌||◌ ((one (omega arith)).condition m R e e' k) ((two (omega arith)).condition m R e e' k), λ m R e e' k. refl)
  by_kind k-compare true a b c d att one two = (λ m R e e' k. ap₂ (compare a) ((one (omega arith)).term m R e e' k) ((two (omega arith)).term m R e e' k), λ m R e e' k. refl)
  by_kind k-some true a b c d att one two = (λ m R e e' k. ap (λ (p : Tuple → Bool). any p (R a b)) (fun_ext λ x. (one (omega arith)).condition m R (update e a x) (update e' a x) (extends-row (drop s bs) e e' a x k)), λ m R e e' k. refl)
  by_kind k-constant true a b c d att one two = (λ m R e e' k. refl, λ m R e e' k. refl)
  by_kind k-attribute true a b c d att one two = (λ m R e e' k. refl, λ m R e e' k. ap (λ (x : Tuple). some (whole (x b))) (sym (k a (att refl))))
  by_kind k-aggregate true a b c d att one two = (
    λ m R e e' k. refl,
    λ m R e e' k. ap (λ (p : Tuple → Bool). known_or (recall m b) (aggregate a (map (λ (x : Tuple). x d) (filter p (R b c))))) (fun_ext λ x. (one (omega arith)).condition m R (update e b x) (update e' b x) (extends-row (drop s bs) e e' b x k)),
  )
  by_kind k-permit true a b c d att one two = (λ m R e e' k. refl, λ m R e e' k. refl)

settled : (s l : ℕ) (q z : List ℕ) (bs : List Binding) → (l ≡ 0 → ⊥) → (get_or q 0 0 ≡ 33 → contains (get_or q 1 0) (variables (drop s bs)) ≡ false)
    → (1 ≤ children_of (get_or q 0 0) → Settled s (l - 1) (drop (first q) q) (drop (first q) z) bs) → (2 ≤ children_of (get_or q 0 0) → Settled s (l - 1) (drop (second q z) q) (drop (second q z) z) bs)
    → Settled s l q z bs
unfolding record_at children_of conditions_of terms_of holds_with kind_of
settled s l [] z bs nz att one two = of R.Short refl (λ m R e e' k. refl) (λ m R e e' k. refl)
  where
    of : (y : Record) → record_at [] ≡ y → Stable (condition_by (condition_of y) (λ x y. decode (l - 1) x y) (λ x y. decode_t (l - 1) x y) [] z) s bs → StableT (term_by (term_of y) (λ x y. decode (l - 1) x y) [] z) s bs → Settled s l [] z bs
    of y e c t = record { condition = rw (decode-step l [] z (condition_of y) nz (ap condition_of e)) c; term = rw (decode_t-step l [] z (term_of y) nz (ap term_of e)) t }
settled s l (k ∷ r) z bs nz att one two = go (kind_of k) refl
  where
    of : (y : Record) → record_at (k ∷ r) ≡ y → Stable (condition_by (condition_of y) (λ x y. decode (l - 1) x y) (λ x y. decode_t (l - 1) x y) (k ∷ r) z) s bs → StableT (term_by (term_of y) (λ x y. decode (l - 1) x y) (k ∷ r) z) s bs → Settled s l (k ∷ r) z bs
    of y e c t = record { condition = rw (decode-step l (k ∷ r) z (condition_of y) nz (ap condition_of e)) c; term = rw (decode_t-step l (k ∷ r) z (term_of y) nz (ap term_of e)) t }

    go : (o : Option Kind) → kind_of k ≡ o → Settled s l (k ∷ r) z bs
    go none e = of R.Unknown (of_none R.Unknown (λ x. within x r) k e) (λ m R e e' k. refl) (λ m R e e' k. refl)
    go (some x) e =
        let i = of_some 0 child_conditions k x e in
        let j = of_some 0 child_terms k x e in
        let h = by_kind s bs (l - 1) (k ∷ r) z x (leb (body_length x) (length r)) (get_or r 0 0) (get_or r 1 0) (get_or r 2 0) (get_or r 3 0) (λ a. att (find-inv k kinds x e ∙ ap code a)) (λ n. one (omega (arith, i, j, n))) (λ n. two (omega (arith, i, j, n))) in
        of (within x r) (of_some R.Unknown (λ x. within x r) k x e) h.0 h.1

-- what stands at a place of a query, as the code looks at it
module _ (q z : List ℕ) (bs : List Binding) (place l k : ℕ) (nz : l ≡ 0 → ⊥) (ek : k ≡ get_or q place 0) where
  kind-there : get_or (drop place q) 0 0 ≡ k
  kind-there = first-at place q ∙ sym ek

  pub attribute-settled : (v s : ℕ) → k ≡ 33 → v ≡ get_or q (place + 1) 0 → contains v (variables (drop s bs)) ≡ false → Settled s l (drop place q) (drop place z) bs
  unfolding children_of conditions_of terms_of of_kind kind_of find
  attribute-settled v s h ev c = settled s l (drop place q) (drop place z) bs nz (λ _. rw (get_or-drop place q 1 0, ← ev) c) (λ n. absurd (none n)) (λ n. absurd (none (omega (arith, n))))
    where
      none : 1 ≤ children_of (get_or (drop place q) 0 0) → ⊥
      none n = omega (arith, n, ap children_of (kind-there ∙ h))

  module _ (n : ℕ) (no : k ≡ 33 → ⊥) (u v : ℕ) (eu : u ≡ conditions_of k) (ev : v ≡ terms_of k) (en : n ≡ u + v) where
    count : children_of (get_or (drop place q) 0 0) ≡ n
    unfolding children_of
    count = ap children_of kind-there ∙ sym (en ∙ ap₂ ◌+◌ eu ev)

    pub leaf-settled : n ≡ 0 → Settled 0 l (drop place q) (drop place z) bs
    leaf-settled h = settled 0 l (drop place q) (drop place z) bs nz (λ e. absurd (no (sym kind-there ∙ e))) (λ m. absurd (omega (arith, m, count))) (λ m. absurd (omega (arith, m, count)))

    module _ (w f a : ℕ) (ew : w ≡ record_length k) (ef : f ≡ place + w) (ha : Settled a (l - 1) (drop f q) (drop f z) bs) where
      first-there : place + first (drop place q) ≡ f
      first-there = ap (λ (i : ℕ). place + record_length i) kind-there ∙ ap (λ (i : ℕ). place + i) (sym ew) ∙ sym ef

      part : (i j s : ℕ) → place + i ≡ j → Settled s (l - 1) (drop j q) (drop j z) bs → Settled s (l - 1) (drop i (drop place q)) (drop i (drop place z)) bs
      part i j s e h = rw (drop-drop i place q, drop-drop i place z, e) h

      pub one-settled : n ≡ 1 → Settled a l (drop place q) (drop place z) bs
      one-settled h = settled a l (drop place q) (drop place z) bs nz (λ e. absurd (no (sym kind-there ∙ e))) (λ m. part (first (drop place q)) f a first-there ha) (λ m. absurd (omega (arith, m, count)))

      pub two-settled : (c g b r : ℕ) → c ≡ get_or z f 0 → g ≡ f + c → Settled b (l - 1) (drop g q) (drop g z) bs → a ≤ r → b ≤ r → Settled r l (drop place q) (drop place z) bs
      two-settled c g b r ec eg hb la lb =
          settled r l (drop place q) (drop place z) bs nz (λ e. absurd (no (sym kind-there ∙ e)))
          (λ m. later-settled a r _ _ _ bs la (part (first (drop place q)) f a first-there ha))
          (λ m. later-settled b r _ _ _ bs lb (part (second (drop place q) (drop place z)) g b second-there hb))
        where
          second-there : place + second (drop place q) (drop place z) ≡ g
          second-there =
              let i : get_or (drop place z) (first (drop place q)) 0 ≡ c = get_or-drop place z (first (drop place q)) 0 ∙ ap (λ (j : ℕ). get_or z j 0) first-there ∙ sym ec in
              omega (arith, i, first-there, eg)
