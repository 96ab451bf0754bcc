-- One step of each function over plain variables.
use mathlib.Core.Path.{◌≡◌, refl, sym, ap, ◌∙◌, subst}
use mathlib.Core.Bool.{Bool, true, false, cond, ◌||◌}
use mathlib.Core.List.{List, ◌++◌}
use Prim.Native.Nat.{ℕ, ◌+◌, ◌-◌, ◌*◌, ◌≤◌, ◌<◌}
use native.Mathlib.Omega.{arith}
use lib.Bits.{bit_or, or_zero_r, or_zero_l, or_self}
use lib.Dec.{eqb, ltb}
use lib.IntN.{ℤ, pos, ◌*ℤ◌}
use lib.ListN.{length, get_or, set, drop, replicate, length-set, length-append, length-replicate, length-drop, get_or-append}
use mir.Val.{bool_byte}
use lib.Seq.{get_or-set_same, get_or-set_other, get_or-append_right, get_or-drop}
use Rattle.std.proofs.lemmas.List.{get_or-replicate}
use borrow.Author.Tests.{eqb-true, eqb-false, ltb-true, ltb-false}
use Rattle.model.specs.Lists.{update}
use Rattle.catalogue.specs.Layout.{tuple_at}
use Rattle.walks.specs.declared.Walk.{Walk}
use Rattle.walks.specs.Assigned.{assigned}
use Rattle.walks.proofs.Assigned.{assigned-set}
use Rattle.decide.proofs.seeks.Places.{places-alike}
use Rattle.branches.specs.Branches.{runs}
use Rattle.model.proofs.Lists.{get_or-same}
use Rattle.permitted.specs.Meets.{no_places}
use Rattle.permitted.specs.Marked.{Bits, Marked, between, tuple_of, ran_on}

abbrev pub tested : List ℤ → ℕ → ℕ → Bool → Bool → Bool → ℤ → ℤ → ℕ → Bool
tested vs from width above below wanted number scale i = between above below wanted number (get_or vs (from + i * width) (pos 0) *ℤ scale)

-- a mark as a number
pub byte-is : (b : Bool) → bool_byte b ≡ cond b 1 0
byte-is true = refl
byte-is false = refl

pub joined_is : (old r : ℕ) (b : Bool) → old ≤ 1 → r ≡ cond b 1 0 → bit_or old r ≡ cond b 1 old
joined_is old r false h e = ap (bit_or old) e ∙ or_zero_r old
joined_is old r true h e = ap (bit_or old) e ∙ go (eqb old 1) refl
  where
    go : (x : Bool) → eqb old 1 ≡ x → bit_or old 1 ≡ 1
    go true k = ap (λ n. bit_or n 1) (eqb-true old 1 k) ∙ or_self 1
    go false k = let e : old ≡ 0 = omega (arith, eqb-false old 1 k, h) in ap (λ n. bit_or n 1) e ∙ or_zero_l 1

-- marks that are bits stay bits
pub bits-on : {f : ℕ → Bool} {n : ℕ} {ms ms' : List ℕ} → Bits ms → Marked f n ms ms' → Bits ms'
bits-on {f = f} {n = n} {ms = ms} {ms' = ms'} h m i = go (ltb i n) refl
  where
    mark : (b : Bool) → get_or ms' i 0 ≡ cond b 1 (get_or ms i 0) → get_or ms' i 0 ≤ 1
    mark true e = omega (arith, e)
    mark false e = omega (arith, e, h i)

    go : (b : Bool) → ltb i n ≡ b → get_or ms' i 0 ≤ 1
    go true k = mark (f i) (m.row i (ltb-true i n k))
    go false k = omega (arith, m.rest i (ltb-false i n k), h i)

pub marked-none : (f : ℕ → Bool) (ms : List ℕ) → Marked f 0 ms ms
marked-none f ms = record { size = refl; row = λ i h. absurd (omega arith); rest = λ i h. refl }

-- one row more
pub marked_next : (f : ℕ → Bool) (i : ℕ) (ms x : List ℕ) (y : ℕ) → i < length ms → Marked f i ms x → y ≡ cond (f i) 1 (get_or x i 0) → Marked f (i + 1) ms (set x i y)
marked_next f i ms x y l m ey = record {
  size = length-set x i y ∙ m.size;
  row = λ j h. go j h (eqb j i) refl;
  rest = λ j h. get_or-set_other x i j y 0 (λ k. omega (arith, k, h)) ∙ m.rest j (omega arith);
}
  where
    go : (j : ℕ) → j < i + 1 → (b : Bool) → eqb j i ≡ b → get_or (set x i y) j 0 ≡ cond (f j) 1 (get_or ms j 0)
    go j h true k =
        let e = eqb-true j i k in
        ap (λ n. get_or (set x i y) n 0) e ∙ get_or-set_same x i y 0 (omega (arith, l, m.size)) ∙ ey ∙ ap (λ n. cond (f i) 1 n) (m.rest i (omega arith)) ∙ sym (ap (λ n. cond (f n) 1 (get_or ms n 0)) e)
    go j h false k = let d = eqb-false j i k in get_or-set_other x i j y 0 d ∙ m.row j (omega (arith, d, h))

-- the first n rows, all marked
pub marked-filled : (n : ℕ) (ms : List ℕ) → n ≤ length ms → Marked (λ i. true) n ms (replicate n 1 ++ drop n ms)
marked-filled n ms h =
    let l = length-replicate {A = ℕ} n 1 in
    record {
      size = omega (arith, length-append (replicate n 1) (drop n ms), l, length-drop n ms);
      row = λ i k. get_or-append (replicate n 1) (drop n ms) 0 i (omega (arith, l)) ∙ get_or-replicate n i 1 0 k;
      rest = λ i k.
          let e : n + (i - length (replicate {A = ℕ} n 1)) ≡ i = omega (arith, l) in
          get_or-append_right (replicate n 1) (drop n ms) i 0 (omega (arith, l)) ∙ get_or-drop n ms (i - length (replicate {A = ℕ} n 1)) 0 ∙ ap (λ (j : ℕ). get_or ms j 0) e;
    }

-- the same test
pub marked-same : {f g : ℕ → Bool} {n m : ℕ} {ms ms' : List ℕ} → Marked f n ms ms' → n ≡ m → ((i : ℕ) → i < n → f i ≡ g i) → Marked g m ms ms'
marked-same {f = f} {g = g} {n = n} {m = m} {ms = ms} {ms' = ms'} h e k = record {
  size = h.size;
  row = λ i l. let l' : i < n = omega (arith, l, e) in h.row i l' ∙ ap (λ b. cond b 1 (get_or ms i 0)) (k i l');
  rest = λ i l. h.rest i (omega (arith, l, e));
}

-- marks upon marks
pub marked-then : {f g : ℕ → Bool} {n : ℕ} {a b c : List ℕ} → Marked f n a b → Marked g n b c → Marked (λ i. f i || g i) n a c
marked-then {f = f} {g = g} {n = n} {a = a} {b = b} {c = c} h k = record {
  size = k.size ∙ h.size;
  row = λ i l. k.row i l ∙ ap (λ m. cond (g i) 1 m) (h.row i l) ∙ go (f i) (g i) (get_or a i 0);
  rest = λ i l. k.rest i l ∙ h.rest i l;
}
  where
    go : (x y : Bool) (m : ℕ) → cond y 1 (cond x 1 m) ≡ cond (x || y) 1 m
    go true true m = refl
    go true false m = refl
    go false true m = refl
    go false false m = refl

pub step : (from w i at : ℕ) → at ≡ from + i * w → at + w ≡ from + (i + 1) * w
step from w i at h = let e : (i + 1) * w ≡ i * w + w = omega arith in omega (arith, h, e)

pub row-joined : (vs : List ℤ) (from w i at r m : ℕ) (above below wanted b : Bool) (n d v a : ℤ) → r ≡ cond b 1 m → b ≡ between above below wanted n v → v ≡ a *ℤ d → a ≡ get_or vs at (pos 0) → at ≡ from + i * w
    → r ≡ cond (between above below wanted n (get_or vs (from + i * w) (pos 0) *ℤ d)) 1 m
row-joined vs from w i at r m above below wanted b n d v a er eb ev ea e = er ∙ ap (λ x. cond x 1 m) (eb ∙ ap (between above below wanted n) (ev ∙ ap (λ y. y *ℤ d) (ea ∙ ap (λ k. get_or vs k (pos 0)) e)))

pub marked-nothing : (f : ℕ → Bool) (ms : List ℕ) → ((i : ℕ) → i < length ms → f i ≡ false) → {n : ℕ} → n ≤ length ms → Marked f n ms ms
marked-nothing f ms h {n = n} k = record { size = refl; row = λ i l. sym (ap (λ b. cond b 1 (get_or ms i 0)) (h i (omega (arith, l, k)))); rest = λ i l. refl }

-- one row is tried
pub row-marked : (t : List ℕ) (s : ℕ) (q z ws : List ℕ) (vs m : List ℤ) (d u : List ℕ) (x : Walk) (ms y : List ℕ) (i p r : ℕ) (b : Bool) → 256 ≤ length d → i < length ms → set d 0 (length vs) ≡ no_places vs → p ≡ x.base + i * x.width → u ≡ set d 0 p → b ≡ runs t q z ws vs m s (assigned vs u) → r ≡ cond b 1 (get_or y i 0)
    → Marked (ran_on t s q z ws vs m x) i ms y → Marked (ran_on t s q z ws vs m x) (i + 1) ms (set y i r)
row-marked t s q z ws vs m d u x ms y i p r b ld l hd hp eu eb er my =
    let row : assigned vs u ≡ update (assigned vs (no_places vs)) 0 (tuple_of vs x i) = ap (assigned vs) eu ∙ assigned-set vs d 0 p (omega arith) ∙ places-alike vs d (no_places vs) 0 (length vs) (tuple_at vs p) hd ∙ ap (λ n. update (assigned vs (no_places vs)) 0 (tuple_at vs n)) hp in
    marked_next (ran_on t s q z ws vs m x) i ms y r l my (er ∙ ap (λ c. cond c 1 (get_or y i 0)) (eb ∙ ap (runs t q z ws vs m s) row))

pub marked_from : {f : ℕ → Bool} {n : ℕ} {a b c : List ℕ} → b ≡ a → Marked f n b c → Marked f n a c
marked_from {f = f} {n = n} {a = a} {b = b} {c = c} e h = subst (λ (u : List ℕ). Marked f n u c) e h

pub blank-bits : (n : ℕ) → Bits (replicate n 0)
blank-bits n i = omega (arith, get_or-same {A = ℕ} n 0 i)
