-- A guard, written permit by permit.
use mathlib.Core.Path.{◌≡◌, refl, sym, ap, ◌∙◌}
use mathlib.Core.Bool.{Bool, true, false, cond}
use mathlib.Core.List.{List, [], ◌∷◌, ◌++◌, append-nil}
use Prim.Native.Nat.{ℕ, zero, suc, ◌+◌, ◌-◌, ◌*◌, ◌/◌, ◌%◌, ◌<◌, ◌≤◌}
use native.Mathlib.Nat.{add-zero, sub-zero}
use native.Mathlib.Numerals.{add-one}
use native.Mathlib.Omega.{arith}
use lib.Dec.{eqb}
use lib.ListN.{length, get_or, take, drop, length-append}
use lib.Seq.{sets}
use borrow.Author.Tests.{eq-eqb, ne_eqb}
use Rattle.model.specs.Lists.{cons_if, total}
use borrow.Author.Tests.{eqb-true, eqb-false}
use Rattle.scans.specs.Flat.{flat_bindings}
use Rattle.copier.specs.Copied.{copied_bytes}
use Rattle.copier.specs.Guard.{part, picked, new_in_part, disjunction_bytes, or_nothing, guard_from, new_from, guard_bytes, guard_new, turn_bytes, turn_new}
use Rattle.copier.proofs.Sets.{Wrote, wrote_then, wrote_as, Left, left-then, left_end, left-room}

-- a byte that is written unless the mask is 0
pub nothing_is : (m : ℕ) (w : List ℕ) → m ≡ 0 → [] ≡ or_nothing m w
nothing_is m w h = sym (ap (λ (t : Bool). cond t [] w) (eq-eqb m 0 h))

pub something-is : (m : ℕ) (w : List ℕ) → (m ≡ 0 → ⊥) → w ≡ or_nothing m w
something-is m w h = sym (ap (λ (t : Bool). cond t [] w) (ne_eqb m 0 h))

-- which parts are picked
pub picked_none : (l k : ℕ) (f : ℕ → List ℕ) → picked l 0 k f ≡ []
unfolding picked
picked_none zero k f = refl
picked_none (suc l) k f = picked_none l (suc k) f

half : (m : ℕ) → m / 2 ≡ 0 → (m % 2 ≡ 1 → ⊥) → m ≡ 0
half m x z = omega arith

picked-some : (l m k : ℕ) (f : ℕ → List ℕ) → m ≤ l → (m ≡ 0 → ⊥) → 1 ≤ length (picked l m k f)
unfolding picked
picked-some zero m k f h p = absurd (p (omega arith))
picked-some (suc l) m k f h p = go (eqb (m % 2) 1) refl (λ x y. picked-some l (m / 2) (suc k) f x y)
  where
    go : (b : Bool) → eqb (m % 2) 1 ≡ b → (m / 2 ≤ l → (m / 2 ≡ 0 → ⊥) → 1 ≤ length (picked l (m / 2) (suc k) f)) → 1 ≤ length (cons_if b (f k) (picked l (m / 2) (suc k) f))
    go true e i = omega arith
    go false e i = let z : m % 2 ≡ 1 → ⊥ = eqb-false (m % 2) 1 e in i (omega arith) (λ x. p (half m x z))

-- OR before a condition that is not the last
disjunction-cons : (b : List ℕ) (bs : List (List ℕ)) (v n : ℕ) → 1 ≤ length bs → disjunction_bytes (b ∷ bs) v n ≡ 20 ∷ (copied_bytes b v n ++ disjunction_bytes bs v (n + new_in_part b))
unfolding disjunction_bytes
disjunction-cons b [] v n h = absurd (omega arith)
disjunction-cons b (c ∷ bs) v n h = refl

turn_by : (e b z : Bool) (x : List ℕ) (ps : List (List ℕ)) (v n : ℕ) → e ≡ false → (z ≡ true → ps ≡ []) → (z ≡ false → 1 ≤ length ps) → (b ≡ false → z ≡ false)
    → cond e [] (disjunction_bytes (cons_if b x ps) v n) ≡ cond b (cond z [] (20 ∷ []) ++ copied_bytes x v n) [] ++ cond z [] (disjunction_bytes ps v (n + cond b (new_in_part x) 0))
unfolding disjunction_bytes
turn_by true b z x ps v n he h1 h2 h3 = let y : true ≡ false = he in cc
turn_by false true true x ps v n he h1 h2 h3 = ap (λ (l : List (List ℕ)). disjunction_bytes (x ∷ l) v n) (h1 refl) ∙ sym (append-nil (copied_bytes x v n))
turn_by false true false x ps v n he h1 h2 h3 = disjunction-cons x ps v n (h2 refl)
turn_by false false true x ps v n he h1 h2 h3 = let y : true ≡ false = h3 refl in cc
turn_by false false false x ps v n he h1 h2 h3 = ap (disjunction_bytes ps v) (sym (add-zero n))

pub guard-turn : (l m k : ℕ) (f : ℕ → List ℕ) (v n : ℕ) → m ≤ suc l → (m ≡ 0 → ⊥) → guard_from (suc l) m k f v n ≡ turn_bytes m (f k) v n ++ guard_from l (m / 2) (suc k) f v (n + turn_new m (f k))
unfolding guard_from picked
guard-turn l m k f v n h p =
    turn_by (eqb m 0) (eqb (m % 2) 1) (eqb (m / 2) 0) (f k) (picked l (m / 2) (suc k) f) v n (ne_eqb m 0 p)
    (λ e. ap (λ (i : ℕ). picked l i (suc k) f) (eqb-true (m / 2) 0 e) ∙ picked_none l (suc k) f)
    (λ e. picked-some l (m / 2) (suc k) f (omega arith) (eqb-false (m / 2) 0 e))
    (λ e. let z : m % 2 ≡ 1 → ⊥ = eqb-false (m % 2) 1 e in ne_eqb (m / 2) 0 (λ x. p (half m x z)))

new_by : (b : Bool) (x : List ℕ) (ps : List (List ℕ)) → total new_in_part (cons_if b x ps) ≡ cond b (new_in_part x) 0 + total new_in_part ps
unfolding total
new_by true x ps = refl
new_by false x ps = omega arith

pub new-turn : (l m k : ℕ) (f : ℕ → List ℕ) → new_from (suc l) m k f ≡ turn_new m (f k) + new_from l (m / 2) (suc k) f
unfolding new_from picked
new-turn l m k f = new_by (eqb (m % 2) 1) (f k) (picked l (m / 2) (suc k) f)

abbrev Fits : ℕ → List ℕ → Type 0
Fits at w = at + length w < 9223372036854775808

-- one permit's turn, as the code takes it: its bit is not set
pub turn-not : (d b : List ℕ) (at m v n : ℕ) → (m % 2 ≡ 1 → ⊥) → ((at ≡ at + length (turn_bytes m b v n)) × (n ≡ n + turn_new m b)) × (d ≡ sets d at (turn_bytes m b v n))
turn-not d b at m v n h = rw (ne_eqb (m % 2) 1 h) ((sym (add-zero at), sym (add-zero n)), refl)

-- or it is
module _ (b : List ℕ) (m v n : ℕ) (h : m % 2 ≡ 1) where
  turn_is : turn_bytes m b v n ≡ or_nothing (m / 2) (20 ∷ []) ++ copied_bytes b v n
  turn_is = ap (λ (t : Bool). cond t (or_nothing (m / 2) (20 ∷ []) ++ copied_bytes b v n) []) (eq-eqb (m % 2) 1 h)

  turn-new : turn_new m b ≡ new_in_part b
  turn-new = ap (λ (t : Bool). cond t (new_in_part b) 0) (eq-eqb (m % 2) 1 h)

  pub turn-first : (at : ℕ) → Fits at (turn_bytes m b v n) → Fits at (or_nothing (m / 2) (20 ∷ []))
  turn-first at r = omega (arith, ap length turn_is, length-append (or_nothing (m / 2) (20 ∷ [])) (copied_bytes b v n))

  module _ (d : List ℕ) (at : ℕ) (x : List ℕ) (p : ℕ) (w : Wrote d at (or_nothing (m / 2) (20 ∷ [])) x p) where
    pub turn-second : Fits at (turn_bytes m b v n) → n + turn_new m b < 256 → Fits p (copied_bytes b v n) × (n + length (flat_bindings b) < 256)
    turn-second r s = (omega (arith, ap length turn_is, length-append (or_nothing (m / 2) (20 ∷ [])) (copied_bytes b v n), w.0), omega (arith, turn-new))

    pub turn-done : (y : List ℕ) (e i : ℕ) → Wrote x p (copied_bytes b v n) y e → i ≡ length (flat_bindings b) → ((e ≡ at + length (turn_bytes m b v n)) × (n + i ≡ n + turn_new m b)) × (y ≡ sets d at (turn_bytes m b v n))
    turn-done y e i k j =
        let z : Wrote d at (turn_bytes m b v n) y e = wrote_as d at _ (turn_bytes m b v n) y e (sym turn_is) (wrote_then d at (or_nothing (m / 2) (20 ∷ [])) (copied_bytes b v n) x y p e w k) in
        ((z.0, ap (λ (t : ℕ). n + t) (j ∙ sym turn-new)), z.1)

-- the loop over the permits: the bits m are left, the next permit is k, the next number n
module _ (d : List ℕ) (at mask : ℕ) (f : ℕ → List ℕ) (v n₀ : ℕ) where
  abbrev pub State : List ℕ → ℕ → ℕ → ℕ → ℕ → Type 0
  State x to m k n = Left d at (guard_bytes mask f v n₀) x to (guard_from (mask - k) m k f v n) × (n + new_from (mask - k) m k f ≡ n₀ + guard_new mask f) × (m + k ≤ mask)

  pub state-start : State d at mask 0 n₀
  state-start = rw (sub-zero mask) ((refl, refl), refl, omega arith)

  module _ (x : List ℕ) (to m k n : ℕ) (s : State x to m k n) (h : m ≡ 0 → ⊥) (b : List ℕ) (eb : b ≡ f k) where
    fuel : mask - k ≡ suc (mask - (k + 1))
    fuel = omega (arith, s.2)

    bytes : guard_from (mask - k) m k f v n ≡ turn_bytes m b v n ++ guard_from (mask - (k + 1)) (m / 2) (k + 1) f v (n + turn_new m b)
    bytes =
        ap (λ (l : ℕ). guard_from l m k f v n) fuel
        ∙ guard-turn (mask - (k + 1)) m k f v n (omega (arith, s.2)) h
        ∙ ap (λ (i : ℕ). turn_bytes m (f k) v n ++ guard_from (mask - (k + 1)) (m / 2) i f v (n + turn_new m (f k))) (sym (add-one k))
        ∙ ap (λ (y : List ℕ). turn_bytes m y v n ++ guard_from (mask - (k + 1)) (m / 2) (k + 1) f v (n + turn_new m y)) (sym eb)

    numbers : new_from (mask - k) m k f ≡ turn_new m b + new_from (mask - (k + 1)) (m / 2) (k + 1) f
    numbers =
        ap (λ (l : ℕ). new_from l m k f) fuel
        ∙ new-turn (mask - (k + 1)) m k f
        ∙ ap (λ (i : ℕ). turn_new m (f k) + new_from (mask - (k + 1)) (m / 2) i f) (sym (add-one k))
        ∙ ap (λ (y : List ℕ). turn_new m y + new_from (mask - (k + 1)) (m / 2) (k + 1) f) (sym eb)

    pub state-room : Fits at (guard_bytes mask f v n₀) → n₀ + guard_new mask f < 256 → Fits to (turn_bytes m b v n) × (n + turn_new m b < 256)
    state-room r i =
        (left-room d at (guard_bytes mask f v n₀) x to (guard_from (mask - k) m k f v n) (turn_bytes m b v n) (guard_from (mask - (k + 1)) (m / 2) (k + 1) f v (n + turn_new m b)) bytes s.0 r, omega (arith, numbers, s.1))

    pub state-again : (y : List ℕ) (p j : ℕ) → ((p ≡ to + length (turn_bytes m b v n)) × (j ≡ n + turn_new m b)) × (y ≡ sets x to (turn_bytes m b v n)) → State y p (m / 2) (k + 1) j
    state-again y p j w = (
      left-then d at (guard_bytes mask f v n₀) x to (guard_from (mask - k) m k f v n) (turn_bytes m b v n) (guard_from (mask - (k + 1)) (m / 2) (k + 1) f v j) y p
          (bytes ∙ ap (λ (i : ℕ). turn_bytes m b v n ++ guard_from (mask - (k + 1)) (m / 2) (k + 1) f v i) (sym w.0.1)) s.0 (w.0.0, w.1),
      omega (arith, numbers, s.1, w.0.1),
      omega (arith, s.2),
    )

  pub state-end : (x : List ℕ) (to m k n : ℕ) → State x to m k n → m ≡ 0 → ((to ≡ at + length (guard_bytes mask f v n₀)) × (n ≡ n₀ + guard_new mask f)) × (x ≡ sets d at (guard_bytes mask f v n₀))
  unfolding guard_from new_from total
  state-end x to m k n s h =
      let z : Wrote d at (guard_bytes mask f v n₀) x to = left_end d at (guard_bytes mask f v n₀) x to (guard_from (mask - k) m k f v n) (ap (λ (i : ℕ). guard_from (mask - k) i k f v n) h) s.0 in
      let y : new_from (mask - k) m k f ≡ 0 = ap (λ (i : ℕ). new_from (mask - k) i k f) h ∙ ap (total new_in_part) (picked_none (mask - k) k f) in
      ((z.0, omega (arith, s.1, y)), z.1)

-- the bytes of a permit's condition
pub part-is : (permits places : List ℕ) (k i a e : ℕ) (x y : List ℕ) → i ≡ 2 * k → a ≡ get_or places i 0 → e ≡ get_or places (i + 1) 0 → x ≡ drop a permits → y ≡ take e x → y ≡ part permits places k
unfolding part
part-is permits places k i a e x y hi ha he hx hy = rw (hy, hx, ha, he, hi)
