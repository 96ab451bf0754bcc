-- One row more in front of a chain, and one link further along it.
use mathlib.Core.Path.{◌≡◌, refl, sym, ap, ◌∙◌, transport}
use mathlib.Core.Bool.{Bool, true, false}
use mathlib.Core.List.{List}
use Prim.Native.Nat.{ℕ, zero, suc, ◌+◌, ◌-◌, ◌≤◌, ◌<◌}
use native.Mathlib.Nat.{le_antisymm}
use native.Mathlib.Omega.{arith}
use lib.Dec.{eqb, ltb}
use lib.IntN.{ℤ, pos, negsuc}
use lib.Signed.{le_z}
use lib.ListN.{get_or}
use borrow.Author.Tests.{eqb-true, eqb-false, ltb-true, ltb-false, leb-true}
use Rattle.model.proofs.Tests.{clash, and-inv}
use Rattle.decide.specs.Chains.{First, Built, same, bucket_of, left}

-- values that are the same are equal
pub same-equal : (x y : ℤ) → same x y ≡ true → x ≡ y
same-equal x y h = go x y (and-inv (le_z x y) (le_z y x) h).0 (and-inv (le_z x y) (le_z y x) h).1
  where
    go : (x y : ℤ) → le_z x y ≡ true → le_z y x ≡ true → x ≡ y
    go (pos a) (pos b) h k = ap pos (le_antisymm (leb-true a b h) (leb-true b a k))
    go (pos a) (negsuc b) h k = clash h
    go (negsuc a) (pos b) h k = clash k
    go (negsuc a) (negsuc b) h k = ap negsuc (le_antisymm (leb-true a b k) (leb-true b a h))

pub same-bucket : (x y : ℤ) → same x y ≡ true → bucket_of x ≡ bucket_of y
same-bucket x y h = ap bucket_of (same-equal x y h)

pub bucket-low : (z : ℤ) → bucket_of z < 1024
unfolding bucket_of
bucket-low z = omega arith

-- what builds a chain: from the last row down, a row is in front of what its link leads to, or another row is
-- past the last row there is none
pub first-none : (P : ℕ → Type 0) (n link : ℕ) → link ≡ 0 → First P n n link
first-none P n link e =
    record { none = λ _ j h k _. absurd (omega arith); least = λ j _ h _. absurd (omega arith); here = λ j h. absurd (omega arith); low = λ h. absurd (omega arith); high = omega arith }

-- the row itself
pub first-here : (P : ℕ → Type 0) (i n link : ℕ) → link ≡ i + 1 → i < n → P i → First P i n link
first-here P i n link e h p =
    record { none = λ z j _ _ _. absurd (omega arith); least = λ j a b _. absurd (omega arith); here = λ j k. it j (omega arith); low = λ _. omega arith; high = omega arith }
  where
    it : (j : ℕ) → i ≡ j → P j
    it j k = transport (ap P k) p

-- another row in front
pub first-other : (P : ℕ → Type 0) (i n link : ℕ) → (P i → ⊥) → First P (i + 1) n link → First P i n link
first-other P i n link never f =
    record { none = λ e j a b. go j a (λ k. f.none e j k b) (eqb i j) refl; least = λ j a b. go j a (λ k. f.least j k b) (eqb i j) refl; here = f.here; low = λ h. omega (arith, f.low h); high = f.high }
  where
    go : (j : ℕ) → i ≤ j → (i + 1 ≤ j → P j → ⊥) → (t : Bool) → eqb i j ≡ t → P j → ⊥
    go j a f true e p = never (transport (ap P (sym (eqb-true i j e))) p)
    go j a f false e p = f (omega (arith, eqb-false i j e)) p

-- a walk along a chain that has met no row with the value x from `from` on: k has the values of the rows
pub record Passed (k : ℕ → ℤ) (x : ℤ) (from n at : ℕ) : Type 0 where
  pub none : at ≡ 0 → (j : ℕ) → from ≤ j → j < n → same (k j) x ≡ true → ⊥
  pub least : (j : ℕ) → from ≤ j → j + 1 < at → same (k j) x ≡ true → ⊥
  pub bucket : (j : ℕ) → at ≡ j + 1 → bucket_of (k j) ≡ bucket_of x
  pub low : 0 < at → from < at

module _ (k : ℕ → ℤ) (x : ℤ) where
  pub passed_here : (from n at : ℕ) (y : ℤ) (t : Bool) → Passed k x from n at → 0 < at → at ≤ n → y ≡ k (at - 1) → t ≡ same y x → t ≡ true → First (λ (j : ℕ). same (k j) x ≡ true) from n at
  passed_here from n at y t p h l ey et e =
      record { none = λ z j _ _ _. absurd (omega arith); least = p.least; here = λ j q. ap (λ (m : ℕ). same (k m) x) (it j q) ∙ ap (λ (z : ℤ). same z x) (sym ey) ∙ sym et ∙ e; low = p.low; high = l }
    where
      it : (j : ℕ) → at ≡ j + 1 → j ≡ at - 1
      it j q = omega arith

  pub passed_none : (from n at : ℕ) → Passed k x from n at → at ≡ 0 → First (λ (j : ℕ). same (k j) x ≡ true) from n 0
  passed_none from n at p e =
      record { none = λ _. p.none e; least = λ j _ h _. absurd (omega arith); here = λ j h. absurd (omega arith); low = λ h. absurd (omega arith); high = omega arith }

  pub passed-step : (from n i at to : ℕ) (y : ℤ) (t : Bool) → at ≡ i + 1 → Passed k x from n at → y ≡ k i → t ≡ same y x → t ≡ false → First (λ (j : ℕ). bucket_of (k j) ≡ bucket_of (k i)) (i + 1) n to → Passed k x from n to
  passed-step from n i at to y t e p ey et ef f =
      record { none = λ z j a b. go j a (λ k q. f.none z j k b q) (ltb (j + 1) at) refl; least = λ j a b. go j a (λ k q. f.least j k b q) (ltb (j + 1) at) refl; bucket = λ j q. f.here j q ∙ p.bucket i e; low = λ h. omega (arith, f.low h, p.low (omega arith)) }
    where
      at_i : (j : ℕ) → i ≡ j → same (k j) x ≡ true → ⊥
      at_i j q h = clash (sym (sym h ∙ ap (λ (m : ℕ). same (k m) x) (sym q) ∙ ap (λ (z : ℤ). same z x) (sym ey) ∙ sym et ∙ ef))

      further : (j : ℕ) → i ≤ j → (i + 1 ≤ j → bucket_of (k j) ≡ bucket_of (k i) → ⊥) → same (k j) x ≡ true → (b : Bool) → eqb i j ≡ b → ⊥
      further j a g h true q = at_i j (eqb-true i j q) h
      further j a g h false q = g (omega (arith, eqb-false i j q)) (same-bucket (k j) x h ∙ sym (p.bucket i e))

      go : (j : ℕ) → from ≤ j → (i + 1 ≤ j → bucket_of (k j) ≡ bucket_of (k i) → ⊥) → (b : Bool) → ltb (j + 1) at ≡ b → same (k j) x ≡ true → ⊥
      go j a g true q h = p.least j a (ltb-true (j + 1) at q) h
      go j a g false q h = further j (omega (arith, ltb-false (j + 1) at q)) g h (eqb i j) refl

  -- the row that a link gives
  pub found : (from n link r i : ℕ) → First (λ (j : ℕ). bucket_of (k j) ≡ bucket_of x) from n link → ((g : ℕ) → First (λ (j : ℕ). bucket_of (k j) ≡ bucket_of x) g n link → First (λ (j : ℕ). same (k j) x ≡ true) g n r)
      → from ≤ n → (i ≤ n) × ((r ≡ 0 → i ≡ n) × (0 < r → i + 1 ≡ r)) → ((from ≤ i) × (i ≤ n)) × ((j : ℕ) → from ≤ j → j < i → same (k j) x ≡ true → ⊥)
  found from n link r i f g h w = ((low r (g from f) w.1.0 w.1.1, w.0), λ j a b p. go r (g from f) w.1.0 w.1.1 j a b p)
    where
      low : (r : ℕ) → First (λ (j : ℕ). same (k j) x ≡ true) from n r → (r ≡ 0 → i ≡ n) → (0 < r → i + 1 ≡ r) → from ≤ i
      low zero f a b = omega (arith, a refl)
      low (suc r) f a b = omega (arith, b (omega arith), f.low (omega arith))

      go : (r : ℕ) → First (λ (j : ℕ). same (k j) x ≡ true) from n r → (r ≡ 0 → i ≡ n) → (0 < r → i + 1 ≡ r) → (j : ℕ) → from ≤ j → j < i → same (k j) x ≡ true → ⊥
      go zero f a b j h l = f.none refl j h (omega (arith, a refl))
      go (suc r) f a b j h l = f.least j h (omega (arith, b (omega arith)))

  -- which has the value
  pub found-has : (from n r i : ℕ) → First (λ (j : ℕ). same (k j) x ≡ true) from n r → (i ≤ n) × ((r ≡ 0 → i ≡ n) × (0 < r → i + 1 ≡ r)) → i < n → same (k i) x ≡ true
  found-has from n zero i f w h = absurd (omega (arith, w.1.0 refl))
  found-has from n (suc r) i f w h = f.here i (sym (w.1.1 (omega arith)))

-- a link leads further, or nowhere
pub left_less : (n at to : ℕ) → 0 < at → at ≤ n → to ≤ n → (0 < to → at < to) → left n to < left n at
unfolding left
left_less n zero to h k l f = absurd (omega arith)
left_less n (suc i) zero h k l f = omega arith
left_less n (suc i) (suc j) h k l f = omega (arith, f (omega arith))

-- a table in which the rows from i on are linked
pub record Linked (b : ℕ → ℕ) (i n at : ℕ) (table : List ℕ) : Type 0 where
  pub first : (h : ℕ) → h < 1024 → First (λ (j : ℕ). b j ≡ h) i n (get_or table (at + h) 0)
  pub next : (k : ℕ) → i ≤ k → k < n → First (λ (j : ℕ). b j ≡ b k) (k + 1) n (get_or table (at + 1024 + k) 0)

-- the chain entered at its head
module _ (k : ℕ → ℤ) (n at : ℕ) (table : List ℕ) (built : Built (λ (j : ℕ). bucket_of (k j)) n at table) where
  pub at_head : (x : ℤ) (h link from : ℕ) → h ≡ bucket_of x → h < 1024 → link ≡ get_or table (at + h) 0 → from ≡ 0 → First (λ (j : ℕ). bucket_of (k j) ≡ bucket_of x) from n link
  at_head x h link from eh l el ef =
      transport (ap (λ (m : ℕ). First (λ (j : ℕ). bucket_of (k j) ≡ m) from n link) eh)
      (transport (ap (λ (m : ℕ). First (λ (j : ℕ). bucket_of (k j) ≡ h) m n link) (sym ef)) (transport (ap (λ (m : ℕ). First (λ (j : ℕ). bucket_of (k j) ≡ h) 0 n m) (sym el)) (built.first h l)))

-- a chain stays where its numbers stay
pub built-kept : (b : ℕ → ℕ) (n at : ℕ) (c c' : List ℕ) → ((i : ℕ) → at ≤ i → i < at + 1024 + n → get_or c' i 0 ≡ get_or c i 0) → Built b n at c → Built b n at c'
built-kept b n at c c' k x =
    record { first = λ h l. rw (k (at + h) (omega arith) (omega arith)) (x.first h l); next = λ i l. rw (k (at + 1024 + i) (omega arith) (omega arith)) (x.next i l) }
