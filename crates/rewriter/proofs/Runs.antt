-- Runs of bytes with the numbers that they take, one after the other.
use mathlib.Core.Path.{◌≡◌, refl, sym, ap, ap₂, ◌∙◌}
use mathlib.Core.List.{List, ◌++◌}
use Prim.Native.Nat.{ℕ, ◌+◌, ◌<◌}
use native.Mathlib.Nat.{add-zero}
use native.Mathlib.Omega.{arith}
use lib.ListN.{length, get_or, drop, length-append}
use lib.Seq.{sets}
use Rattle.sizes.specs.Decode.{first, second}
use Rattle.copier.specs.Guard.{opening, guard_bytes, guard_new}
use Rattle.copier.proofs.Sets.{Wrote, sets_then}
use Rattle.rewriter.specs.Rewritten.{condition_bytes, condition_new, from, both_bytes, both_new, under_bytes, under_new, Room, After}

-- w was written from `at` on, and took k numbers from n on; e is the place after it, m the next number
abbrev pub Did : List ℕ → ℕ → ℕ → List ℕ → ℕ → List ℕ → ℕ → ℕ → Type 0
Did d at n w k y e m = After at n w k e m × (y ≡ sets d at w)

pub did-as : (d : List ℕ) (at n : ℕ) (w w' : List ℕ) (k k' : ℕ) (y : List ℕ) (e m : ℕ) → w ≡ w' → k ≡ k' → Did d at n w k y e m → Did d at n w' k' y e m
did-as d at n w w' k k' y e m p q h = ((h.0.0 ∙ ap (λ (l : List ℕ). at + length l) p, h.0.1 ∙ ap (λ (i : ℕ). n + i) q), h.1 ∙ ap (sets d at) p)

pub did_then : (d : List ℕ) (at n : ℕ) (w : List ℕ) (k : ℕ) (x : List ℕ) (p i : ℕ) (w' : List ℕ) (k' : ℕ) (y : List ℕ) (e m : ℕ) → Did d at n w k x p i → Did x p i w' k' y e m → Did d at n (w ++ w') (k + k') y e m
did_then d at n w k x p i w' k' y e m g h =
    ((omega (arith, length-append w w', g.0.0, h.0.0), omega (arith, g.0.1, h.0.1)), sets_then w d at w' x y p g.1 g.0.0 h.1)

pub did-head : (d : List ℕ) (at n : ℕ) (s x : List ℕ) (p : ℕ) (w : List ℕ) (k : ℕ) (y : List ℕ) (e m : ℕ) → Wrote d at s x p → Did x p n w k y e m → Did d at n (s ++ w) k y e m
did-head d at n s x p w k y e m g h = ((omega (arith, length-append s w, g.0, h.0.0), h.0.1), sets_then s d at w x y p g.1 g.0 h.1)

pub room-left : (at n : ℕ) (w w' : List ℕ) (k k' : ℕ) → Room at n (w ++ w') (k + k') → Room at n w k
room-left at n w w' k k' r = (omega (arith, length-append w w', r.0), omega (arith, r.1))

pub room-then : (d : List ℕ) (at n : ℕ) (w : List ℕ) (k : ℕ) (x : List ℕ) (p i : ℕ) (w' : List ℕ) (k' : ℕ) → Did d at n w k x p i → Room at n (w ++ w') (k + k') → Room p i w' k'
room-then d at n w k x p i w' k' g r = (omega (arith, length-append w w', r.0, g.0.0), omega (arith, r.1, g.0.1))

pub room_as : (at n : ℕ) (w w' : List ℕ) (k k' : ℕ) → w ≡ w' → k ≡ k' → Room at n w k → Room at n w' k'
room_as at n w w' k k' p q r = (omega (arith, ap length p, r.0), omega (arith, q, r.1))

-- bytes W of n are a head and a body
pub record Shape (W : ℕ → List ℕ) (K : ℕ) (head : List ℕ) (body : ℕ → List ℕ) (k : ℕ) : Type 0 where
  pub bytes : (n : ℕ) → W n ≡ head ++ body n
  pub numbers : K ≡ k

module _ (W : ℕ → List ℕ) (K : ℕ) (head : List ℕ) (body : ℕ → List ℕ) (k : ℕ) (s : Shape W K head body k) (at n : ℕ) where
  pub head-room : Room at n (W n) K → at + length head < 9223372036854775808
  head-room r = omega (arith, r.0, ap length (s.bytes n), length-append head (body n))

  module _ (d x : List ℕ) (p : ℕ) (h : Wrote d at head x p) where
    pub body-room : Room at n (W n) K → Room p n (body n) k
    body-room r = (omega (arith, r.0, ap length (s.bytes n), length-append head (body n), h.0), omega (arith, r.1, s.numbers))

    pub body-did : (y : List ℕ) (e m : ℕ) → Did x p n (body n) k y e m → Did d at n (W n) K y e m
    body-did y e m g = did-as d at n (head ++ body n) (W n) k K y e m (sym (s.bytes n)) (sym s.numbers) (did-head d at n head x p (body n) k y e m h g)

-- a leaf
pub record Leaf (W : ℕ → List ℕ) (K : ℕ) (head : List ℕ) : Type 0 where
  pub bytes : (n : ℕ) → W n ≡ head
  pub numbers : K ≡ 0

module _ (W : ℕ → List ℕ) (K : ℕ) (head : List ℕ) (s : Leaf W K head) (at n : ℕ) where
  pub leaf_room : Room at n (W n) K → at + length head < 9223372036854775808
  leaf_room r = omega (arith, r.0, ap length (s.bytes n))

  pub leaf-did : (d x : List ℕ) (p m : ℕ) → ((p ≡ at + length head) × (m ≡ n)) × (x ≡ sets d at head) → Did d at n (W n) K x p m
  leaf-did d x p m h = did-as d at n head (W n) 0 K x p m (sym (s.bytes n)) (sym s.numbers) ((h.0.0, h.0.1 ∙ sym (add-zero n)), h.1)

-- both children of a record
module _ (W : List ℕ → List ℕ → ℕ → List ℕ) (K : List ℕ → List ℕ → ℕ) (q z : List ℕ) (at n : ℕ) (a : ℕ) (ea : a ≡ first q) (x y : List ℕ) (ex : x ≡ drop a q) (ey : y ≡ drop a z) where
  one-w : (i : ℕ) → W x y i ≡ from W (first q) q z i
  one-w i = ap₂ (λ (u v : List ℕ). W u v i) (ex ∙ ap (λ (j : ℕ). drop j q) ea) (ey ∙ ap (λ (j : ℕ). drop j z) ea)

  one-k : K x y ≡ from K (first q) q z
  one-k = ap₂ K (ex ∙ ap (λ (j : ℕ). drop j q) ea) (ey ∙ ap (λ (j : ℕ). drop j z) ea)

  pub child-room : (p : ℕ) → Room p n (from W (first q) q z n) (from K (first q) q z) → Room p n (W x y n) (K x y)
  child-room p r = room_as p n _ (W x y n) _ (K x y) (sym (one-w n)) (sym one-k) r

  pub child-did : (d : List ℕ) (o : List ℕ) (p m : ℕ) → Did d at n (W x y n) (K x y) o p m → Did d at n (from W (first q) q z n) (from K (first q) q z) o p m
  child-did d o p m g = did-as d at n (W x y n) _ (K x y) _ o p m (one-w n) one-k g

  pub both_first : Room at n (both_bytes W K q z n) (both_new K q z) → Room at n (W x y n) (K x y)
  both_first r = child-room at (room-left at n (from W (first q) q z n) _ (from K (first q) q z) _ r)

  module _ (d : List ℕ) (o : List ℕ) (p m : ℕ) (g : Did d at n (W x y n) (K x y) o p m) (b : ℕ) (eb : b ≡ second q z) (x' y' : List ℕ) (ex' : x' ≡ drop b q) (ey' : y' ≡ drop b z) where
    two-w : W x' y' m ≡ from W (second q z) q z (n + from K (first q) q z)
    two-w = ap₂ (λ (u v : List ℕ). W u v m) (ex' ∙ ap (λ (j : ℕ). drop j q) eb) (ey' ∙ ap (λ (j : ℕ). drop j z) eb) ∙ ap (λ (i : ℕ). from W (second q z) q z i) (g.0.1 ∙ ap (λ (i : ℕ). n + i) one-k)

    two-k : K x' y' ≡ from K (second q z) q z
    two-k = ap₂ K (ex' ∙ ap (λ (j : ℕ). drop j q) eb) (ey' ∙ ap (λ (j : ℕ). drop j z) eb)

    pub both-second : Room at n (both_bytes W K q z n) (both_new K q z) → Room p m (W x' y' m) (K x' y')
    both-second r = room_as p m _ (W x' y' m) _ (K x' y') (sym two-w) (sym two-k) (room-then d at n (from W (first q) q z n) (from K (first q) q z) o p m _ _ (child-did d o p m g) r)

    pub both-did : (o' : List ℕ) (e i : ℕ) → Did o p m (W x' y' m) (K x' y') o' e i → Did d at n (both_bytes W K q z n) (both_new K q z) o' e i
    both-did o' e i h =
        did_then d at n (from W (first q) q z n) (from K (first q) q z) o p m _ _ o' e i (child-did d o p m g) (did-as o p m (W x' y' m) _ (K x' y') _ o' e i two-w two-k h)

-- the child of a record that binds v, and its guard
module _ (masks : List ℕ) (f : ℕ → List ℕ) (l : ℕ) (q z : List ℕ) (at n v m : ℕ) (em : m ≡ get_or masks v 0) where
  abbrev W : List ℕ → List ℕ → ℕ → List ℕ
  W x y i = condition_bytes masks f l x y i

  abbrev K : List ℕ → List ℕ → ℕ
  K x y = condition_new masks f l x y

  abbrev inner : List ℕ
  inner = from W (first q) q z n

  abbrev number : ℕ
  number = n + from K (first q) q z

  shape : under_bytes masks f v l q z n ≡ opening m ++ (inner ++ guard_bytes m f v number)
  shape = ap (λ (i : ℕ). opening i ++ (inner ++ guard_bytes i f v number)) (sym em)

  taken : under_new masks f v l q z ≡ from K (first q) q z + guard_new m f
  taken = ap (λ (i : ℕ). from K (first q) q z + guard_new i f) (sym em)

  pub under-open : Room at n (under_bytes masks f v l q z n) (under_new masks f v l q z) → at + length (opening m) < 9223372036854775808
  under-open r = omega (arith, r.0, ap length shape, length-append (opening m) (inner ++ guard_bytes m f v number))

  module _ (d o : List ℕ) (p : ℕ) (h : Wrote d at (opening m) o p) (a : ℕ) (ea : a ≡ first q) (x y : List ℕ) (ex : x ≡ drop a q) (ey : y ≡ drop a z) where
    rest-room : Room at n (under_bytes masks f v l q z n) (under_new masks f v l q z) → Room p n (inner ++ guard_bytes m f v number) (from K (first q) q z + guard_new m f)
    rest-room r = (omega (arith, r.0, ap length shape, length-append (opening m) (inner ++ guard_bytes m f v number), h.0), omega (arith, r.1, taken))

    pub under-room : Room at n (under_bytes masks f v l q z n) (under_new masks f v l q z) → Room p n (W x y n) (K x y)
    under-room r = child-room W K q z at n a ea x y ex ey p (room-left p n inner (guard_bytes m f v number) (from K (first q) q z) (guard_new m f) (rest-room r))

    module _ (o' : List ℕ) (e i : ℕ) (g : Did o p n (W x y n) (K x y) o' e i) where
      child : Did o p n inner (from K (first q) q z) o' e i
      child = child-did W K q z p n a ea x y ex ey o o' e i g

      pub under_guard : Room at n (under_bytes masks f v l q z n) (under_new masks f v l q z) → Room e i (guard_bytes m f v i) (guard_new m f)
      under_guard r =
          room_as e i (guard_bytes m f v number) (guard_bytes m f v i) (guard_new m f) (guard_new m f) (ap (λ (j : ℕ). guard_bytes m f v j) (sym child.0.1)) refl
          (room-then o p n inner (from K (first q) q z) o' e i (guard_bytes m f v number) (guard_new m f) child (rest-room r))

      pub under-did : (o'' : List ℕ) (e' i' : ℕ) → Did o' e i (guard_bytes m f v i) (guard_new m f) o'' e' i' → Did d at n (under_bytes masks f v l q z n) (under_new masks f v l q z) o'' e' i'
      under-did o'' e' i' k =
          did-as d at n (opening m ++ (inner ++ guard_bytes m f v number)) _ (from K (first q) q z + guard_new m f) _ o'' e' i' (sym shape) (sym taken)
          (did-head d at n (opening m) o p (inner ++ guard_bytes m f v number) (from K (first q) q z + guard_new m f) o'' e' i' h
          (did_then o p n inner (from K (first q) q z) o' e i (guard_bytes m f v number) (guard_new m f) o'' e' i' child
          (did-as o' e i (guard_bytes m f v i) (guard_bytes m f v number) (guard_new m f) (guard_new m f) o'' e' i' (ap (λ (j : ℕ). guard_bytes m f v j) child.0.1) refl k)))
