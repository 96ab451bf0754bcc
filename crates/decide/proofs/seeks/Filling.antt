-- One chain more in a table of chains.
use mathlib.Core.Path.{◌≡◌, refl, sym, ap, ◌∙◌, subst}
use mathlib.Core.Bool.{Bool, true, false}
use mathlib.Core.List.{List, [], ◌∷◌}
use Prim.Native.Nat.{ℕ, suc, ◌+◌, ◌/◌, ◌%◌, ◌≤◌, ◌<◌}
use native.Mathlib.Omega.{arith}
use lib.Dec.{eqb}
use lib.IntN.{ℤ}
use lib.ListN.{length, get_or, set}
use lib.Seq.{sets, get_or-set_same, get_or-set_other}
use borrow.Author.Tests.{eqb-true, eqb-false}
use Rattle.walks.specs.declared.Walk.{Walk}
use Rattle.walks.specs.Walks.{walk_of}
use Rattle.decide.specs.Chains.{bucket_at, Built, Outside}
use Rattle.decide.proofs.chains.Steps.{built-kept}
use Rattle.branches.proofs.Writing.{sets-before, sets-at}
use Rattle.decide.specs.Keys.{Tells, Decides, onward, Chain, Filling}

-- numbers behind those that are written
pub sets_behind : (l t : List ℕ) (at i : ℕ) → at + length l ≤ i → get_or (sets t at l) i 0 ≡ get_or t i 0
sets_behind [] t at i h = refl
sets_behind (x ∷ l) t at i h = sets_behind l (set t at x) (suc at) i (omega arith) ∙ get_or-set_other t at i x 0 (λ p. omega arith)

-- a chain stays where its numbers stay
chain-kept : (t ws : List ℕ) (vs : List ℤ) (c c' : List ℕ) (s r : ℕ) → ((i : ℕ) → r ≤ i → i < r + 1028 + (walk_of ws (get_or c r 0)).count → get_or c' i 0 ≡ get_or c i 0) → Chain t ws vs c s r → Chain t ws vs c' s r
chain-kept t ws vs c c' s r k x =
    let k₀ = k r (omega arith) (omega arith) in
    let k₁ = k (r + 1) (omega arith) (omega arith) in
    let k₂ = k (r + 2) (omega arith) (omega arith) in
    let k₃ = k (r + 3) (omega arith) (omega arith) in
    record {
      decides = rw (k₀, k₁, k₂, k₃) x.decides;
      met = rw (k₀, k₁, k₂, k₃) x.met;
      built = rw (k₀, k₃) (built-kept (bucket_at vs ws (walk_of ws (get_or c r 0)) (get_or c (r + 3) 0)) (walk_of ws (get_or c r 0)).count (r + 4) c c' (λ i a b. k i (omega arith) (omega arith)) x.built);
    }

module _ (free end start f v p n a other w : ℕ) (t ws : List ℕ) (vs : List ℤ) (c h b : List ℕ) (walk : Walk)
    (filling : Filling free t ws vs c) (eh : h ≡ sets c free (v ∷ p ∷ w ∷ a ∷ [])) (room : free + 4 ≤ length c) (ew : walk ≡ walk_of ws v)
    (built : Built (bucket_at vs ws walk a) walk.count (free + 4) b) (out : Outside (free + 4) (free + 4 + 1024 + walk.count) h b)
    (ee : end ≡ free + 1028 + walk.count) (he : end ≤ 65535) (hs : start < 64) (lb : start < length b) (ef : f ≡ free) (whole : onward w ≡ other) (part : w % 256 ≡ n) (decides : Decides t start other v p n a) (met : p / 8 ≡ start → Tells t start v p n a) where
  abbrev c' : List ℕ
  c' = set b start f

  low : 64 ≤ free
  low = filling.low

  -- what it was, before and behind the chain
  before : (i : ℕ) → i < free → (i ≡ start → ⊥) → get_or c' i 0 ≡ get_or c i 0
  before i l o = get_or-set_other b start i f 0 o ∙ out i (λ x y. omega arith) ∙ ap (λ (y : List ℕ). get_or y i 0) eh ∙ sets-before 0 (v ∷ p ∷ w ∷ a ∷ []) c free i l

  behind : (i : ℕ) → end ≤ i → get_or c' i 0 ≡ get_or c i 0
  behind i l = get_or-set_other b start i f 0 (λ e. omega (arith, low)) ∙ out i (λ x y. omega arith) ∙ ap (λ (y : List ℕ). get_or y i 0) eh ∙ sets_behind (v ∷ p ∷ w ∷ a ∷ []) c free i (omega arith)

  here : get_or c' start 0 ≡ free
  here = get_or-set_same b start f 0 lb ∙ ef

  headed : (j : ℕ) → j < 4 → get_or c' (free + j) 0 ≡ get_or (v ∷ p ∷ w ∷ a ∷ []) j 0
  headed j l = get_or-set_other b start (free + j) f 0 (λ e. omega (arith, low)) ∙ out (free + j) (λ x y. omega arith) ∙ ap (λ (y : List ℕ). get_or y (free + j) 0) eh ∙ sets-at 0 (v ∷ p ∷ w ∷ a ∷ []) c free j room l

  head₀ : get_or c' free 0 ≡ v
  head₀ = let z : free ≡ free + 0 = omega arith in ap (λ (i : ℕ). get_or c' i 0) z ∙ headed 0 (omega arith)

  -- the new chain, and those before it
  new : Chain t ws vs c' start free
  new =
      record {
        decides = rw (head₀, headed 1 (omega arith), headed 2 (omega arith), headed 3 (omega arith), whole, part) decides;
        met = rw (head₀, headed 1 (omega arith), headed 2 (omega arith), headed 3 (omega arith), part) met;
        built = rw (head₀, headed 3 (omega arith)) (subst (λ (x : Walk). Built (bucket_at vs ws x a) x.count (free + 4) c') ew (built-kept (bucket_at vs ws walk a) walk.count (free + 4) b c' (λ i x y. get_or-set_other b start i f 0 (λ e. omega (arith, low))) built));
      }

  module _ (s : ℕ) (l : s < 64) (o : s ≡ start → ⊥) where
    entry : get_or c' s 0 ≡ get_or c s 0
    entry = before s (omega (arith, low)) o

    module _ (nz : get_or c s 0 ≡ 0 → ⊥) where
      place : (64 ≤ get_or c s 0) × (get_or c s 0 + 1028 + (walk_of ws (get_or c (get_or c s 0) 0)).count ≤ free)
      place = filling.within s l nz

      same : get_or c' (get_or c s 0) 0 ≡ get_or c (get_or c s 0) 0
      same = before (get_or c s 0) (omega (arith, place.1)) (λ e. omega (arith, place.0))

      old : Chain t ws vs c' s (get_or c s 0)
      old = chain-kept t ws vs c c' s (get_or c s 0) (λ i x y. before i (omega (arith, place.1)) (λ e. omega (arith, place.0))) (filling.faithful s l nz)

  pub one_more : Filling end t ws vs c'
  one_more =
      record {
        low = omega (arith, low);
        high = he;
        clear = λ i l. behind i l ∙ filling.clear i (omega arith);
        within = λ s l nz. inside s l nz (eqb s start) refl;
        faithful = λ s l nz. serves s l nz (eqb s start) refl;
      }
    where
      inside : (s : ℕ) → s < 64 → (get_or c' s 0 ≡ 0 → ⊥) → (d : Bool) → eqb s start ≡ d → (64 ≤ get_or c' s 0) × (get_or c' s 0 + 1028 + (walk_of ws (get_or c' (get_or c' s 0) 0)).count ≤ end)
      inside s l nz true e =
          let w : (walk_of ws v).count ≡ walk.count = ap (λ (x : Walk). x.count) (sym ew) in
          rw (eqb-true s start e, here, head₀) (low, omega arith)
      inside s l nz false e =
          let o = eqb-false s start e in
          let k : get_or c s 0 ≡ 0 → ⊥ = λ x. nz (entry s l o ∙ x) in
          rw (entry s l o, same s l o k) ((place s l o k).0, omega (arith, (place s l o k).1))

      serves : (s : ℕ) → s < 64 → (get_or c' s 0 ≡ 0 → ⊥) → (d : Bool) → eqb s start ≡ d → Chain t ws vs c' s (get_or c' s 0)
      serves s l nz true e = rw (eqb-true s start e, here) new
      serves s l nz false e = let o = eqb-false s start e in rw (entry s l o) (old s l o (λ x. nz (entry s l o ∙ x)))

-- a cleared table has no chain
pub nothing : (t ws : List ℕ) (vs : List ℤ) (c : List ℕ) → ((i : ℕ) → get_or c i 0 ≡ 0) → Filling 64 t ws vs c
nothing t ws vs c z =
    record { low = omega arith; high = omega arith; clear = λ i l. z i; within = λ s l nz. absurd (nz (z s)); faithful = λ s l nz. absurd (nz (z s)) }
