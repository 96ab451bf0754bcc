-- The parts of a query, written one after the other.
use mathlib.Core.Path.{◌≡◌, refl, sym, ap, ◌∙◌}
use mathlib.Core.List.{List, [], ◌∷◌, ◌++◌}
use Prim.Native.Nat.{ℕ, zero, suc, ◌+◌, ◌-◌, ◌<◌}
use native.Mathlib.Nat.{add-zero}
use native.Mathlib.Numerals.{sub-one}
use native.Mathlib.Omega.{arith}
use lib.ListN.{length, get_or, drop, length-append}
use lib.Seq.{sets}
use Rattle.model.specs.Lists.{total}
use Rattle.model.specs.Syntax.{Term, Binding, bindings, bindings_t}
use Rattle.model.specs.Encoding.{encode_ranges}
use Rattle.sizes.specs.Decode.{decode, decode_t}
use Rattle.sizes.specs.Parts.{targets_at}
use Rattle.grammar.specs.declared.Layout.{Layout}
use Rattle.copier.specs.Guard.{opening, guard_bytes, guard_new}
use Rattle.copier.proofs.Sets.{Wrote, wrote_then, wrote_as}
use Rattle.rewriter.specs.Rewritten.{new_of, rewritten, rewritten_t, Room}
use Rattle.queries.specs.Found.{head_ranges}
use Rattle.rewriter.specs.Parts.{query_read, targets_bytes, targets_new, openings, range_guards, query_bytes, query_new}
use Rattle.rewriter.proofs.Runs.{Did, did-as, did_then, did-head, room-left, room-then, room_as}

-- bytes that are two runs
pub record Two (w s t : List ℕ) : Type 0 where
  pub bytes : w ≡ s ++ t

module _ (w s t : List ℕ) (e : Two w s t) (at : ℕ) (r : at + length w < 9223372036854775808) where
  pub two-first : at + length s < 9223372036854775808
  two-first = omega (arith, ap length e.bytes, length-append s t)

  pub two-second : (d x : List ℕ) (p : ℕ) → Wrote d at s x p → p + length t < 9223372036854775808
  two-second d x p h = omega (arith, ap length e.bytes, length-append s t, h.0)

pub two-wrote : (w s t : List ℕ) → Two w s t → (d : List ℕ) (at : ℕ) (x : List ℕ) (p : ℕ) → Wrote d at s x p → (y : List ℕ) (m : ℕ) → Wrote x p t y m → Wrote d at w y m
two-wrote w s t e d at x p h y m k = wrote_as d at (s ++ t) w y m (sym e.bytes) (wrote_then d at s t x y p m h k)

-- and take numbers
pub record Pair (W : List ℕ) (K n : ℕ) (w : List ℕ) (k : ℕ) (w' : ℕ → List ℕ) (k' : ℕ) : Type 0 where
  pub bytes : W ≡ w ++ w' (n + k)
  pub numbers : K ≡ k + k'

module _ (W : List ℕ) (K n : ℕ) (w : List ℕ) (k : ℕ) (w' : ℕ → List ℕ) (k' : ℕ) (s : Pair W K n w k w' k') (at : ℕ) where
  whole : Room at n W K → Room at n (w ++ w' (n + k)) (k + k')
  whole r = room_as at n W (w ++ w' (n + k)) K (k + k') s.bytes s.numbers r

  pub pair-first : Room at n W K → Room at n w k
  pair-first r = room-left at n w (w' (n + k)) k k' (whole r)

  module _ (d x : List ℕ) (p j : ℕ) (g : Did d at n w k x p j) where
    pub pair-second : Room at n W K → Room p j (w' j) k'
    pair-second r = room_as p j (w' (n + k)) (w' j) k' k' (ap w' (sym g.0.1)) refl (room-then d at n w k x p j (w' (n + k)) k' g (whole r))

    pub pair-did : (y : List ℕ) (e m : ℕ) → Did x p j (w' j) k' y e m → Did d at n W K y e m
    pair-did y e m h =
        did-as d at n (w ++ w' (n + k)) W (k + k') K y e m (sym s.bytes) (sym s.numbers)
        (did_then d at n w k x p j (w' (n + k)) k' y e m g (did-as x p j (w' j) (w' (n + k)) k' k' y e m (ap w' g.0.1) refl h))

-- no RANGE is left, or no target
pub no-ranges : (bs : List Binding) → bs ≡ [] → [] ≡ encode_ranges bs []
unfolding encode_ranges
no-ranges bs e = sym (ap (λ (l : List Binding). encode_ranges l []) e)

pub no-openings : (masks : List ℕ) (bs : List Binding) → bs ≡ [] → [] ≡ openings masks bs
unfolding openings
no-openings masks bs e = sym (ap (openings masks) e)

nothing : (d : List ℕ) (at n : ℕ) (W : List ℕ) (K : ℕ) → W ≡ [] → K ≡ 0 → Did d at n W K d at n
nothing d at n W K e k = did-as d at n [] W 0 K d at n (sym e) (sym k) ((sym (add-zero at), sym (add-zero n)), refl)

module _ (masks : List ℕ) (f : ℕ → List ℕ) where
  pub no-guards : (bs : List Binding) → bs ≡ [] → (d : List ℕ) (at n : ℕ) → Did d at n (range_guards masks f bs n) (new_of masks f bs) d at n
  unfolding range_guards new_of total
  no-guards bs e d at n = nothing d at n _ _ (ap (λ (l : List Binding). range_guards masks f l n) e) (ap (new_of masks f) e)

  pub no_targets : (k l : ℕ) (q z : List ℕ) → k ≡ 0 → (d : List ℕ) (at n : ℕ) → Did d at n (targets_bytes masks f (targets_at k l q z) n) (targets_new masks f (targets_at k l q z)) d at n
  unfolding targets_at targets_bytes targets_new
  no_targets k l q z h d at n = nothing d at n _ _ (ap (λ (i : ℕ). targets_bytes masks f (targets_at i l q z) n) h) (ap (λ (i : ℕ). targets_new masks f (targets_at i l q z)) h)

-- a RANGE and those after it
module _ (bs : List Binding) (v r : ℕ) (cs : List Binding) (e : bs ≡ record { variable = v; relation = r } ∷ cs) where
  pub range-first : Two (encode_ranges bs []) (1 ∷ v ∷ r ∷ []) (encode_ranges cs [])
  unfolding encode_ranges
  range-first = record { bytes = ap (λ (l : List Binding). encode_ranges l []) e }

  pub opening-last : (masks : List ℕ) (m : ℕ) → m ≡ get_or masks v 0 → Two (openings masks bs) (openings masks cs) (opening m)
  unfolding openings
  opening-last masks m em = record { bytes = ap (openings masks) e ∙ ap (λ (i : ℕ). openings masks cs ++ opening i) (sym em) }

  pub guard-first : (masks : List ℕ) (f : ℕ → List ℕ) (m n : ℕ) → m ≡ get_or masks v 0
      → Pair (range_guards masks f bs n) (new_of masks f bs) n (guard_bytes m f v n) (guard_new m f) (λ j. range_guards masks f cs j) (new_of masks f cs)
  unfolding range_guards new_of total
  guard-first masks f m n em = record {
    bytes = ap (λ (l : List Binding). range_guards masks f l n) e ∙ ap (λ (i : ℕ). guard_bytes i f v n ++ range_guards masks f cs (n + guard_new i f)) (sym em);
    numbers = ap (new_of masks f) e ∙ ap (λ (i : ℕ). guard_new i f + new_of masks f cs) (sym em);
  }

-- a target and those after it
pub target_first : (masks : List ℕ) (f : ℕ → List ℕ) (k l : ℕ) (q z : List ℕ) → (k ≡ 0 → ⊥) → (a : ℕ) → a ≡ get_or z 0 0 → (x y : List ℕ) → x ≡ drop a q → y ≡ drop a z → (n : ℕ)
    → Pair (targets_bytes masks f (targets_at k l q z) n) (targets_new masks f (targets_at k l q z)) n (rewritten_t masks f (decode_t l q z) n) (new_of masks f (bindings_t (decode_t l q z))) (λ j. targets_bytes masks f (targets_at (k - 1) l x y) j) (targets_new masks f (targets_at (k - 1) l x y))
unfolding targets_bytes targets_new targets_at
target_first masks f k l q z h a ea x y ex ey n =
    let e : targets_at k l q z ≡ decode_t l q z ∷ targets_at (k - 1) l x y = go k h in
    record { bytes = ap (λ (ts : List Term). targets_bytes masks f ts n) e; numbers = ap (targets_new masks f) e }
  where
    go : (m : ℕ) → (m ≡ 0 → ⊥) → targets_at m l q z ≡ decode_t l q z ∷ targets_at (m - 1) l x y
    go zero h = absurd (h refl)
    go (suc m) h = rw (sub-one, ex, ey, ea)

-- a whole query
pub record Whole (Q : List ℕ) (K : ℕ) (R T O : List ℕ) (C G : ℕ → List ℕ) (kt kc kr : ℕ) : Type 0 where
  pub bytes : Q ≡ R ++ (T ++ (O ++ (C (8 + kt) ++ G (8 + kt + kc))))
  pub numbers : K ≡ kt + (kc + kr)

module _ (Q : List ℕ) (K : ℕ) (R T O : List ℕ) (C G : ℕ → List ℕ) (kt kc kr : ℕ) (s : Whole Q K R T O C G kt kc kr) (room : Room 0 8 Q K) where
  abbrev cg : List ℕ
  cg = C (8 + kt) ++ G (8 + kt + kc)

  pub ranges-room : 0 + length R < 9223372036854775808
  ranges-room = omega (arith, room.0, ap length s.bytes, length-append R (T ++ (O ++ cg)))

  module _ (d x₁ : List ℕ) (p₁ : ℕ) (w₁ : Wrote d 0 R x₁ p₁) where
    after-ranges : Room p₁ 8 (T ++ (O ++ cg)) (kt + (kc + kr))
    after-ranges = (omega (arith, room.0, ap length s.bytes, length-append R (T ++ (O ++ cg)), w₁.0), omega (arith, room.1, s.numbers))

    pub targets-room : Room p₁ 8 T kt
    targets-room = room-left p₁ 8 T (O ++ cg) kt (kc + kr) after-ranges

    module _ (x₂ : List ℕ) (p₂ n₂ : ℕ) (w₂ : Did x₁ p₁ 8 T kt x₂ p₂ n₂) where
      after-targets : Room p₂ n₂ (O ++ cg) (kc + kr)
      after-targets = room-then x₁ p₁ 8 T kt x₂ p₂ n₂ (O ++ cg) (kc + kr) w₂ after-ranges

      pub openings-room : p₂ + length O < 9223372036854775808
      openings-room = omega (arith, after-targets.0, length-append O cg)

      module _ (x₃ : List ℕ) (p₃ : ℕ) (w₃ : Wrote x₂ p₂ O x₃ p₃) where
        rest : C (8 + kt) ++ G (8 + kt + kc) ≡ C n₂ ++ G (n₂ + kc)
        rest = ap (λ (i : ℕ). C i ++ G (i + kc)) (sym w₂.0.1)

        after-openings : Room p₃ n₂ (C n₂ ++ G (n₂ + kc)) (kc + kr)
        after-openings = (omega (arith, after-targets.0, length-append O cg, w₃.0, ap length rest), after-targets.1)

        pub condition-room : Room p₃ n₂ (C n₂) kc
        condition-room = room-left p₃ n₂ (C n₂) (G (n₂ + kc)) kc kr after-openings

        module _ (x₄ : List ℕ) (p₄ n₄ : ℕ) (w₄ : Did x₃ p₃ n₂ (C n₂) kc x₄ p₄ n₄) where
          pub guards-room : Room p₄ n₄ (G n₄) kr
          guards-room = room_as p₄ n₄ (G (n₂ + kc)) (G n₄) kr kr (ap G (sym w₄.0.1)) refl (room-then x₃ p₃ n₂ (C n₂) kc x₄ p₄ n₄ (G (n₂ + kc)) kr w₄ after-openings)

          pub query-done : (x₅ : List ℕ) (p₅ n₅ : ℕ) → Did x₄ p₄ n₄ (G n₄) kr x₅ p₅ n₅ → (p₅ ≡ length Q) × (x₅ ≡ sets d 0 Q)
          query-done x₅ p₅ n₅ w₅ =
              let final : Did x₃ p₃ n₂ cg (kc + kr) x₅ p₅ n₅ =
              did-as x₃ p₃ n₂ (C n₂ ++ G (n₂ + kc)) cg (kc + kr) (kc + kr) x₅ p₅ n₅ (sym rest) refl
              (did_then x₃ p₃ n₂ (C n₂) kc x₄ p₄ n₄ (G (n₂ + kc)) kr x₅ p₅ n₅ w₄ (did-as x₄ p₄ n₄ (G n₄) (G (n₂ + kc)) kr kr x₅ p₅ n₅ (ap G w₄.0.1) refl w₅))
              in
              let all : Did d 0 8 (R ++ (T ++ (O ++ cg))) (kt + (kc + kr)) x₅ p₅ n₅ =
              did-head d 0 8 R x₁ p₁ (T ++ (O ++ cg)) (kt + (kc + kr)) x₅ p₅ n₅ w₁
              (did_then x₁ p₁ 8 T kt x₂ p₂ n₂ (O ++ cg) (kc + kr) x₅ p₅ n₅ w₂ (did-head x₂ p₂ n₂ O x₃ p₃ cg (kc + kr) x₅ p₅ n₅ w₃ final))
              in
              let done : Did d 0 8 Q K x₅ p₅ n₅ = did-as d 0 8 (R ++ (T ++ (O ++ cg))) Q (kt + (kc + kr)) K x₅ p₅ n₅ (sym s.bytes) (sym s.numbers) all in
              (omega (arith, done.0.0), done.1)

pub query-whole : (masks : List ℕ) (f : ℕ → List ℕ) (o : Layout) (l : ℕ) (q z : List ℕ) (x y : List ℕ) → x ≡ drop o.first q → y ≡ drop o.first z → (u v : List ℕ) → u ≡ drop o.condition q → v ≡ drop o.condition z
    → Whole (query_bytes masks f (query_read o l q z)) (query_new masks f (query_read o l q z)) (encode_ranges (head_ranges o.ranges q) []) (targets_bytes masks f (targets_at o.targets l x y) 8) (openings masks (head_ranges o.ranges q))
    (λ i. rewritten masks f (decode l u v) i) (λ i. range_guards masks f (head_ranges o.ranges q) i) (targets_new masks f (targets_at o.targets l x y)) (new_of masks f (bindings (decode l u v))) (new_of masks f (head_ranges o.ranges q))
unfolding query_bytes query_new
query-whole masks f o l q z x y ex ey u v eu ev = rw (ex, ey, eu, ev) (record { bytes = refl; numbers = refl })
