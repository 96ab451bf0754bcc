-- RANGE records and targets, one after the other.
use Prim.Native.Nat.{ℕ, zero, suc, ◌+◌, ◌-◌, ◌*◌, ◌<◌, ◌≤◌}
use mathlib.Core.Bool.{Bool, true, false}
use mathlib.Core.List.{List, [], ◌∷◌}
use mathlib.Core.Path.{◌≡◌, refl, sym, ◌∙◌, ap, ap₂}
use native.Mathlib.Omega.{arith}
use borrow.Author.Tests.{ne_eqb}
use lib.Dec.{eqb}
use lib.ListN.{length, get_or, drop, length-drop}
use lib.Seq.{drop-drop}
use Rattle.model.specs.Kinds.{kind_of, find}
use Rattle.model.proofs.Lists.{first-at}
use Rattle.model.specs.Syntax.{Binding, Term, CONSTANT, ATTRIBUTE, AGGREGATE}
use Rattle.model.specs.Encoding.{Read, fail, ok, then, encode_targets, encode_t, read_term, starts_range, starts_target, read_ranges, read_targets}
use Rattle.model.proofs.Sizes.{size_t, size_ts, size-ranges, size-targets, size, drop-encode_t, drop-ranges}
use Rattle.model.proofs.ReadingQueries.{ranges-inv, targets-inv}
use Rattle.kinds.specs.Tables.{record_length, of_kind}
use Rattle.kinds.specs.Places.{head_at}
use Rattle.kinds.specs.declared.HeadRecord.{HeadRecord}
use Rattle.kinds.specs.declared.HeadRecord.TheVariants as H
use Rattle.kinds.proofs.Heads.{range_at, range-bytes}
use Rattle.grammar.specs.Sizes.{term_size}
use Rattle.grammar.specs.Shapes.{is_target, part_read, ranges_part, targets_part}
use Rattle.grammar.proofs.Reader.{took-term, sized, term-sized, same}
use Rattle.std.specs.Prelude.{Option, Some, None}

-- a part after n others that took a bytes
abbrev pub beyond : ℕ → ℕ → Option (ℕ × ℕ) → Option (ℕ × ℕ)
beyond n a (Some (m, b)) = Some (n + m, a + b)
beyond n a None = None

beyond-beyond : (n a m b : ℕ) (s : Option (ℕ × ℕ)) → beyond n a (beyond m b s) ≡ beyond (n + m) (a + b) s
beyond-beyond n a m b (Some (i, c)) = ap₂ (λ m b. Some (m, b)) (omega arith) (omega arith)
beyond-beyond n a m b None = refl

beyond-zero : (s : Option (ℕ × ℕ)) → beyond 0 0 s ≡ s
beyond-zero (Some (m, b)) = ap₂ (λ m b. Some (m, b)) (omega arith) (omega arith)
beyond-zero None = refl

-- RANGE records: bytes, rest, bound
pub took-ranges : (f : ℕ) (q : List ℕ) (bs : List Binding) (r : List ℕ) → read_ranges f q ≡ ok bs r → (length q ≡ 3 * length bs + length r) × (r ≡ drop (3 * length bs) q)
took-ranges f q bs r h =
    let e = ranges-inv f q bs r h in
    (ap length e ∙ size-ranges bs r, sym (drop-ranges bs r) ∙ ap (drop (3 * length bs)) (sym e))

pub ranges-same : (f g : ℕ) (q : List ℕ) → length q < f → length q < g → read_ranges f q ≡ read_ranges g q
unfolding read_ranges starts_range
ranges-same zero g q h k = absurd (omega arith)
ranges-same (suc f) zero q h k = absurd (omega arith)
ranges-same (suc f) (suc g) [] h k = refl
ranges-same (suc f) (suc g) (a ∷ []) h k = refl
ranges-same (suc f) (suc g) (a ∷ b ∷ []) h k = refl
ranges-same (suc f) (suc g) (a ∷ b ∷ c ∷ r) h k =
    ap (λ y. elim (eqb a 1) as (λ _. Read (List Binding)) [ false ↦ ok [] (a ∷ b ∷ c ∷ r) | true ↦ then y λ bs r. ok (record { variable = b; relation = c } ∷ bs) r ])
    (ranges-same f g r (omega arith) (omega arith))

pub ranges-none : (q : List ℕ) → (get_or q 0 0 ≡ 1 → ⊥) → Some (0, 0) ≡ ranges_part q
unfolding ranges_part read_ranges starts_range
ranges-none [] h = refl
ranges-none (k ∷ r) h = let e : 0 ≡ suc (length r) - suc (length r) = omega arith in rw (ne_eqb k 1 h, read_ranges) (ap (λ n. Some (0, n)) e)

-- one that is cut short, and one that is whole
pub ranges-cut : (q : List ℕ) → get_or q 0 0 ≡ 1 → head_at q ≡ H.Other → None ≡ ranges_part q
unfolding ranges_part read_ranges starts_range
ranges-cut [] h n = absurd (omega arith)
ranges-cut (k ∷ []) h n = rw h
ranges-cut (k ∷ v ∷ []) h n = rw h
ranges-cut (k ∷ v ∷ x ∷ r) h n =
    let e : H.Range v x ≡ H.Other = sym (ap (λ i. head_at (i ∷ v ∷ x ∷ r)) h ∙ range_at v x r) ∙ n in
    absurd (let z : ◌≡◌ {A = ℕ} 0 1 = cc in omega arith)

pub range-whole : (q : List ℕ) (v x : ℕ) → head_at q ≡ H.Range v x → 3 ≤ length q
range-whole q v x e = omega (arith, ap length (range-bytes q v x e))

pub ranges_more : (q : List ℕ) → get_or q 0 0 ≡ 1 → 3 ≤ length q → ranges_part q ≡ beyond 1 3 (ranges_part (drop 3 q))
unfolding ranges_part read_ranges starts_range
ranges_more [] h l = absurd (omega arith)
ranges_more (k ∷ []) h l = absurd (omega arith)
ranges_more (k ∷ v ∷ []) h l = absurd (omega arith)
ranges_more (k ∷ v ∷ x ∷ r) h l =
    rw (h, ranges-same (suc (suc (suc (length r)))) (suc (length r)) r (omega arith) (omega arith))
    (go (read_ranges (suc (length r)) r) refl)
  where
    go : (y : Read (List Binding)) → read_ranges (suc (length r)) r ≡ y → part_read (1 ∷ v ∷ x ∷ r) (then y λ bs r. ok (record { variable = v; relation = x } ∷ bs) r) ≡ beyond 1 3 (part_read r y)
    go fail e = refl
    go (ok bs u) e = let t = took-ranges (suc (length r)) r bs u e in ap₂ (λ m b. Some (m, b)) (omega arith) (omega arith)

pub range_length : record_length 1 ≡ 3
unfolding record_length of_kind kind_of find
range_length = refl

-- targets
term-some : (t : Term) → 1 ≤ size_t t
unfolding size
term-some (CONSTANT a b c d) = omega arith
term-some (ATTRIBUTE v a) = omega arith
term-some (AGGREGATE f v r a c) = omega arith

pub drop-targets : (ts : List Term) (r : List ℕ) → drop (size_ts ts) (encode_targets ts r) ≡ r
unfolding encode_targets size_ts
drop-targets [] r = refl
drop-targets (t ∷ ts) r =
    sym (drop-drop (size_ts ts) (size_t t) (encode_t t (encode_targets ts r))) ∙ ap (drop (size_ts ts)) (drop-encode_t t (encode_targets ts r)) ∙ drop-targets ts r

pub took-targets : (f : ℕ) (q : List ℕ) (ts : List Term) (r : List ℕ) → read_targets f q ≡ ok ts r → (length q ≡ size_ts ts + length r) × (r ≡ drop (size_ts ts) q)
took-targets f q ts r h =
    let e = (targets-inv f q ts r h).1 in
    (ap length e ∙ size-targets ts r, sym (drop-targets ts r) ∙ ap (drop (size_ts ts)) (sym e))

-- the reader of a target and of those after it, by the test of the kind
read_one : Bool → ℕ → List ℕ → Read (List Term)
read_one b f q = elim b [ false ↦ ok [] q | true ↦ then (read_term f q) λ t r. then (read_targets f r) λ ts r. ok (t ∷ ts) r ]

pub targets-same : (f g : ℕ) (q : List ℕ) → length q < f → length q < g → read_targets f q ≡ read_targets g q
unfolding read_targets read_one
targets-same zero g q h k = absurd (omega arith)
targets-same (suc f) zero q h k = absurd (omega arith)
targets-same (suc f) (suc g) q h k = go (starts_target q) (λ r l. targets-same f g r (omega arith) (omega arith))
  where
    onward : (x : Read Term) → read_term f q ≡ x → ((r : List ℕ) → length r < length q → read_targets f r ≡ read_targets g r)
        → then x (λ t r. then (read_targets f r) λ ts r. ok (t ∷ ts) r) ≡ then x (λ t r. then (read_targets g r) λ ts r. ok (t ∷ ts) r)
    onward fail e i = refl
    onward (ok t r) e i =
        let l = (took-term f q t r e).bytes in
        ap (λ y. then y λ ts r. ok (t ∷ ts) r) (i r (omega (arith, term-some t)))

    go : (b : Bool) → ((r : List ℕ) → length r < length q → read_targets f r ≡ read_targets g r) → read_one b f q ≡ read_one b g q
    go false i = refl
    go true i =
        onward (read_term f q) refl i
        ∙ ap (λ x. then x (λ t r. then (read_targets g r) λ ts r. ok (t ∷ ts) r)) (same (λ g x. read_term g x) size_t took-term f g q (omega arith) (omega arith))

starts-target : (q : List ℕ) → starts_target q ≡ is_target (get_or q 0 0)
unfolding starts_target
starts-target [] = refl
starts-target (k ∷ r) = refl

pub targets-none : (q : List ℕ) → is_target (get_or q 0 0) ≡ false → Some (0, 0) ≡ targets_part q
unfolding targets_part read_targets
targets-none q h = let e : 0 ≡ length q - length q = omega arith in rw (starts-target q ∙ h, read_targets) (ap (λ n. Some (0, n)) e)

abbrev counted : Option ℕ → List ℕ → Option (ℕ × ℕ)
counted (Some n) q = beyond 1 n (targets_part (drop n q))
counted None q = None

pub targets-more : (q : List ℕ) → is_target (get_or q 0 0) ≡ true → counted (term_size q) q ≡ targets_part q
unfolding targets_part read_targets
targets-more q h = rw (starts-target q ∙ h, read_targets, term-sized (length q) q (omega arith)) (sym (go (read_term (length q) q) refl))
  where
    all : (t : Term) (u : List ℕ) → length q ≡ size_t t + length u → (y : Read (List Term)) → read_targets (suc (length u)) u ≡ y
        → part_read q (then y λ ts r. ok (t ∷ ts) r) ≡ beyond 1 (size_t t) (part_read u y)
    all t u l fail e = refl
    all t u l (ok ts w) e = let i = took-targets (suc (length u)) u ts w e in ap₂ (λ m b. Some (m, b)) (omega arith) (omega arith)

    go : (x : Read Term) → read_term (length q) q ≡ x
        → part_read q (then x λ t r. then (read_targets (length q) r) λ ts r. ok (t ∷ ts) r) ≡ counted (sized size_t x) q
    go fail e = refl
    go (ok t u) e =
        let i = took-term (length q) q t u e in
        let l = i.bytes in
        rw (← i.rest, targets-same (length q) (suc (length u)) u (omega (arith, term-some t)) (omega arith)) (all t u l (read_targets (suc (length u)) u) refl)

-- the loops: what is left decides
pub begins : (f : List ℕ → Option (ℕ × ℕ)) (q : List ℕ) → beyond 0 0 (f (drop 0 q)) ≡ f q
begins f q = beyond-zero (f q)

pub ends : (at n : ℕ) (s w : Option (ℕ × ℕ)) → Some (0, 0) ≡ s → beyond n at s ≡ w → Some (n, at) ≡ w
ends at n s w e inv = ap₂ (λ m b. Some (m, b)) (omega arith) (omega arith) ∙ ap (beyond n at) e ∙ inv

module _ (q : List ℕ) (at n : ℕ) (w : Option (ℕ × ℕ)) (k : ℕ) (ek : k ≡ get_or q at 0) where
  module _ (inv : beyond n at (ranges_part (drop at q)) ≡ w) where
    pub range-end : (k ≡ 1 → ⊥) → Some (n, at) ≡ w
    range-end h = ends at n (ranges_part (drop at q)) w (ranges-none (drop at q) (λ e. h (ek ∙ sym (first-at at q) ∙ e))) inv

    module _ (h : k ≡ 1) (x : List ℕ) (r : HeadRecord) (ex : x ≡ drop at q) (er : r ≡ head_at x) where
      one : get_or (drop at q) 0 0 ≡ 1
      one = first-at at q ∙ sym ek ∙ h

      pub range-cut : r ≡ H.Other → None ≡ w
      range-cut e = ap (beyond n at) (ranges-cut (drop at q) one (ap head_at (sym ex) ∙ sym er ∙ e)) ∙ inv

      module _ (v y : ℕ) (e : r ≡ H.Range v y) (a : ℕ) (ea : a ≡ record_length 1) where
        pub range-fits : (a ≡ 3) × (3 ≤ length q - at)
        range-fits = (ea ∙ range_length, omega (arith, range-whole (drop at q) v y (ap head_at (sym ex) ∙ sym er ∙ e), length-drop at q))

        pub range-turn : beyond (n + 1) (at + a) (ranges_part (drop (at + a) q)) ≡ w
        range-turn =
            ap (λ b. beyond (n + 1) (at + b) (ranges_part (drop (at + b) q))) range-fits.0
            ∙ sym (beyond-beyond n at 1 3 (ranges_part (drop (at + 3) q)))
            ∙ ap (λ l. beyond n at (beyond 1 3 (ranges_part l))) (sym (drop-drop 3 at q))
            ∙ ap (beyond n at) (sym (ranges_more (drop at q) one (omega (arith, range-fits.1, length-drop at q))))
            ∙ inv

  module _ (inv : beyond n at (targets_part (drop at q)) ≡ w) (b : Bool) (eb : b ≡ is_target k) where
    tests : is_target (get_or (drop at q) 0 0) ≡ b
    tests = ap is_target (first-at at q ∙ sym ek) ∙ sym eb

    pub target-end : b ≡ false → Some (n, at) ≡ w
    target-end h = ends at n (targets_part (drop at q)) w (targets-none (drop at q) (tests ∙ h)) inv

    module _ (h : b ≡ true) (x : List ℕ) (s : Option ℕ) (ex : x ≡ drop at q) (es : s ≡ term_size x) where
      pub target-cut : s ≡ None → None ≡ w
      target-cut e = ap (λ z. beyond n at (counted z (drop at q))) (sym e ∙ es ∙ ap term_size ex) ∙ ap (beyond n at) (targets-more (drop at q) (tests ∙ h)) ∙ inv

      pub target-turn : (m : ℕ) → s ≡ Some m → beyond (n + 1) (at + m) (targets_part (drop (at + m) q)) ≡ w
      target-turn m e =
          sym (beyond-beyond n at 1 m (targets_part (drop (at + m) q)))
          ∙ ap (λ l. beyond n at (beyond 1 m (targets_part l))) (sym (drop-drop m at q))
          ∙ ap (λ z. beyond n at (counted z (drop at q))) (sym e ∙ es ∙ ap term_size ex)
          ∙ ap (beyond n at) (targets-more (drop at q) (tests ∙ h))
          ∙ inv
