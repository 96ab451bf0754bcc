-- The end of the pass: one symbol or one record more, and the whole.
use Prim.Native.Nat.{ℕ, zero, suc, ◌+◌, ◌-◌, ◌*◌, ◌%◌, ◌≤◌, ◌<◌}
use mathlib.Core.Bool.{Bool, true, false}
use mathlib.Core.List.{List, [], ◌∷◌, ◌++◌, append_assoc, append-nil}
use mathlib.Core.Path.{◌≡◌, refl, sym, ◌∙◌, ap, ap₂, subst, fun_ext}
use native.Mathlib.Nat.{mod-eq_of_lt}
use native.Mathlib.Omega.{arith}
use lib.Dec.{eqb}
use lib.ListN.{length, get_or, set, take, drop, length-append, drop_of_length-le}
use lib.Seq.{sets, paste, sets-eq, take_all, take-suc, drop-cons, take-suc-set, drop-set-lt, set_out, take-set-lt, take-set-le, get_or-take, get_or-set_same, get_or-set_other, length-take-le, take_at, drop-append-add, drop-drop}
use borrow.Author.Tests.{lt-ltb, le-ltb, eq-eqb, ne_eqb, lt-leb, le-leb}
use Rattle.model.proofs.Tests.{by-lt}
use Rattle.quel.specs.ReadText as Q
use Rattle.parts.specs.Table.{relation_at, number_at}
use Rattle.parts.specs.Renumber.{bit_at, used_before, renumber, body_of, mended, range_bytes, records_of}
use Rattle.parts.proofs.Renumber.{mended-length, mended-same, used_low, renumber-bound, renumber-later, renumber-same, ranges-length}
use Rattle.quick.specs.Mend.{Renumbered, new_number, table_ranges}

-- one symbol more is numbered
pub renumbered-none : (S : List ℕ) → Renumbered S S 0
renumbered-none S = record { number = λ i l. absurd (omega arith); relation = λ i. refl; mark = λ i. refl }

module _ (S T : List ℕ) (i c : ℕ) (e : c ≡ used_before S i) (r : Renumbered S T i) (long : length T ≡ 160) (l : i < 30) where
  pub renumbered-step : Renumbered S (set T (4 * i + 2) c) (i + 1)
  renumbered-step = record {
    number = λ j h. by-lt j i
        (λ k. get_or-set_other T (4 * i + 2) (4 * j + 2) c 0 (λ e. omega arith) ∙ r.number j k)
        (λ k. subst (λ (a : ℕ). number_at (set T (4 * i + 2) c) a ≡ used_before S a) (let z : i ≡ j = omega arith in z) (get_or-set_same T (4 * i + 2) c 0 (omega arith) ∙ e));
    relation = λ j. get_or-set_other T (4 * i + 2) (4 * j + 1) c 0 (λ e. omega arith) ∙ r.relation j;
    mark = λ j. get_or-set_other T (4 * i + 2) (124 + j) c 0 (λ e. omega arith) ∙ r.mark j;
  }

  pub used_step : c + get_or (set T (4 * i + 2) c) (124 + i) 0 % 2 ≡ used_before S (i + 1)
  unfolding used_before
  used_step =
      ap₂ (λ (a b : ℕ). a + b % 2) e (renumbered-step.mark i)
      ∙ sym (ap (used_before S) (let z : i + 1 ≡ suc i = omega arith in z))

pub renumbered-end : (S T : List ℕ) (n i c : ℕ) → i ≤ n → n ≤ i → c ≡ used_before S i → Renumbered S T i → (c ≡ used_before S n) × Renumbered S T n
renumbered-end S T n i c h k e r = let z : i ≡ n = omega arith in (e ∙ ap (used_before S) z, subst (Renumbered S T) z r)

-- a number by the table
pub number_bound : (T : List ℕ) (n unused v : ℕ) → v < n → new_number T n unused v ≡ number_at T v % 256
number_bound T n unused v h = rw (lt-ltb v n h)

pub number-later : (T : List ℕ) (n unused v : ℕ) → n ≤ v → new_number T n unused v ≡ v - unused
number-later T n unused v h = rw (le-ltb v n h)

pub number_counts : (S T : List ℕ) (n unused : ℕ) → Renumbered S T n → unused ≡ n - used_before S n → n ≤ 30 → (v : ℕ) → new_number T n unused v ≡ renumber S n v
number_counts S T n unused r e l v = by-lt v n
    (λ h. number_bound T n unused v h ∙ ap (λ (a : ℕ). a % 256) (r.number v h) ∙ (let z : used_before S v % 256 ≡ used_before S v = mod-eq_of_lt (omega (arith, used_low S v)) in z) ∙ sym (renumber-bound S n v h))
    (λ h. number-later T n unused v h ∙ ap (λ (a : ℕ). v - a) e ∙ sym (renumber-later S n v h))

-- records mended up to a place; vs are the bytes that are still of the last record
module _ (f : ℕ → ℕ) where
  abbrev pub halfway : List Bool → ℕ → List ℕ → List ℕ
  halfway vs at x = take at x ++ mended f vs (drop at x)

  past_end : (vs : List Bool) (at : ℕ) (x : List ℕ) → length x ≤ at → halfway vs at x ≡ x
  unfolding mended
  past_end vs at x h = rw (drop_of_length-le x h, take_all at x h) (go vs)
    where
      go : (vs : List Bool) → x ++ mended f vs [] ≡ x
      go vs = append-nil x

  -- one byte more
  one_more : (at : ℕ) (x y : List ℕ) (b : ℕ) (zs : List ℕ) → take (suc at) y ≡ take at x ++ (b ∷ []) → take at x ++ (b ∷ zs) ≡ take (suc at) y ++ zs
  one_more at x y b zs e = sym (ap (λ (z : List ℕ). z ++ zs) e ∙ append_assoc (take at x) (b ∷ []) zs)

  step-kind : (at : ℕ) (x : List ℕ) → at < length x → halfway [] at x ≡ halfway (body_of (get_or x at 0)) (suc at) x
  unfolding mended
  step-kind at x h = rw (drop-cons x at 0 h) (one_more at x x (get_or x at 0) _ (take-suc x at 0 h))

  step-over : (vs : List Bool) (at : ℕ) (x : List ℕ) → halfway (false ∷ vs) at x ≡ halfway vs (suc at) x
  unfolding mended
  step-over vs at x = by-lt at (length x)
      (λ h. rw (drop-cons x at 0 h) (one_more at x x (get_or x at 0) _ (take-suc x at 0 h)))
      (λ h. past_end (false ∷ vs) at x h ∙ sym (past_end vs (suc at) x (omega arith)))

  step-new : (vs : List Bool) (at : ℕ) (x : List ℕ) → halfway (true ∷ vs) at x ≡ halfway vs (suc at) (set x at (f (get_or x at 0)))
  unfolding mended
  step-new vs at x = by-lt at (length x)
      (λ h. ap (λ (z : List ℕ). take at x ++ mended f (true ∷ vs) z) (drop-cons x at 0 h)
      ∙ one_more at x (set x at (f (get_or x at 0))) (f (get_or x at 0)) (mended f vs (drop (suc at) x)) (take-suc-set x at (f (get_or x at 0)) h)
      ∙ ap (λ (z : List ℕ). take (suc at) (set x at (f (get_or x at 0))) ++ mended f vs z) (sym (drop-set-lt (suc at) x at (f (get_or x at 0)) (omega arith))))
      (λ h. past_end (true ∷ vs) at x h ∙ sym (ap (halfway vs (suc at)) (set_out x at (f (get_or x at 0)) h) ∙ past_end vs (suc at) x (omega arith)))

  set-within : (to : ℕ) (x : List ℕ) (i : ℕ) → to ≤ length x → set (take to x) i (f (get_or (take to x) i 0)) ≡ take to (set x i (f (get_or x i 0)))
  set-within to x i l = by-lt i to
      (λ h. ap (λ (a : ℕ). set (take to x) i (f a)) (get_or-take to x i 0 h) ∙ sym (take-set-lt to x i (f (get_or x i 0)) h))
      (λ h. set_out (take to x) i (f (get_or (take to x) i 0)) (omega (arith, length-take-le to x l)) ∙ sym (take-set-le to x i (f (get_or x i 0)) h))

  -- one record more, of the bytes made that go up to `to`
  module _ (made : List ℕ) (to at k : ℕ) (l : to ≤ length made) (h : at < to) (e : get_or made at 0 ≡ k) where
    kind-here : get_or (take to made) at 0 ≡ k
    kind-here = get_or-take to made at 0 h ∙ e

    first : (vs : List Bool) → body_of k ≡ vs → halfway [] at (take to made) ≡ halfway vs (suc at) (take to made)
    first vs b = step-kind at (take to made) (omega (arith, length-take-le to made l)) ∙ ap (λ (ws : List Bool). halfway ws (suc at) (take to made)) (ap body_of kind-here ∙ b)

    over : (vs : List Bool) (i : ℕ) → halfway (false ∷ vs) (at + i) (take to made) ≡ halfway vs (at + suc i) (take to made)
    over vs i = step-over vs (at + i) (take to made) ∙ ap (λ (j : ℕ). halfway vs j (take to made)) (let z : suc (at + i) ≡ at + suc i = omega arith in z)

    pub one_byte : k < 21 → halfway [] (at + 1) (take to made) ≡ halfway [] at (take to made)
    unfolding body_of
    one_byte b = ap (λ (j : ℕ). halfway [] j (take to made)) (let z : at + 1 ≡ suc at = omega arith in z) ∙ sym (first [] (rw (body_of, lt-ltb k 21 b)))

    start : (vs : List Bool) → halfway vs (suc at) (take to made) ≡ halfway vs (at + 1) (take to made)
    start vs = ap (λ (j : ℕ). halfway vs j (take to made)) (let z : suc at ≡ at + 1 = omega arith in z)

    -- a variable i bytes from the record's first
    new : (vs : List Bool) (i : ℕ) → halfway (true ∷ vs) (at + i) (take to made) ≡ halfway vs (at + suc i) (take to (set made (at + i) (f (get_or made (at + i) 0))))
    new vs i =
        step-new vs (at + i) (take to made)
        ∙ ap₂ (λ (j : ℕ) (x : List ℕ). halfway vs j x) (let z : suc (at + i) ≡ at + suc i = omega arith in z) (set-within to made (at + i) l)

    pub two_bytes : k ≡ 21 → halfway [] (at + 2) (take to made) ≡ halfway [] at (take to made)
    unfolding body_of
    two_bytes b = sym (first (false ∷ []) (rw b) ∙ start (false ∷ []) ∙ over [] 1)

    pub five-bytes : k ≡ 32 → halfway [] (at + 5) (take to made) ≡ halfway [] at (take to made)
    unfolding body_of
    five-bytes b =
        sym (first (false ∷ false ∷ false ∷ false ∷ []) (rw b) ∙ start (false ∷ false ∷ false ∷ false ∷ [])
        ∙ over (false ∷ false ∷ false ∷ []) 1 ∙ over (false ∷ false ∷ []) 2 ∙ over (false ∷ []) 3 ∙ over [] 4)

module _ (f : ℕ → ℕ) (made : List ℕ) (to at k : ℕ) (l : to ≤ length made) (h : at < to) (e : get_or made at 0 ≡ k) where
  abbrev pub changed : ℕ → List ℕ
  changed i = set made i (f (get_or made i 0))

  -- the bytes behind a variable
  behind : (x : List ℕ) (vs : List Bool) (i : ℕ) → halfway f (false ∷ vs) (at + i) x ≡ halfway f vs (at + suc i) x
  behind x vs i = step-over f vs (at + i) x ∙ ap (λ (j : ℕ). halfway f vs j x) (let z : suc (at + i) ≡ at + suc i = omega arith in z)

  pub aggregate-bytes : k ≡ 34 → halfway f [] (at + 5) (take to (changed (at + 2))) ≡ halfway f [] at (take to made)
  unfolding body_of
  aggregate-bytes b =
      sym (first f made to at k l h e (false ∷ true ∷ false ∷ false ∷ []) (rw b) ∙ start f made to at k l h e (false ∷ true ∷ false ∷ false ∷ [])
      ∙ over f made to at k l h e (true ∷ false ∷ false ∷ []) 1 ∙ new f made to at k l h e (false ∷ false ∷ []) 2
      ∙ behind (take to (changed (at + 2))) (false ∷ []) 3 ∙ behind (take to (changed (at + 2))) [] 4)

  pub variable-bytes : 21 ≤ k → (k ≡ 21 → ⊥) → (k ≡ 32 → ⊥) → (k ≡ 34 → ⊥) → halfway f [] (at + 3) (take to (changed (at + 1))) ≡ halfway f [] at (take to made)
  unfolding body_of
  variable-bytes a b c d =
      sym (first f made to at k l h e (true ∷ false ∷ []) (rw (body_of, le-ltb k 21 a, ne_eqb k 21 b, ne_eqb k 32 c, ne_eqb k 34 d)) ∙ start f made to at k l h e (true ∷ false ∷ [])
      ∙ new f made to at k l h e (false ∷ []) 1 ∙ behind (take to (changed (at + 1))) [] 2)

-- all records
module _ (S T : List ℕ) (n unused : ℕ) (r : Renumbered S T n) (e : unused ≡ n - used_before S n) (l : n ≤ 30) where
  pub none-mended : (x : List ℕ) → unused ≡ 0 → x ≡ mended (renumber S n) [] x
  none-mended x z = sym (mended-same (renumber S n) (renumber-same S n (sym z ∙ e)) [] x)

  pub all-mended : (made made₀ : List ℕ) (to at : ℕ) → to ≤ at → to ≤ length made
      → halfway (new_number T n unused) [] at (take to made) ≡ mended (new_number T n unused) [] (take to made₀) → take to made ≡ mended (renumber S n) [] (take to made₀)
  all-mended made made₀ to at h k i =
      sym (past_end (new_number T n unused) [] at (take to made) (omega (arith, length-take-le to made k)))
      ∙ i ∙ ap (λ (f : ℕ → ℕ). mended f [] (take to made₀)) (fun_ext (number_counts S T n unused r e l))

-- RANGE records: one symbol more
module _ (number : ℕ → ℕ) (T : List ℕ) (i n : ℕ) (l : i < n) where
  less : range_bytes number T i (n - i) ≡ range_bytes number T i (suc (n - (i + 1)))
  less = ap (range_bytes number T i) (let z : n - i ≡ suc (n - (i + 1)) = omega arith in z)

  next : range_bytes number T (suc i) (n - (i + 1)) ≡ range_bytes number T (i + 1) (n - (i + 1))
  next = ap (λ (j : ℕ). range_bytes number T j (n - (i + 1))) (let z : suc i ≡ i + 1 = omega arith in z)

  pub range-unused : bit_at T i ≡ 0 → range_bytes number T i (n - i) ≡ range_bytes number T (i + 1) (n - (i + 1))
  unfolding range_bytes
  range-unused h = less ∙ rw (range_bytes, ne_eqb (bit_at T i) 1 (λ z. omega (arith, z, h))) next

  pub range-used : (bit_at T i ≡ 0 → ⊥) → range_bytes number T i (n - i) ≡ 1 ∷ number i ∷ relation_at T i % 256 ∷ range_bytes number T (i + 1) (n - (i + 1))
  unfolding range_bytes
  range-used h = less ∙ rw (range_bytes, eq-eqb (bit_at T i) 1 (let z : bit_at T i ≡ 1 = omega (arith, h) in z)) (ap (λ (z : List ℕ). 1 ∷ number i ∷ relation_at T i % 256 ∷ z) next)

pub used-none : (S : List ℕ) → 0 ≡ used_before S 0
unfolding used_before
used-none S = refl

-- one byte more
pub put-part : (x made z : List ℕ) (at to k : ℕ) → k ≡ to → z ≡ take to made → take at x ++ (z ++ drop k (drop at x)) ≡ paste x at made to
put-part x made z at to k ek ez =
    ap₂ (λ (a : List ℕ) (j : ℕ). take at x ++ (a ++ drop j (drop at x))) ez ek ∙ sym (append_assoc (take at x) (take to made) (drop to (drop at x)))
    ∙ ap (λ (r : List ℕ). (take at x ++ take to made) ++ r) (drop-drop to at x)

-- RANGE records written up to a symbol: what is still to come, and the whole
module _ (number : ℕ → ℕ) (T : List ℕ) (n : ℕ) where
  abbrev pub ToCome : List ℕ → List ℕ → ℕ → ℕ → Type 0
  ToCome d out i at =
      (at + length (range_bytes number T i (n - i)) ≡ length (range_bytes number T 0 n)) × (sets out at (range_bytes number T i (n - i)) ≡ sets d 0 (range_bytes number T 0 n))

  pub ranges-begin : (d : List ℕ) → ToCome d d 0 0
  ranges-begin d =
      let e : range_bytes number T 0 (n - 0) ≡ range_bytes number T 0 n = ap (range_bytes number T 0) (let z : n - 0 ≡ n = omega arith in z) in
      (omega (arith, ap length e), ap (sets d 0) e)

  pub ranges-end : (d out : List ℕ) (i at : ℕ) → n ≤ i → ToCome d out i at → (at ≡ length (range_bytes number T 0 n)) × (out ≡ sets d 0 (range_bytes number T 0 n))
  unfolding range_bytes
  ranges-end d out i at h t =
      let e : range_bytes number T i (n - i) ≡ [] = ap (range_bytes number T i) (let z : n - i ≡ 0 = omega arith in z) in
      (omega (arith, ap length e, t.0), sym (ap (sets out at) e) ∙ t.1)

  module _ (d out : List ℕ) (i at : ℕ) (l : i < n) (t : ToCome d out i at) where
    pub ranges-over : bit_at T i ≡ 0 → ToCome d out (i + 1) at
    ranges-over h =
        let e = range-unused number T i n l h in
        (omega (arith, ap length e, t.0), sym (ap (sets out at) e) ∙ t.1)

    module _ (h : bit_at T i ≡ 0 → ⊥) where
      pub ranges-room : at + 3 ≤ length (range_bytes number T 0 n)
      ranges-room = omega (arith, ap length (range-used number T i n l h), t.0)

      pub ranges_more : ToCome d (set (set (set out at 1) (at + 1) (number i)) (at + 2) (relation_at T i % 256)) (i + 1) (at + 3)
      ranges_more =
          let e = range-used number T i n l h in (
            omega (arith, ap length e, t.0),
            go (at + 1) (at + 2) (at + 3) (omega arith) (omega arith) (omega arith) ∙ sym (ap (sets out at) e) ∙ t.1,
          )
        where
          go : (p q m : ℕ) → p ≡ suc at → q ≡ suc (suc at) → m ≡ suc (suc (suc at))
              → sets (set (set (set out at 1) p (number i)) q (relation_at T i % 256)) m (range_bytes number T (i + 1) (n - (i + 1)))
              ≡ sets out at (1 ∷ number i ∷ relation_at T i % 256 ∷ range_bytes number T (i + 1) (n - (i + 1)))
          go p q m ep eq em = rw (ep, eq, em)

-- bytes behind those that stand first
pasted : (d x made rs ms : List ℕ) (at to : ℕ) → at ≡ length rs → x ≡ rs ++ drop (length rs) d → to ≤ length made → take to made ≡ ms
    → paste x at made to ≡ (rs ++ ms) ++ drop (length (rs ++ ms)) d
pasted d x made rs ms at to ea ex l em =
    ap₂ (λ (a b : List ℕ). a ++ b)
    (ap₂ (λ (a b : List ℕ). a ++ b) (ap (take at) ex ∙ take_at rs (drop (length rs) d) at (sym ea)) em)
    (ap₂ (λ (j : ℕ) (z : List ℕ). drop (j + to) z) ea ex ∙ drop-append-add rs (drop (length rs) d) to ∙ drop-drop to (length rs) d
    ∙ ap (λ (j : ℕ). drop j d) (let z : length rs + to ≡ length (rs ++ ms) = omega (arith, length-append rs ms, ap length em, length-take-le to made l) in z))

-- the whole
module _ (S T : List ℕ) (n : ℕ) (r : Renumbered S T n) (l : n ≤ 30) where
  ranges-same : (i k : ℕ) → i + k ≤ n → table_ranges T i k ≡ range_bytes (used_before S) S i k
  unfolding range_bytes
  ranges-same i zero h = refl
  ranges-same i (suc k) h = go (eqb (bit_at S i) 1) refl (ranges-same (suc i) k (omega arith))
    where
      bit : bit_at T i ≡ bit_at S i
      bit = ap (λ (a : ℕ). a % 2) (r.mark i)

      number : number_at T i % 256 ≡ used_before S i
      number = ap (λ (a : ℕ). a % 256) (r.number i (omega arith)) ∙ mod-eq_of_lt (omega (arith, used_low S i))

      relation : relation_at T i % 256 ≡ relation_at S i % 256
      relation = ap (λ (a : ℕ). a % 256) (r.relation i)

      go : (b : Bool) → eqb (bit_at S i) 1 ≡ b → table_ranges T (suc i) k ≡ range_bytes (used_before S) S (suc i) k → table_ranges T i (suc k) ≡ range_bytes (used_before S) S i (suc k)
      go true e ih = rw (range_bytes, bit, e, number, relation) (ap (λ (z : List ℕ). 1 ∷ used_before S i ∷ relation_at S i % 256 ∷ z) ih)
      go false e ih = rw (range_bytes, bit, e) ih

  pub table-length : length (table_ranges T 0 n) ≡ 3 * used_before S n
  unfolding used_before
  table-length =
      let z = ap (used_before S) (let y : 0 + n ≡ n = omega arith in y) in
      ap length (ranges-same 0 n (omega arith)) ∙ omega (arith, ranges-length S (used_before S) 0 n, z)

  whole_length : (bs : List ℕ) → length (records_of S n bs) ≡ 3 * used_before S n + length bs
  unfolding records_of
  whole_length bs = omega (arith, length-append (range_bytes (used_before S) S 0 n) (mended (renumber S n) [] bs), mended-length (renumber S n) [] bs, ap length (ranges-same 0 n (omega arith)), table-length)

  module _ (made d : List ℕ) (used to : ℕ) (u : used ≡ used_before S n) (m : to ≤ length made) where
    pub no_room : length d < 3 * used + to → Q.refused 52 d ≡ Q.written (records_of S n (take to made)) d
    unfolding Q.written
    no_room h = rw (Q.written, lt-leb (length (records_of S n (take to made))) (length d) (omega (arith, whole_length (take to made), length-take-le to made m)))

    pub with-room : (made' x y : List ℕ) (at : ℕ) → 3 * used + to ≤ length d → to ≤ length made' → take to made' ≡ mended (renumber S n) [] (take to made)
        → at ≡ length (table_ranges T 0 n) → x ≡ sets d 0 (table_ranges T 0 n) → y ≡ paste x at made' to
        → record { number = 0; count = 3 * used + to; records = y } ≡ Q.written (records_of S n (take to made)) d
    unfolding Q.written records_of
    with-room made' x y at h k e ea ex ey =
        let size : 3 * used + to ≡ length (records_of S n (take to made)) = omega (arith, whole_length (take to made), length-take-le to made m) in
        ap₂ (λ (c : ℕ) (z : List ℕ). record { number = 0; count = c; records = z }) size
        (ey ∙ pasted d x made' (table_ranges T 0 n) (mended (renumber S n) [] (take to made)) at to ea
        (ex ∙ sets-eq (table_ranges T 0 n) d 0 (omega (arith, table-length)) ∙ ap (λ (j : ℕ). table_ranges T 0 n ++ drop j d) (let z : 0 + length (table_ranges T 0 n) ≡ length (table_ranges T 0 n) = omega arith in z)) k e
        ∙ ap (λ (z : List ℕ). (z ++ mended (renumber S n) [] (take to made)) ++ drop (length (z ++ mended (renumber S n) [] (take to made))) d) (ranges-same 0 n (omega arith)))
        ∙ sym (rw (Q.written, le-leb (length (records_of S n (take to made))) (length d) (omega (arith, size))))
