-- Marks of several permits, and the list of the marked rows.
use mathlib.Core.Path.{◌≡◌, refl, sym, ap, ap₂, ◌∙◌, subst}
use mathlib.Core.Bool.{Bool, true, false, cond, ◌&&◌, ◌||◌}
use mathlib.Core.List.{List, [], ◌∷◌, ◌++◌, map, map-append, append-nil}
use Prim.Native.Nat.{ℕ, suc, ◌+◌, ◌-◌, ◌/◌, ◌%◌, ◌≤◌, ◌<◌}
use native.Mathlib.Omega.{arith}
use lib.Dec.{eqb, ltb}
use lib.IntN.{ℤ}
use lib.ListN.{length, get_or, set, length-set, length-append, get_or-append}
use lib.Seq.{get_or-set_same, get_or-set_other, get_or-append_seam}
use borrow.Author.Tests.{eqb-true, eqb-false, ltb-true, ltb-false, eq-eqb, ne_eqb}
use Rattle.model.specs.Lists.{any, cons_if, filter, below}
use Rattle.model.proofs.Lists.{filter-append, filter_map}
use Rattle.catalogue.specs.Layout.{rows_of, latest_of}
use Rattle.copier.specs.Guard.{picked}
use Rattle.permitted.specs.Marked.{Bits, Marked}
use Rattle.permitted.specs.Meets.{meets_bytes, row_of}
use Rattle.permitted.proofs.judges.Steps.{marked-same, marked-then, marked-nothing}
use Rattle.permitted.specs.Given.{meets_any, number_at, numbers_for, Listed}
use Rattle.permitted.proofs.Marks.{filter-below}

module _ (cb : List ℕ) (vs : List ℤ) (f : ℕ → List ℕ) (r : ℕ) where
  -- what permit k adds, and what those from k on add
  abbrev pub own : ℕ → ℕ → ℕ → Bool
  own m k i = eqb (m % 2) 1 && meets_bytes cb vs (f k) (row_of cb vs r i)

  abbrev pub left : ℕ → ℕ → ℕ → ℕ → Bool
  left l m k i = any (λ q. meets_bytes cb vs q (row_of cb vs r i)) (picked l m k f)

  pub turn-no : (m k n : ℕ) (ms : List ℕ) → (m % 2 ≡ 1 → ⊥) → n ≤ length ms → Marked (own m k) n ms ms
  turn-no m k n ms h l = marked-nothing (own m k) ms (λ i j. rw (ne_eqb (m % 2) 1 h)) l

  pub turn-yes : (m k n : ℕ) (q ms y : List ℕ) → m % 2 ≡ 1 → q ≡ f k → Marked (λ i. meets_bytes cb vs q (row_of cb vs r i)) n ms y → Marked (own m k) n ms y
  turn-yes m k n q ms y h e g = marked-same g refl (λ i j. ap (λ (p : List ℕ). meets_bytes cb vs p (row_of cb vs r i)) e ∙ sym (rw (eq-eqb (m % 2) 1 h)))

  -- what is left decides
  abbrev pub Decides : ℕ → ℕ → ℕ → ℕ → List ℕ → List ℕ → Type 0
  Decides m₀ n m k ms ms' = (y : List ℕ) → Marked (left (8 - k) m k) n ms' y → Marked (left 8 m₀ 0) n ms y

  pub decides-on : (m₀ n m k : ℕ) (ms a b : List ℕ) → k < 8 → Decides m₀ n m k ms a → Marked (own m k) n a b → Decides m₀ n (m / 2) (k + 1) ms b
  unfolding any picked
  decides-on m₀ n m k ms a b h d g y e =
      d y (marked-same (marked-then g e) refl (λ i j.
      let s : 8 - k ≡ suc (8 - (k + 1)) = omega arith in
      let t : k + 1 ≡ suc k = omega arith in
      ap (λ (z : ℕ). own m k i || left (8 - (k + 1)) (m / 2) z i) t ∙ either (eqb (m % 2) 1) (picked (8 - (k + 1)) (m / 2) (suc k) f) i ∙ sym (ap (λ (l : ℕ). left l m k i) s)))
    where
      either : (b : Bool) (qs : List (List ℕ)) (i : ℕ) → (b && meets_bytes cb vs (f k) (row_of cb vs r i)) || any (λ q. meets_bytes cb vs q (row_of cb vs r i)) qs ≡ any (λ q. meets_bytes cb vs q (row_of cb vs r i)) (cons_if b (f k) qs)
      either true qs i = refl
      either false qs i = refl

  pub decides-end : (m₀ n m k : ℕ) (ms a : List ℕ) → 8 ≤ k → n ≤ length a → Decides m₀ n m k ms a → Marked (λ i. meets_any cb vs f m₀ (row_of cb vs r i)) n ms a
  unfolding any picked meets_any
  decides-end m₀ n m k ms a h l d = d a (marked-nothing (left (8 - k) m k) a (λ i j. let s : 8 - k ≡ 0 = omega arith in ap (λ (x : ℕ). left x m k i) s) l)

  -- the marked rows are those that meet a permit
  pub marked-rows : (m : ℕ) (ms y : List ℕ) (g : ℕ → ℕ) → ((i : ℕ) → i < rows_of cb r → g i < rows_of cb r) → ((i : ℕ) → get_or ms i 0 ≡ 0) → Marked (λ i. meets_any cb vs f m (row_of cb vs r i)) (rows_of cb r) ms y
      → filter (λ i. eqb (get_or y i 0) 1) (map g (below (rows_of cb r))) ≡ filter (λ i. meets_any cb vs f m (row_of cb vs r i)) (map g (below (rows_of cb r)))
  marked-rows m ms y g hg z h =
      let n = rows_of cb r in
      filter_map g (λ i. eqb (get_or y i 0) 1) (below n)
      ∙ ap (map g) (filter-below (λ i. eqb (get_or y (g i) 0) 1) (λ i. meets_any cb vs f m (row_of cb vs r (g i))) n (λ i k. ap (λ n. eqb n 1) (h.row (g i) (hg i k) ∙ ap (cond (meets_any cb vs f m (row_of cb vs r (g i))) 1) (z (g i))) ∙ bit (meets_any cb vs f m (row_of cb vs r (g i)))))
      ∙ sym (filter_map g (λ i. meets_any cb vs f m (row_of cb vs r i)) (below n))
    where
      bit : (b : Bool) → eqb (cond b 1 0) 1 ≡ b
      bit true = refl
      bit false = refl

pub blank-bits : (ms : List ℕ) → ((i : ℕ) → get_or ms i 0 ≡ 0) → Bits ms
blank-bits ms z i = omega (arith, z i)

-- numbers one after the other
module _ (ms : List ℕ) (g : ℕ → ℕ) where
  abbrev pub marked : ℕ → List ℕ
  marked i = filter (λ j. eqb (get_or ms j 0) 1) (map g (below i))

  pub listed-none : (start : ℕ) (ws : List ℕ) → Listed (marked 0) start start ws ws
  unfolding filter below
  listed-none start ws = record { size = refl; ends = omega arith; before = λ i h. refl; list = λ j h. absurd (omega arith) }

  one_more : (i : ℕ) → marked (i + 1) ≡ marked i ++ cons_if (eqb (get_or ms (g i) 0) 1) (g i) []
  unfolding filter below
  one_more i =
      let s : i + 1 ≡ suc i = omega arith in
      ap marked s ∙ ap (filter (λ j. eqb (get_or ms j 0) 1)) (map-append g (below i) (i ∷ [])) ∙ filter-append (λ j. eqb (get_or ms j 0) 1) (map g (below i)) (g i ∷ [])

  pub listed_next : (start at i x k : ℕ) (ws y : List ℕ) → Bits ms → Listed (marked i) start at ws y → at < length ws → x ≡ g i → k ≡ get_or ms (g i) 0 → Listed (marked (i + 1)) start (at + k) ws (set y at x)
  listed_next start at i x k ws y hb h l ex ek = subst (λ (xs : List ℕ). Listed xs start (at + k) ws (set y at x)) (sym (one_more i)) (go (eqb (get_or ms (g i) 0) 1) refl)
    where
      xs : List ℕ
      xs = marked i

      kept : (j : ℕ) → j < length xs → get_or (set y at x) (start + j) 0 ≡ get_or xs j 0
      kept j k' = get_or-set_other y at (start + j) x 0 (λ e. omega (arith, e, h.ends, k')) ∙ h.list j k'

      go : (b : Bool) → eqb (get_or ms (g i) 0) 1 ≡ b → Listed (xs ++ cons_if b (g i) []) start (at + k) ws (set y at x)
      go true e = record {
        size = length-set y at x ∙ h.size;
        ends = omega (arith, h.ends, ek, eqb-true (get_or ms (g i) 0) 1 e, length-append xs (g i ∷ []));
        before = λ j l'. get_or-set_other y at j x 0 (λ d. omega (arith, d, l', h.ends)) ∙ h.before j l';
        list = λ j l'. last j l' (ltb j (length xs)) refl;
      }
        where
          last : (j : ℕ) → j < length (xs ++ (g i ∷ [])) → (c : Bool) → ltb j (length xs) ≡ c → get_or (set y at x) (start + j) 0 ≡ get_or (xs ++ (g i ∷ [])) j 0
          last j l' true c = let d = ltb-true j (length xs) c in kept j d ∙ sym (get_or-append xs (g i ∷ []) 0 j d)
          last j l' false c =
              let n : j ≡ length xs = omega (arith, l', length-append xs (g i ∷ []), ltb-false j (length xs) c) in
              let p : start + j ≡ at = omega (arith, n, h.ends) in
              ap (λ a. get_or (set y at x) a 0) p ∙ get_or-set_same y at x 0 (omega (arith, l, h.size)) ∙ ex ∙ sym (ap (λ a. get_or (xs ++ (g i ∷ [])) a 0) n ∙ get_or-append_seam xs (g i) [] 0)
      go false e = subst (λ (zs : List ℕ). Listed zs start (at + k) ws (set y at x)) (sym (append-nil xs)) (record {
        size = length-set y at x ∙ h.size;
        ends = omega (arith, h.ends, ek, hb (g i), eqb-false (get_or ms (g i) 0) 1 e);
        before = λ j l'. get_or-set_other y at j x 0 (λ d. omega (arith, d, l', h.ends)) ∙ h.before j l';
        list = kept;
      })

  pub listed-end : (start at i n : ℕ) (ws y : List ℕ) → i ≡ n → Listed (marked i) start at ws y → Listed (marked n) start at ws y
  listed-end start at i n ws y e h = subst (λ k. Listed (marked k) start at ws y) e h

pub listed-as : (xs ys : List ℕ) (start end : ℕ) (ws y : List ℕ) → xs ≡ ys → Listed xs start end ws y → Listed ys start end ws y
listed-as xs ys start end ws y e h = subst (λ (zs : List ℕ). Listed zs start end ws y) e h

number-below : (b : Bool) (n i : ℕ) → i < n → number_at b n i < n
number-below true n i h = omega arith
number-below false n i h = h

pub rows-listed : (cb : List ℕ) (vs : List ℤ) (f : ℕ → List ℕ) (r m n start end : ℕ) (b : Bool) (ms y ws w : List ℕ) → ((i : ℕ) → get_or ms i 0 ≡ 0) → Marked (λ i. meets_any cb vs f m (row_of cb vs r i)) (rows_of cb r) ms y → n ≡ rows_of cb r → b ≡ latest_of cb r
    → Listed (marked y (number_at b n) n) start end ws w → Listed (numbers_for cb vs f m r) start end ws w
rows-listed cb vs f r m n start end b ms y ws w z h en eb l =
    listed-as (marked y (number_at b n) n) (numbers_for cb vs f m r) start end ws w
    (ap₂ (λ (k : ℕ) (c : Bool). marked y (number_at c k) k) en eb ∙ marked-rows cb vs f r m ms y (number_at (latest_of cb r) (rows_of cb r)) (λ i k. number-below (latest_of cb r) (rows_of cb r) i k) z h) l

pub number-last : (b : Bool) (n i : ℕ) → b ≡ true → i < n → (n - 1 - i ≡ number_at b n i) × (n - 1 - i < n)
number-last b n i e h = let s : n - 1 - i ≡ n - suc i = omega arith in (s ∙ sym (ap (λ c. number_at c n i) e), omega arith)

pub number-first : (b : Bool) (n i : ℕ) → b ≡ false → i < n → (i ≡ number_at b n i) × (i < n)
number-first b n i e h = (sym (ap (λ c. number_at c n i) e), h)
