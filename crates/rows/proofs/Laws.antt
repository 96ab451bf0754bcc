-- The answer buffer, row by row and whole.
use mathlib.Core.Path.{◌≡◌, refl, sym, ap, ap₂, ◌∙◌}
use mathlib.Core.Bool.{Bool, true, false, not, cond}
use mathlib.Core.List.{List, [], ◌∷◌, ◌++◌, append-nil, append_assoc}
use Prim.Native.Nat.{ℕ, ◌+◌, ◌-◌, ◌*◌, ◌/◌, ◌≤◌, ◌<◌, min}
use native.Mathlib.Nat.{mul-le-mul, le_refl, div-mul-le_self, zero-mul}
use native.Mathlib.Omega.{arith}
use lib.Dec.{leb}
use lib.IntN.{ℤ}
use lib.ListN.{length, take, drop, length-append, length-take, length-drop}
use borrow.Rule.Slice.PartMut.{put_mid}
use lib.Seq.{take-length, take-append_seam, take_at, drop_at, drop-append-add, drop-drop, take-append-le}
use borrow.Author.Tests.{lt-ltb, le-ltb, le-leb, lt-leb}
use Rattle.model.specs.Lists.{any, concat_map, Every}
use Rattle.model.specs.Meaning.{same_row, add_row, add_rows}
use Rattle.model.specs.Calls.{give, fitting}
use Rattle.model.proofs.Tests.{by-lt}
use Rattle.model.proofs.Lists.{concat_map-append, every-join}
use Rattle.rows.specs.Buffer.{Buffer, stored_rows, stored, over, added, added_all, start, answer_of}

-- a row that fits ends within the buffer
pub row_room : (n w l : ℕ) → n < l / w → n * w + w ≤ l
row_room n w l h = omega (arith, div-mul-le_self l w, mul-le-mul h (le_refl w))

-- a row copied over a part of the cells
pub copied : (c d x : List ℤ) (at : ℕ) → d ≡ x → put_mid at (at + length x - at) c d ≡ over c at x
copied c d x at e =
    let k : at + length x - at ≡ length x = omega arith in
    rw (e, k) (sym (append_assoc (take at c) x (drop (length x) (drop at c))) ∙ ap (λ (l : List ℤ). take at c ++ x ++ l) (drop-drop (length x) at c))

pub over-length : (c x : List ℤ) (at : ℕ) → at + length x ≤ length c → length (over c at x) ≡ length c
over-length c x at h = simp (length-append, length-take, length-drop) (omega arith)

-- one row, by the cases of the code
module _ (n : ℕ) (full : Bool) (c x : List ℤ) where
  pub added_full : full ≡ true → record { rows = n; full = full; cells = c } ≡ added (record { rows = n; full = full; cells = c }) x
  unfolding added
  added_full e = rw e

  pub added-stored : full ≡ false → stored n c x ≡ true → record { rows = n; full = full; cells = c } ≡ added (record { rows = n; full = full; cells = c }) x
  unfolding added
  added-stored e s = rw (e, s)

  pub added-over : full ≡ false → stored n c x ≡ false → length c / length x ≤ n → record { rows = n; full = true; cells = c } ≡ added (record { rows = n; full = full; cells = c }) x
  unfolding added
  added-over e s h = sym (rw (e, s, le-ltb n (length c / length x) h))

  pub added-laid : full ≡ false → stored n c x ≡ false → n < length c / length x → record { rows = n + 1; full = false; cells = over c (n * length x) x } ≡ added (record { rows = n; full = full; cells = c }) x
  unfolding added
  added-laid e s h = sym (rw (e, s, lt-ltb n (length c / length x) h))

-- row after row
pub added-append : (b : Buffer) (xs ys : List (List ℤ)) → added_all b (xs ++ ys) ≡ added_all (added_all b xs) ys
unfolding added_all
added-append b [] ys = refl
added-append b (x ∷ xs) ys = added-append (added b x) xs ys

-- one row only
module _ (c x : List ℤ) where
  none-stored : stored 0 c x ≡ false
  unfolding stored_rows any
  none-stored = refl

  pub only-over : length c / length x ≤ 0 → record { rows = 0; full = true; cells = c } ≡ added (start c) x
  only-over h = added-over 0 false c x refl none-stored h

  pub only-laid : (d : List ℤ) → 0 < length c / length x → d ≡ over c 0 x → record { rows = 1; full = false; cells = d } ≡ added (start c) x
  only-laid d h e = ap (λ (l : List ℤ). record { rows = 1; full = false; cells = l }) (e ∙ ap (λ (n : ℕ). over c n x) (sym (zero-mul (length x)))) ∙ added-laid 0 false c x refl none-stored h

-- once 41 is certain, later rows change nothing
pub full-stays : (b : Buffer) (xs : List (List ℤ)) → b.full ≡ true → added_all b xs ≡ b
unfolding added_all
full-stays b [] e = refl
full-stays b (x ∷ xs) e = let k = added_full b.rows b.full b.cells x e in rw (← k) (full-stays b xs e)

-- the rows laid one after another
abbrev flat : List (List ℤ) → List ℤ
flat rows = concat_map (λ r. r) rows

module _ (w : ℕ) where
  abbrev Whole : List ℤ → Type 0
  Whole x = length x ≡ w

  flat-length : (ys : List (List ℤ)) → Every Whole ys → length (flat ys) ≡ length ys * w
  unfolding concat_map Every
  flat-length [] h = omega arith
  flat-length (y ∷ ys) h = rw (length-append y (flat ys), flat-length ys h.1, h.0) (omega arith)

  -- they are the stored rows again
  flat_rows : (ys : List (List ℤ)) (rest : List ℤ) → Every Whole ys → stored_rows w (length ys) (flat ys ++ rest) ≡ ys
  unfolding concat_map Every stored_rows
  flat_rows [] rest h = refl
  flat_rows (y ∷ ys) rest h =
      rw (append_assoc y (flat ys) rest, take_at y (flat ys ++ rest) w h.0, drop_at y (flat ys ++ rest) w h.0)
      (ap (λ (l : List (List ℤ)). y ∷ l) (flat_rows ys rest h.1))

  -- the buffer whose first m rows are those of ys, over the cells c
  abbrev holding : List (List ℤ) → List ℤ → ℕ → Bool → Buffer
  holding ys c m f = record { rows = m; full = f; cells = flat (take m ys) ++ drop (m * w) c }

  -- the buffer that holds the distinct rows ys, as far as they fit
  abbrev buffer_of : List (List ℤ) → List ℤ → Buffer
  buffer_of ys c = holding ys c (fitting w ys c) (not (leb (length ys) (length c / w)))

  all_fit : (ys : List (List ℤ)) (c : List ℤ) → length ys ≤ length c / w → buffer_of ys c ≡ record { rows = length ys; full = false; cells = flat ys ++ drop (length ys * w) c }
  all_fit ys c h =
      let e : min (length ys) (length c / w) ≡ length ys = omega arith in
      ap₂ (holding ys c) e (ap not (le-leb (length ys) (length c / w) h))
      ∙ ap (λ (l : List (List ℤ)). record { rows = length ys; full = false; cells = flat l ++ drop (length ys * w) c }) (take-length ys)

  some_fit : (ys : List (List ℤ)) (c : List ℤ) → length c / w < length ys → buffer_of ys c ≡ holding ys c (length c / w) true
  some_fit ys c h =
      let e : min (length ys) (length c / w) ≡ length c / w = omega arith in
      ap₂ (holding ys c) e (ap not (lt-leb (length ys) (length c / w) h))

  -- one row more
  module _ (ys : List (List ℤ)) (c x : List ℤ) (hy : Every Whole ys) (hx : length x ≡ w) where
    abbrev more : List (List ℤ)
    more = ys ++ (x ∷ [])

    abbrev cells : List ℤ
    cells = flat ys ++ drop (length ys * w) c

    more-length : length more ≡ length ys + 1
    more-length = length-append ys (x ∷ [])

    -- where not all fitted before
    full-more : length c / w < length ys → buffer_of ys c ≡ buffer_of more c
    full-more h =
        some_fit ys c h
        ∙ ap (λ (l : List (List ℤ)). record { rows = length c / w; full = true; cells = flat l ++ drop (length c / w * w) c }) (sym (take-append-le (length c / w) ys (x ∷ []) (omega arith)))
        ∙ sym (some_fit more c (omega (arith, more-length)))

    full-added : length c / w < length ys → added (buffer_of ys c) x ≡ buffer_of ys c
    full-added h = ap (λ (b : Buffer). added b x) (some_fit ys c h) ∙ sym (added_full (length c / w) true _ x refl) ∙ sym (some_fit ys c h)

    -- where all fitted
    module _ (fit : length ys ≤ length c / w) where
      used : length ys * w ≤ length c
      used = omega (arith, div-mul-le_self (length c) w, mul-le-mul fit (le_refl w))

      cells-length : length cells ≡ length c
      cells-length = length-append (flat ys) (drop (length ys * w) c) ∙ rw (flat-length ys hy, length-drop (length ys * w) c) (omega (arith, used))

      stored_is : stored (length ys) cells x ≡ any (same_row x) ys
      stored_is = rw (hx, flat_rows ys (drop (length ys * w) c) hy)

      room-is : length cells / length x ≡ length c / w
      room-is = rw (cells-length, hx)

      same-added : any (same_row x) ys ≡ true → added (buffer_of ys c) x ≡ buffer_of ys c
      same-added e = ap (λ (b : Buffer). added b x) (all_fit ys c fit) ∙ sym (added-stored (length ys) false cells x refl (stored_is ∙ e)) ∙ sym (all_fit ys c fit)

      over-added : any (same_row x) ys ≡ false → length c / w ≤ length ys → added (buffer_of ys c) x ≡ buffer_of more c
      over-added e h =
          let q : length ys ≡ length c / w = omega arith in
          ap (λ (b : Buffer). added b x) (all_fit ys c fit)
          ∙ sym (added-over (length ys) false cells x refl (stored_is ∙ e) (omega (arith, room-is)))
          ∙ ap (λ (l : List (List ℤ)). record { rows = length ys; full = true; cells = flat l ++ drop (length ys * w) c }) (sym (take-append_seam ys (x ∷ [])))
          ∙ ap (λ (m : ℕ). holding more c m true) q
          ∙ sym (some_fit more c (omega (arith, more-length)))

      laid_cells : over cells (length ys * length x) x ≡ flat more ++ drop (length more * w) c
      unfolding concat_map
      laid_cells =
          let n : length (flat ys) ≡ length ys * length x = flat-length ys hy ∙ ap (λ (k : ℕ). length ys * k) (sym hx) in
          let f : flat ys ++ x ≡ flat more = ap (λ (l : List ℤ). flat ys ++ l) (sym (append-nil x)) ∙ sym (concat_map-append (λ (r : List ℤ). r) ys (x ∷ [])) in
          let k : length ys * w + length x ≡ length more * w = rw (more-length, hx) (omega arith) in
          ap (λ (l : List ℤ). l ++ x ++ drop (length ys * length x + length x) cells) (take_at (flat ys) (drop (length ys * w) c) (length ys * length x) n)
          ∙ ap (λ (l : List ℤ). l ++ drop (length ys * length x + length x) cells) f
          ∙ ap (λ (m : ℕ). flat more ++ drop (m + length x) cells) (sym n)
          ∙ ap (λ (l : List ℤ). flat more ++ l) (drop-append-add (flat ys) (drop (length ys * w) c) (length x) ∙ drop-drop (length x) (length ys * w) c ∙ ap (λ (m : ℕ). drop m c) k)

      laid-added : any (same_row x) ys ≡ false → length ys < length c / w → added (buffer_of ys c) x ≡ buffer_of more c
      laid-added e h =
          ap (λ (b : Buffer). added b x) (all_fit ys c fit)
          ∙ sym (added-laid (length ys) false cells x refl (stored_is ∙ e) (omega (arith, room-is)))
          ∙ ap₂ (λ (m : ℕ) (l : List ℤ). record { rows = m; full = false; cells = l }) (sym more-length) laid_cells
          ∙ sym (all_fit more c (omega (arith, more-length)))

    -- a row more in the buffer is a row more of the answer
    one_more : added (buffer_of ys c) x ≡ buffer_of (add_row ys x) c
    unfolding add_row
    one_more = by-lt (length c / w) (length ys) (λ h. full h (any (same_row x) ys)) (λ h. fits h (any (same_row x) ys) refl)
      where
        full : length c / w < length ys → (t : Bool) → added (buffer_of ys c) x ≡ buffer_of (elim t [ true ↦ ys | false ↦ more ]) c
        full h true = full-added h
        full h false = full-added h ∙ full-more h

        fits : length ys ≤ length c / w → (t : Bool) → any (same_row x) ys ≡ t → added (buffer_of ys c) x ≡ buffer_of (elim t [ true ↦ ys | false ↦ more ]) c
        fits h true e = same-added h e
        fits h false e = by-lt (length ys) (length c / w) (λ l. laid-added h e l) (λ l. over-added h e l)

  still-whole : (ys : List (List ℤ)) (x : List ℤ) → Every Whole ys → length x ≡ w → Every Whole (add_row ys x)
  unfolding add_row Every
  still-whole ys x hy hx = go (any (same_row x) ys)
    where
      go : (t : Bool) → Every Whole (elim t [ true ↦ ys | false ↦ ys ++ (x ∷ []) ])
      go true = hy
      go false = every-join Whole ys (x ∷ []) hy (hx, tt)

  added-rows : (xs ys : List (List ℤ)) (c : List ℤ) → Every Whole ys → Every Whole xs → added_all (buffer_of ys c) xs ≡ buffer_of (add_rows ys xs) c
  unfolding added_all add_rows Every
  added-rows [] ys c hy hx = refl
  added-rows (x ∷ xs) ys c hy hx =
      ap (λ (b : Buffer). added_all b xs) (one_more ys c x hy hx.0)
      ∙ added-rows xs (add_row ys x) c (still-whole ys x hy hx.0) hx.1

  none_yet : (c : List ℤ) → buffer_of [] c ≡ start c
  unfolding concat_map
  none_yet c =
      let e : 0 * w ≡ 0 = omega arith in
      all_fit [] c (omega arith) ∙ ap (λ (m : ℕ). record { rows = 0; full = false; cells = drop m c }) e

  give-is : (ys : List (List ℤ)) (c : List ℤ) → give w ys c ≡ answer_of w (buffer_of ys c)
  unfolding give
  give-is ys c = ap (λ (n : ℕ). record { number = n; rows = fitting w ys c; columns = w; cells = (buffer_of ys c).cells }) (number (leb (length ys) (length c / w)))
    where
      number : (t : Bool) → ◌≡◌ {A = ℕ} (cond t 0 41) (cond (not t) 41 0)
      number true = refl
      number false = refl

  -- all rows of a query: what the call gives, for any buffer
  pub given : (xs : List (List ℤ)) (c : List ℤ) → Every (λ (x : List ℤ). length x ≡ w) xs → give w (add_rows [] xs) c ≡ answer_of w (added_all (start c) xs)
  unfolding Every
  given xs c h =
      give-is (add_rows [] xs) c
      ∙ ap (answer_of w) (sym (added-rows xs [] c tt h) ∙ ap (λ (b : Buffer). added_all b xs) (none_yet c))
