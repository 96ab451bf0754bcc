-- The rows from the last to the first, and what is known of a row in range.
use mathlib.Core.Path.{◌≡◌, refl, sym, ap, ap₂, ◌∙◌}
use mathlib.Core.Bool.{true, ◌&&◌}
use mathlib.Core.List.{List, []}
use Prim.Native.Nat.{ℕ, zero, suc, ◌+◌, ◌*◌, ◌-◌, ◌<◌, ◌≤◌}
use native.Mathlib.Omega.{arith}
use lib.Dec.{leb, T}
use lib.IntN.{ℤ, pos, negsuc, nat_abs}
use lib.Signed.{le_z, non_neg}
use lib.ListN.{length, set, get_or, drop}
use lib.Seq.{sets}
use mir.Syntax.{w64}
use mir.Val.{Fits, to_z, of_z}
use mir.Facts.{to_z-of_z}
use borrow.Author.Tests.{leb-true}
use Rattle.model.specs.Lists.{all}
use Rattle.model.specs.Book.{Row, rows_in, up_to, in_range, display_of, Book, book_of}
use Rattle.model.proofs.Tests.{clash, and-inv}
use Rattle.waldumre_book.proofs.book.labels.Rows.{row_at, rows_end, rows_next}
use Rattle.waldumre_book.proofs.book.Entries.{book-step}

-- a number from 0 to n
record UpTo (n : ℕ) (z : ℤ) : Type 0 where
  pub value : ℕ
  pub is : z ≡ pos value
  pub most : value ≤ n

up-to : (n : ℕ) (z : ℤ) → up_to n z ≡ true → UpTo n z
up-to n (pos m) h = record { value = m; is = refl; most = leb-true m n (and-inv (leb 0 m) (leb m n) h).1 }
up-to n (negsuc m) h = clash h

known : (r : Row) → in_range r ≡ true → UpTo 499 r.label × UpTo 999999 r.price
unfolding in_range
known r h =
    let i = and-inv (up_to 499 r.label && le_z (pos 0) r.offer) (up_to 999999 r.price) h in
    (up-to 499 r.label (and-inv (up_to 499 r.label) (le_z (pos 0) r.offer) i.0).0, up-to 999999 r.price i.1)

-- with every row in range, so is the row at 3j
module _ (cells : List ℤ) (h : all in_range (rows_in cells) ≡ true) where
  both : (j : ℕ) → 3 * j + 2 < length cells → all in_range (rows_in (drop (3 * j) cells)) ≡ true → (in_range (row_at cells (3 * j)) ≡ true) × (all in_range (rows_in (drop (3 * j + 3) cells)) ≡ true)
  unfolding all
  both j l k = and-inv (in_range (row_at cells (3 * j))) (all in_range (rows_in (drop (3 * j + 3) cells))) (sym (ap (all in_range) (rows_next cells (3 * j) l)) ∙ k)

  all_from : (j : ℕ) → 3 * j ≤ length cells → all in_range (rows_in (drop (3 * j) cells)) ≡ true
  all_from zero l = h
  all_from (suc j) l =
      let e : 3 * j + 3 ≡ 3 * suc j = omega arith in
      ap (λ (k : ℕ). all in_range (rows_in (drop k cells))) (sym e) ∙ (both j (omega arith) (all_from j (omega arith))).1

  row-known : (j : ℕ) → 3 * j + 2 < length cells → in_range (row_at cells (3 * j)) ≡ true
  row-known j l = (both j l (all_from j (omega arith))).0

-- a number from 0 to n, read from its bits
module _ {n : ℕ} {z : ℤ} (k : UpTo n z) (small : n < 9223372036854775808) where
  bits : to_z w64 (of_z w64 z) ≡ pos k.value
  bits = rw k.is (to_z-of_z {w = w64} (record { sfits = omega (arith, k.most) }))

  cast : T (non_neg (to_z w64 (of_z w64 z))) × Fits w64 (nat_abs (to_z w64 (of_z w64 z)))
  cast = rw bits (tt, record { fits = omega (arith, k.most) })

-- the two slices are the book of the rows from k on
abbrev pub From : List ℤ → ℕ → List ℤ → List ℕ → Type 0
From cells k offers display = (offers ≡ (book_of (rows_in (drop k cells))).offers) × (display ≡ (book_of (rows_in (drop k cells))).display)

module _ (cells : List ℤ) (offers : List ℤ) (display : List ℕ) where
  pub from_end : (k : ℕ) → length cells - k < 3 → record { offers = offers; display = display } ≡ book_of [] → From cells k offers display
  from_end k h e =
      let b = e ∙ sym (ap book_of (rows_end cells k h)) in
      (ap (λ (x : Book). x.offers) b, ap (λ (x : Book). x.display) b)

  pub from_start : (k : ℕ) → k ≡ 0 → From cells k offers display → record { offers = offers; display = display } ≡ book_of (rows_in cells)
  from_start k h e = ap₂ (λ (x : List ℤ) (y : List ℕ). record { offers = x; display = y }) e.0 e.1 ∙ ap (λ (n : ℕ). book_of (rows_in (drop n cells))) h

-- the turn of row j
module _ (cells : List ℤ) (h : all in_range (rows_in cells) ≡ true) (j : ℕ) (l : 3 * j + 2 < length cells) where
  label : UpTo 499 (get_or cells (3 * j) (pos 0))
  label = (known (row_at cells (3 * j)) (row-known cells h j l)).0

  price : UpTo 999999 (get_or cells (3 * j + 2) (pos 0))
  price = (known (row_at cells (3 * j)) (row-known cells h j l)).1

  pub label-cast : T (non_neg (to_z w64 (of_z w64 (get_or cells (3 * j) (pos 0))))) × Fits w64 (nat_abs (to_z w64 (of_z w64 (get_or cells (3 * j) (pos 0)))))
  label-cast = cast label (omega arith)

  pub price-cast : T (non_neg (to_z w64 (of_z w64 (get_or cells (3 * j + 2) (pos 0))))) × Fits w64 (nat_abs (to_z w64 (of_z w64 (get_or cells (3 * j + 2) (pos 0)))))
  price-cast = cast price (omega arith)

  pub label-most : nat_abs (to_z w64 (of_z w64 (get_or cells (3 * j) (pos 0)))) ≤ 499
  label-most = rw (bits label (omega arith)) label.most

  pub from_next : (offers : List ℤ) (display : List ℕ) (k : ℕ) → k ≡ 3 * j + 3 → From cells k offers display → (o : ℤ) (y : List ℕ) → o ≡ get_or cells (3 * j + 1) (pos 0)
      → y ≡ sets display (7 * nat_abs (to_z w64 (of_z w64 (get_or cells (3 * j) (pos 0))))) (display_of (nat_abs (to_z w64 (of_z w64 (get_or cells (3 * j + 2) (pos 0))))))
      → From cells (3 * j) (set offers (nat_abs (to_z w64 (of_z w64 (get_or cells (3 * j) (pos 0))))) o) y
  from_next offers display k ek e o y eo ey =
      let rows = rows_in (drop (3 * j + 3) cells) in
      let f : From cells (3 * j + 3) offers display = rw ek at e in
      let s = book-step (row_at cells (3 * j)) rows label.value label.is (omega (arith, label.most)) offers display f in
      let n = ap nat_abs (bits label (omega arith)) in
      let p = ap nat_abs (bits price (omega arith) ∙ sym price.is) in
      let b = sym (ap book_of (rows_next cells (3 * j) l)) in
      (ap₂ (set offers) n eo ∙ s.0 ∙ ap (λ (x : Book). x.offers) b, ey ∙ ap₂ (λ (a c : ℕ). sets display (7 * a) (display_of c)) n p ∙ s.1 ∙ ap (λ (x : Book). x.display) b)
