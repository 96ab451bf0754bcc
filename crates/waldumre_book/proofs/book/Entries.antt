-- A row before others: its label gets its entry, and every other label keeps its own.
use mathlib.Core.Path.{◌≡◌, refl, sym, ap, ap₂, ◌∙◌}
use mathlib.Core.Bool.{Bool, true, false}
use mathlib.Core.List.{List, [], ◌∷◌, ◌++◌, append-nil}
use Prim.Native.Nat.{ℕ, zero, suc, ◌+◌, ◌*◌, ◌<◌, ◌≤◌}
use native.Mathlib.Omega.{arith}
use lib.Dec.{eqb, ltb}
use lib.IntN.{ℤ, pos, negsuc}
use lib.ListN.{length, set, get_or, replicate, length-set, length-append, drop_of_length-le}
use lib.Seq.{sets, sets-eq, set-append_left, take_at, ext_get_or, get_or-set_same, get_or-set_other}
use borrow.Author.Tests.{eqb-true, eqb-false, eq-eqb, ne_eqb, ltb-true, ltb-false}
use Rattle.model.specs.Lists.{concat_map, below}
use Rattle.model.specs.Book.{Row, Entry, entry_of, entry_for, Book, book_of}
use Rattle.model.proofs.Book.{seven-bytes, sevens-below, length-sevens, laid}

-- no row yet: a blank book
no_rows : book_of [] ≡ record { offers = replicate 500 (negsuc 0); display = replicate 3500 32 }
unfolding book_of below concat_map entry_for
no_rows = refl

pub blank-book : (m n : ℕ) → m ≡ 500 → n ≡ 3500 → (offers : List ℤ) (display : List ℕ) → offers ≡ replicate m (negsuc 0) → display ≡ replicate n 32 → record { offers = offers; display = display } ≡ book_of []
blank-book m n em en offers display eo ed =
    ap₂ (λ (x : List ℤ) (y : List ℕ). record { offers = x; display = y }) (eo ∙ ap (λ (k : ℕ). replicate k (negsuc 0)) em) (ed ∙ ap (λ (k : ℕ). replicate {A = ℕ} k 32) en) ∙ sym no_rows

pub blank-size : (offers : List ℤ) (display : List ℕ) → record { offers = offers; display = display } ≡ book_of [] → length offers ≡ 500
blank-size offers display e = ap (λ (b : Book). length b.offers) e ∙ (laid []).sizes.0

module _ {A : Type 0} where
  -- a run within the first part
  sets-left : (vs xs ys : List A) (i : ℕ) → i + length vs ≤ length xs → sets (xs ++ ys) i vs ≡ sets xs i vs ++ ys
  sets-left [] xs ys i h = refl
  sets-left (v ∷ vs) xs ys i h =
      ap (λ (l : List A). sets l (suc i) vs) (set-append_left xs ys i v (omega arith)) ∙ sets-left vs (set xs i v) ys (suc i) (omega (arith, length-set xs i v))

  -- the last part whole
  sets_last : (vs xs ys : List A) (i : ℕ) → length xs ≡ i → length vs ≡ length ys → sets (xs ++ ys) i vs ≡ xs ++ vs
  sets_last vs xs ys i e h =
      sets-eq vs (xs ++ ys) i (omega (arith, length-append xs ys))
      ∙ rw (take_at xs ys i e, drop_of_length-le (xs ++ ys) {i = i + length vs} (omega (arith, length-append xs ys)), append-nil (xs ++ vs))

  module _ (f : ℕ → List A) (seven : (j : ℕ) → length (f j) ≡ 7) (g : ℕ → List A) (seven' : (j : ℕ) → length (g j) ≡ 7) (k : ℕ) (others : (j : ℕ) → (j ≡ k → ⊥) → g j ≡ f j) where
    before : (n : ℕ) → n ≤ k → concat_map g (below n) ≡ concat_map f (below n)
    unfolding below concat_map
    before zero h = refl
    before (suc n) h = sevens-below g seven' n ∙ rw (before n (omega arith), others n (λ e. omega arith)) (sym (sevens-below f seven n))

    -- seven values for each number: those of k are set
    sets-sevens : (n : ℕ) → k < n → sets (concat_map f (below n)) (7 * k) (g k) ≡ concat_map g (below n)
    sets-sevens zero h = absurd (omega arith)
    sets-sevens (suc n) h = ap (λ (l : List A). sets l (7 * k) (g k)) (sevens-below f seven n) ∙ go (ltb k n) refl (sets-sevens n) ∙ sym (sevens-below g seven' n)
      where
        xs : List A
        xs = concat_map f (below n)

        go : (t : Bool) → ltb k n ≡ t → (k < n → sets xs (7 * k) (g k) ≡ concat_map g (below n)) → sets (xs ++ f n) (7 * k) (g k) ≡ concat_map g (below n) ++ g n
        go true e i =
            let l : k < n = ltb-true k n e in
            sets-left (g k) xs (f n) (7 * k) (omega (arith, length-sevens f seven n, seven' k)) ∙ rw (i l, others n (λ e. omega arith))
        go false e i =
            let j : k ≡ n = omega (arith, ltb-false k n e) in
            sets_last (g k) xs (f n) (7 * k) (omega (arith, length-sevens f seven n)) (seven' k ∙ sym (seven n)) ∙ rw (before n (omega arith), j)

-- r names label k, and stands before the rows
module _ (r : Row) (rows : List Row) (k : ℕ) (named : r.label ≡ pos k) where
  entry_named : entry_for (r ∷ rows) k ≡ entry_of r
  unfolding entry_for
  entry_named = rw (named, eq-eqb k k refl)

  entry_other : (j : ℕ) → (j ≡ k → ⊥) → entry_for (r ∷ rows) j ≡ entry_for rows j
  unfolding entry_for
  entry_other j h = rw (named, ne_eqb k j (λ e. h (sym e)))

  module _ (h : k < 500) where
    offers-step : set (book_of rows).offers k r.offer ≡ (book_of (r ∷ rows)).offers
    offers-step =
        let sizes = (laid rows).sizes.0 in
        let size = length-set (book_of rows).offers k r.offer ∙ sizes in
        ext_get_or (pos 0) (set (book_of rows).offers k r.offer) (book_of (r ∷ rows)).offers (size ∙ sym (laid (r ∷ rows)).sizes.0) (λ i l. go i (omega (arith, size)) (eqb i k) refl ∙ sym ((laid (r ∷ rows)).offer-at i (omega (arith, size))))
      where
        go : (i : ℕ) → i < 500 → (t : Bool) → eqb i k ≡ t → get_or (set (book_of rows).offers k r.offer) i (pos 0) ≡ (entry_for (r ∷ rows) i).offer
        go i l true e = rw (eqb-true i k e) (get_or-set_same (book_of rows).offers k r.offer (pos 0) (omega (arith, (laid rows).sizes.0)) ∙ sym (ap (λ (x : Entry). x.offer) entry_named))
        go i l false e =
            get_or-set_other (book_of rows).offers k i r.offer (pos 0) (eqb-false i k e)
            ∙ (laid rows).offer-at i l
            ∙ sym (ap (λ (x : Entry). x.offer) (entry_other i (eqb-false i k e)))

    display-step : sets (book_of rows).display (7 * k) (entry_of r).display ≡ (book_of (r ∷ rows)).display
    unfolding book_of
    display-step =
        ap (sets (concat_map (λ j. (entry_for rows j).display) (below 500)) (7 * k)) (sym (ap (λ (x : Entry). x.display) entry_named))
        ∙ sets-sevens (λ j. (entry_for rows j).display) (seven-bytes rows) (λ j. (entry_for (r ∷ rows) j).display) (seven-bytes (r ∷ rows)) k (λ j e. ap (λ (x : Entry). x.display) (entry_other j e)) 500 h

    pub book-step : (offers : List ℤ) (display : List ℕ) → (offers ≡ (book_of rows).offers) × (display ≡ (book_of rows).display)
        → (set offers k r.offer ≡ (book_of (r ∷ rows)).offers) × (sets display (7 * k) (entry_of r).display ≡ (book_of (r ∷ rows)).display)
    book-step offers display e = (rw e.0 offers-step, rw e.1 display-step)
