-- The label book: each refusal has its ground and leaves the book as it was, each label has its place, and the permitted rows decide the whole book.
use Prim.Native.Nat.{ℕ, zero, suc, ◌*◌, ◌/◌, ◌≤◌, ◌<◌, min}
use native.Mathlib.Nat.{mul-le-mul_right, min-le_right, div-mul-le_self}
use native.Mathlib.Omega.{arith}
use mathlib.Core.Bool.{Bool, true, false, not, cond}
use mathlib.Core.List.{List, [], ◌∷◌, ◌++◌, map, map-append, append-nil}
use mathlib.Core.Path.{◌≡◌, refl, sym, ◌∙◌, ap, subst}
use lib.Dec.{leb, ltb}
use lib.IntN.{ℤ, pos}
use lib.ListN.{length, take, drop, get_or, length-append, length-drop, get_or-append}
use lib.Seq.{take_at, take-length, get_or_at, drop_at, drop-append-le, take-append-le, take_all}
use borrow.Author.Tests.{leb-true, ltb-true, ltb-false, eq-eqb, ne_eqb}
use Rattle.model.specs.Lists.{concat_map, below, Every}
use Rattle.model.specs.Syntax.{Query}
use Rattle.model.specs.Meaning.{Tuple, answers}
use Rattle.model.specs.Catalogue.{all_rows}
use Rattle.model.specs.Checks.{Check, ask_checks, refusal}
use Rattle.model.specs.Calls.{Outcome, refuse, give, evaluate_unless, ask_unless, ask}
use Rattle.model.specs.Book.{Row, row_cells, rows_in, is_label, display_of, entry_of, entry_for, Book, book_of, answer_cells, fits, book_after, label_book}
use Rattle.model.specs.Demands.{BookGrounds, Demand1Book, BookRows, Laid, Demand3Book}
use Rattle.model.proofs.Width.{answers-wide}
use Rattle.model.proofs.Tests.{clash}
use Rattle.model.proofs.Lists.{concat_map-append}
use Rattle.model.proofs.Demands.{ask-below, demand-3}

-- the three ways of a book call
module _ (o : Outcome) (b : Book) where
  pub book-refused : (o.answer.number ≡ 0 → ⊥) → book_after o b ≡ record { outcome = o; book = b }
  unfolding book_after
  book-refused h = rw (ne_eqb o.answer.number 0 h)

  module _ (e : o.answer.number ≡ 0) where
    pub book-failed : fits o.answer.columns (answer_cells o) b ≡ false → book_after o b ≡ record { outcome = record { answer = refuse 53 o.answer.cells; count = 0; rewritten = o.rewritten }; book = b }
    unfolding book_after
    book-failed f = rw (eq-eqb o.answer.number 0 e, f)

    pub book-written : fits o.answer.columns (answer_cells o) b ≡ true → book_after o b ≡ record { outcome = o; book = book_of (rows_in (answer_cells o)) }
    unfolding book_after
    book-written f = rw (eq-eqb o.answer.number 0 e, f)

  grounds : (o.answer.number < 53) → BookGrounds o b (book_after o b)
  grounds l = go o.answer.number (fits o.answer.columns (answer_cells o) b) refl refl
    where
      go : (n : ℕ) (t : Bool) → o.answer.number ≡ n → fits o.answer.columns (answer_cells o) b ≡ t → BookGrounds o b (book_after o b)
      go zero true e f = subst (BookGrounds o b) (sym (book-written e f)) (record {
        asked = λ h. absurd (h e);
        ground = λ h. absurd (omega arith);
        grounded = λ _ g. clash (sym (ap not f) ∙ g);
        unchanged = λ h. absurd (h e);
        accepted = λ _. refl;
      })
      go zero false e f = subst (BookGrounds o b) (sym (book-failed e f)) (record {
        asked = λ h. absurd (h e);
        ground = λ _. (e, ap not f);
        grounded = λ _ _. refl;
        unchanged = λ _. refl;
        accepted = λ h. absurd (omega arith);
      })
      go (suc n) t e f = subst (BookGrounds o b) (sym (book-refused (λ h. omega arith))) (record {
        asked = λ _. refl;
        ground = λ h. absurd (omega arith);
        grounded = λ h _. absurd (omega arith);
        unchanged = λ _. refl;
        accepted = λ h. absurd (omega arith);
      })

-- ask's own numbers are 41 at most
refusal-below : (k : ℕ) → 0 < k → (cs : List Check) → Every (λ c. c.1 < k) cs → refusal cs < k
unfolding refusal Every
refusal-below k p [] h = p
refusal-below k p (c ∷ cs) h = go c.0 (refusal-below k p cs h.1)
  where
    go : (t : Bool) → refusal cs < k → cond t c.1 (refusal cs) < k
    go true l = h.0
    go false l = l

give-below : (w : ℕ) (rows : List (List ℤ)) (cells : List ℤ) → (give w rows cells).number < 53
unfolding give
give-below w rows cells = go (leb (length rows) (length cells / w))
  where
    go : (t : Bool) → cond {A = ℕ} t 0 41 < 53
    go true = omega arith
    go false = omega arith

small-number : (n : ℕ) (q : Query) (D : ℕ → List Tuple) (rewritten : List ℕ) (cells : List ℤ) → n < 41 → (ask_unless n q D rewritten cells).answer.number < 53
unfolding ask_unless evaluate_unless
small-number zero q D rewritten cells h = give-below (length q.targets) (answers q (all_rows D)) cells
small-number (suc n) q D rewritten cells h = omega arith

ask-number : (cb : List ℕ) (vs : List ℤ) (pb qb rewritten : List ℕ) (cells : List ℤ) → (ask cb vs pb qb rewritten cells).answer.number < 53
unfolding ask
ask-number cb vs pb qb rewritten cells = small-number _ _ _ rewritten cells (refusal-below 41 (omega arith) (ask_checks cb vs pb qb (length rewritten)) (ask-below cb vs pb qb (length rewritten)))

pub demand-1-book : Demand1Book
unfolding label_book
demand-1-book cb vs pb qb rewritten cells b = grounds (ask cb vs pb qb rewritten cells) b (ask-number cb vs pb qb rewritten cells)

-- the rows that are counted stand in the buffer
counted : (m l w : ℕ) → m ≤ l / w → m * w ≤ l
counted m l w h = omega (arith, mul-le-mul_right w h, div-mul-le_self l w)

cells_fit : (n : ℕ) (q : Query) (D : ℕ → List Tuple) (rewritten : List ℕ) (cells : List ℤ) → (ask_unless n q D rewritten cells).answer.rows * (ask_unless n q D rewritten cells).answer.columns ≤ length cells
unfolding ask_unless evaluate_unless give
cells_fit zero q D rewritten cells = counted _ (length cells) (length q.targets) (min-le_right _ _)
cells_fit (suc n) q D rewritten cells = omega arith

pub rows_fit : (cb : List ℕ) (vs : List ℤ) (pb qb rewritten : List ℕ) (cells : List ℤ) → (ask cb vs pb qb rewritten cells).answer.rows * (ask cb vs pb qb rewritten cells).answer.columns ≤ length cells
unfolding ask
rows_fit cb vs pb qb rewritten cells = cells_fit _ _ _ rewritten cells

-- rows of three cells, one after the other, are read back
read-row : (x ys : List ℤ) → length x ≡ 3 → map row_cells (rows_in (x ++ ys)) ≡ x ∷ map row_cells (rows_in ys)
unfolding rows_in
read-row [] ys h = absurd (omega arith)
read-row (a ∷ []) ys h = absurd (omega arith)
read-row (a ∷ b ∷ []) ys h = absurd (omega arith)
read-row (a ∷ b ∷ c ∷ []) ys h = refl
read-row (a ∷ b ∷ c ∷ d ∷ x) ys h = absurd (omega arith)

read-rows : (xs : List (List ℤ)) → Every (λ (x : List ℤ). length x ≡ 3) xs → (map row_cells (rows_in (concat_map (λ r. r) xs)) ≡ xs) × (length (concat_map (λ r. r) xs) ≡ length xs * 3)
unfolding Every concat_map rows_in
read-rows [] h = (refl, refl)
read-rows (x ∷ xs) h =
    let i = read-rows xs h.1 in
    (read-row x (concat_map (λ r. r) xs) h.0 ∙ ap (λ (l : List (List ℤ)). x ∷ l) i.0, omega (arith, length-append x (concat_map (λ r. r) xs), h.0, i.1))

abbrev ReadBack : List (List ℤ) → List ℤ → ℕ → Type 0
ReadBack xs cells w = Every (λ (x : List ℤ). length x ≡ w) xs → let a = give w xs cells in a.number ≡ 0 → map row_cells (rows_in (take (a.rows * a.columns) a.cells)) ≡ xs

given-rows : (xs : List (List ℤ)) (cells : List ℤ) → ReadBack xs cells 3
unfolding give
given-rows xs cells w e =
    let m : min (length xs) (length cells / 3) ≡ length xs = go (leb (length xs) (length cells / 3)) refl e in
    let i = read-rows xs w in
    rw (m, take-length) (ap (λ (l : List ℤ). map row_cells (rows_in l)) (take_at (concat_map (λ r. r) xs) _ (length xs * 3) i.1) ∙ i.0)
  where
    go : (t : Bool) → leb (length xs) (length cells / 3) ≡ t → cond {A = ℕ} t 0 41 ≡ 0 → min (length xs) (length cells / 3) ≡ length xs
    go true f e = omega (arith, leb-true (length xs) (length cells / 3) f)
    go false f e = absurd (omega arith)

rows-asked : (n : ℕ) (q : Query) (D : ℕ → List Tuple) (rewritten : List ℕ) (cells : List ℤ) → let o = ask_unless n q D rewritten cells in o.answer.number ≡ 0 → o.answer.columns ≡ 3 → map row_cells (rows_in (answer_cells o)) ≡ answers q (all_rows D)
unfolding ask_unless evaluate_unless give
rows-asked zero q D rewritten cells e w = subst (ReadBack (answers q (all_rows D)) cells) (sym w) (given-rows (answers q (all_rows D)) cells) (answers-wide q (all_rows D)) e
rows-asked (suc n) q D rewritten cells e w = absurd (omega arith)

pub book-rows : BookRows
unfolding ask
book-rows cb vs pb qb rewritten cells = rows-asked _ _ _ rewritten cells

-- every display has seven bytes
pub seven-bytes : (rows : List Row) (k : ℕ) → length (entry_for rows k).display ≡ 7
unfolding entry_for display_of
seven-bytes [] k = refl
seven-bytes (r ∷ rows) k = go (is_label k r.label) (seven-bytes rows k)
  where
    go : (t : Bool) → length (entry_for rows k).display ≡ 7 → length (cond t (entry_of r) (entry_for rows k)).display ≡ 7
    go true h = refl
    go false h = h

-- a value for each number below n
module _ {A : Type 0} (f : ℕ → A) where
  pub map_below : (n : ℕ) → map f (below (suc n)) ≡ map f (below n) ++ (f n ∷ [])
  unfolding below
  map_below n = map-append f (below n) (n ∷ [])

  pub length-map-below : (n : ℕ) → length (map f (below n)) ≡ n
  unfolding below
  length-map-below zero = refl
  length-map-below (suc n) = ap length (map_below n) ∙ length-append (map f (below n)) (f n ∷ []) ∙ omega (arith, length-map-below n)

  at-below : (n k : ℕ) (d : A) → k < n → get_or (map f (below n)) k d ≡ f k
  at-below zero k d h = absurd (omega arith)
  at-below (suc n) k d h = ap (λ (xs : List A). get_or xs k d) (map_below n) ∙ go (ltb k n) refl (at-below n k d)
    where
      go : (t : Bool) → ltb k n ≡ t → (k < n → get_or (map f (below n)) k d ≡ f k) → get_or (map f (below n) ++ (f n ∷ [])) k d ≡ f k
      go true e i = get_or-append (map f (below n)) (f n ∷ []) d k (omega (arith, ltb-true k n e, length-map-below n)) ∙ i (ltb-true k n e)
      go false e i =
          let j : n ≡ k = omega (arith, ltb-false k n e) in
          get_or_at (map f (below n)) (f n) [] d k (length-map-below n ∙ j) ∙ ap f j

-- seven values for each number below n
module _ {A : Type 0} (f : ℕ → List A) (seven : (k : ℕ) → length (f k) ≡ 7) where
  pub sevens-below : (n : ℕ) → concat_map f (below (suc n)) ≡ concat_map f (below n) ++ f n
  unfolding below concat_map
  sevens-below n = concat_map-append f (below n) (n ∷ []) ∙ ap (λ (xs : List A). concat_map f (below n) ++ xs) (append-nil (f n))

  pub length-sevens : (n : ℕ) → length (concat_map f (below n)) ≡ 7 * n
  unfolding below concat_map
  length-sevens zero = refl
  length-sevens (suc n) = ap length (sevens-below n) ∙ length-append (concat_map f (below n)) (f n) ∙ omega (arith, length-sevens n, seven n)

  seven_at : (n k : ℕ) → k < n → take 7 (drop (7 * k) (concat_map f (below n))) ≡ f k
  seven_at zero k h = absurd (omega arith)
  seven_at (suc n) k h = ap (λ (xs : List A). take 7 (drop (7 * k) xs)) (sevens-below n) ∙ go (ltb k n) refl (seven_at n k)
    where
      xs : List A
      xs = concat_map f (below n)

      go : (t : Bool) → ltb k n ≡ t → (k < n → take 7 (drop (7 * k) xs) ≡ f k) → take 7 (drop (7 * k) (xs ++ f n)) ≡ f k
      go true e i =
          let l : k < n = ltb-true k n e in
          ap (take 7) (drop-append-le (7 * k) xs (f n) (omega (arith, length-sevens n)))
          ∙ take-append-le 7 (drop (7 * k) xs) (f n) (omega (arith, length-sevens n, length-drop (7 * k) xs))
          ∙ i l
      go false e i =
          let j : n ≡ k = omega (arith, ltb-false k n e) in
          ap (take 7) (drop_at xs (f n) (7 * k) (length-sevens n ∙ ap (λ (m : ℕ). 7 * m) j))
          ∙ take_all 7 (f n) (omega (arith, seven n))
          ∙ ap f j

pub laid : (rows : List Row) → Laid rows
unfolding book_of
laid rows = record {
  sizes = (length-map-below (λ k. (entry_for rows k).offer) 500, length-sevens (λ k. (entry_for rows k).display) (seven-bytes rows) 500);
  offer-at = λ k. at-below (λ k. (entry_for rows k).offer) 500 k (pos 0);
  display-at = seven_at (λ k. (entry_for rows k).display) (seven-bytes rows) 500;
}

pub demand-3-book : Demand3Book
unfolding label_book
demand-3-book cb cb' vs vs' pb qb rewritten cells b k k' same premise = ap (λ (o : Outcome). book_after o b) (demand-3 cb cb' vs vs' pb qb rewritten cells k k' same premise)
