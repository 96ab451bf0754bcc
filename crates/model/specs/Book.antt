-- The label book: a question with three targets, and for each label the first row that names it (document 02, Change 3).
use Rattle.std.specs.Prelude.{ℕ, ◌+◌, ◌*◌, ◌/◌, ◌%◌, Bool, false, not, cond, ◌&&◌, List, [], ◌∷◌, map, eqb, ℤ, pos, negsuc, nat_abs, length, take, replicate}
use Rattle.std.specs.Int.Signed.{le_z}
use Rattle.model.specs.Lists.{all, concat_map, below}
use Rattle.model.specs.Calls.{Outcome, refuse, ask}

-- "three targets (label ..., offer number ..., price in cents ...)"
pub record Row : Type 0 where
  pub label : ℤ
  pub offer : ℤ
  pub price : ℤ

-- its cells, in the order of the targets
abbrev pub row_cells : Row → List ℤ
row_cells r = r.label ∷ r.offer ∷ r.price ∷ []

-- the rows of an answer with three columns: three cells a row
unfoldable pub rows_in : List ℤ → List Row
rows_in [] = []
rows_in (a ∷ []) = []
rows_in (a ∷ b ∷ []) = []
rows_in (a ∷ b ∷ c ∷ cells) = record { label = a; offer = b; price = c } ∷ rows_in cells

-- 0 to n
abbrev pub up_to : ℕ → ℤ → Bool
up_to n z = le_z (pos 0) z && le_z z (pos n)

-- "label 0 to 499, offer number 0 or more, price in cents 0 to 999,999"
unfoldable pub in_range : Row → Bool
in_range r = up_to 499 r.label && le_z (pos 0) r.offer && up_to 999999 r.price

-- the last digit of n, in ASCII
abbrev pub digit : ℕ → ℕ
digit n = 48 + n % 10

-- the same, with a space for a zero in front
abbrev pub lead : ℕ → ℕ
lead n = cond (eqb n 0) 32 (digit n)

-- "7 bytes of display: euros right-aligned in four with spaces, at least one digit, a point, two digits"
unfoldable pub display_of : ℕ → List ℕ
display_of cents =
    let euros = cents / 100 in
    lead (euros / 1000) ∷ lead (euros / 100) ∷ lead (euros / 10) ∷ digit euros ∷ 46 ∷ digit (cents / 10) ∷ digit cents ∷ []

-- "its result for each label"
pub record Entry : Type 0 where
  pub offer : ℤ
  pub display : List ℕ

abbrev pub entry_of : Row → Entry
entry_of r = record { offer = r.offer; display = display_of (nat_abs r.price) }

-- "or −1 and seven spaces if no row names it"
abbrev pub no_entry : Entry
no_entry = record { offer = negsuc 0; display = replicate 7 32 }

-- the cell is label k
abbrev pub is_label : ℕ → ℤ → Bool
is_label k (pos n) = eqb n k
is_label k (negsuc n) = false

-- "gives each label the first row that names it"
unfoldable pub entry_for : List Row → ℕ → Entry
entry_for [] k = no_entry
entry_for (r ∷ rows) k = cond (is_label k r.label) (entry_of r) (entry_for rows k)

-- the book as it is lent: an offer for each label, and the seven bytes of label k from 7k on
pub record Book : Type 0 where
  pub offers : List ℤ
  pub display : List ℕ

unfoldable pub book_of : List Row → Book
book_of rows = record { offers = map (λ k. (entry_for rows k).offer) (below 500); display = concat_map (λ k. (entry_for rows k).display) (below 500) }

-- what the book call returns, with all that is lent to it afterwards
pub record BookOutcome : Type 0 where
  pub outcome : Outcome
  pub book : Book

-- the cells of an answer's rows
abbrev pub answer_cells : Outcome → List ℤ
answer_cells o = take (o.answer.rows * o.answer.columns) o.answer.cells

-- "a wrong number of targets or a value outside those ranges gives 53", in any row; and so does a book of another size
unfoldable pub fits : ℕ → List ℤ → Book → Bool
fits columns cells b = eqb columns 3 && eqb (length b.offers) 500 && eqb (length b.display) 3500 && all in_range (rows_in cells)

abbrev pub fails53 : Outcome → Book → Bool
fails53 o b = not (fits o.answer.columns (answer_cells o) b)

-- "after the engine's own refusals, both buffers then as the accepted question left them; every refusal leaves the book unchanged"
unfoldable pub book_after : Outcome → Book → BookOutcome
book_after o b =
    cond (eqb o.answer.number 0)
    (cond (fails53 o b)
    (record { outcome = record { answer = refuse 53 o.answer.cells; count = 0; rewritten = o.rewritten }; book = b })
    (record { outcome = o; book = book_of (rows_in (answer_cells o)) }))
    (record { outcome = o; book = b })

-- the book call asks as `ask` does
unfoldable pub label_book : List ℕ → List ℤ → List ℕ → List ℕ → List ℕ → List ℤ → Book → BookOutcome
label_book cb vs pb qb rewritten cells b = book_after (ask cb vs pb qb rewritten cells) b
