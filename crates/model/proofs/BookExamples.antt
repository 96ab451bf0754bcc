-- The label book, worked: four prices, a book of four rows, and two refusals. All by computation.
use Prim.Native.Nat.{ℕ}
use mathlib.Core.List.{[], ◌∷◌, ◌++◌, map}
use mathlib.Core.Path.{◌≡◌, refl}
use lib.IntN.{ℤ, pos, negsuc}
use lib.ListN.{replicate}
use Rattle.model.specs.Lists.{all, concat_map, below}
use Rattle.model.specs.Calls.{Outcome, refuse}
use Rattle.model.specs.Book.{rows_in, in_range, display_of, entry_for, Book, book_of, fits, book_after}

-- 0 is `   0.00`, 5 cents `   0.05`, then `1234.56` and `9999.99`
prices : map display_of (0 ∷ 5 ∷ 123456 ∷ 999999 ∷ [])
    ≡ (32 ∷ 32 ∷ 32 ∷ 48 ∷ 46 ∷ 48 ∷ 48 ∷ [])
    ∷ (32 ∷ 32 ∷ 32 ∷ 48 ∷ 46 ∷ 48 ∷ 53 ∷ [])
    ∷ (49 ∷ 50 ∷ 51 ∷ 52 ∷ 46 ∷ 53 ∷ 54 ∷ [])
    ∷ (57 ∷ 57 ∷ 57 ∷ 57 ∷ 46 ∷ 57 ∷ 57 ∷ [])
    ∷ []
unfolding display_of
prices = refl

-- an outcome with four rows, two of them for label 2; the second one's price is the argument
asked : ℕ → ℤ → Outcome
asked number second = record {
  answer = record {
    number = number;
    rows = 4;
    columns = 3;
    cells =
        pos 2 ∷ pos 11 ∷ pos 199 ∷
        pos 2 ∷ pos 12 ∷ second ∷
        pos 0 ∷ pos 0 ∷ pos 1005 ∷
        pos 499 ∷ pos 13 ∷ pos 0 ∷
        pos 77 ∷ [];
  };
  count = 1;
  rewritten = 170 ∷ [];
}

lent : Book
lent = record { offers = replicate 500 (pos 7); display = replicate 3500 65 }

-- label 2 has the offer of its first row; labels that no row names have −1 and spaces
written : book_after (asked 0 (pos 5)) lent
    ≡ record {
      outcome = asked 0 (pos 5);
      book = record {
        offers = pos 0 ∷ negsuc 0 ∷ pos 11 ∷ replicate 496 (negsuc 0) ++ (pos 13 ∷ []);
        display =
            32 ∷ 32 ∷ 49 ∷ 48 ∷ 46 ∷ 48 ∷ 53 ∷
            32 ∷ 32 ∷ 32 ∷ 32 ∷ 32 ∷ 32 ∷ 32 ∷
            32 ∷ 32 ∷ 32 ∷ 49 ∷ 46 ∷ 57 ∷ 57 ∷
            replicate 3472 32 ++ (32 ∷ 32 ∷ 32 ∷ 48 ∷ 46 ∷ 48 ∷ 48 ∷ []);
      };
    }
unfolding all concat_map below rows_in in_range display_of entry_for book_of fits book_after asked lent
written = refl

-- a price of a million cents in a row that does not win: 53, counts 0, buffers as ask left them, the book as lent
refused : book_after (asked 0 (pos 1000000)) lent ≡ record { outcome = record { answer = refuse 53 (asked 0 (pos 1000000)).answer.cells; count = 0; rewritten = 170 ∷ [] }; book = lent }
unfolding all concat_map below rows_in in_range display_of entry_for book_of fits book_after asked lent
refused = refl

-- 41: a part of an answer makes no book
short : book_after (asked 41 (pos 5)) lent ≡ record { outcome = asked 41 (pos 5); book = lent }
unfolding book_after asked lent
short = refl
