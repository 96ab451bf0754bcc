-- The test of 53, and what it gives where it passes.
use mathlib.Core.Path.{◌≡◌, refl, sym, ◌∙◌}
use mathlib.Core.Bool.{Bool, true, false, cond, ◌&&◌}
use mathlib.Core.List.{List, []}
use Prim.Native.Nat.{ℕ}
use lib.Dec.{eqb}
use lib.IntN.{ℤ, negsuc}
use lib.ListN.{length, replicate}
use borrow.Author.Tests.{eqb-true}
use Rattle.model.specs.Lists.{all}
use Rattle.model.specs.Book.{rows_in, in_range, Book, book_of, fits}
use Rattle.model.proofs.Tests.{and-inv}
use Rattle.waldumre_book.proofs.book.Entries.{blank-book}

module _ (columns : ℕ) (cells : List ℤ) (b : Book) (r : Bool) (e : r ≡ eqb columns 3 && eqb (length b.offers) 500 && eqb (length b.display) 3500 && all in_range (rows_in cells)) where
  is-fits : r ≡ fits columns cells b
  unfolding fits
  is-fits = e

  pub kept : r ≡ false → (false ≡ fits columns cells b) × (b ≡ b)
  kept h = (sym h ∙ is-fits, refl)

  module _ (h : r ≡ true) where
    parts : (eqb columns 3 && eqb (length b.offers) 500 && eqb (length b.display) 3500 ≡ true) × (all in_range (rows_in cells) ≡ true)
    parts = and-inv _ (all in_range (rows_in cells)) (sym e ∙ h)

    pub in-range : all in_range (rows_in cells) ≡ true
    in-range = parts.1

    pub blank : (offers : List ℤ) (display : List ℕ) → offers ≡ replicate (length b.offers) (negsuc 0) → display ≡ replicate (length b.display) 32 → record { offers = offers; display = display } ≡ book_of []
    blank offers display eo ed =
        let i = and-inv (eqb columns 3 && eqb (length b.offers) 500) (eqb (length b.display) 3500) parts.0 in
        let j = and-inv (eqb columns 3) (eqb (length b.offers) 500) i.0 in
        blank-book (length b.offers) (length b.display) (eqb-true _ 500 j.1) (eqb-true _ 3500 i.1) offers display eo ed

    pub written : (c : Book) → c ≡ book_of (rows_in cells) → (r ≡ fits columns cells b) × (c ≡ cond r (book_of (rows_in cells)) b)
    written c k = (is-fits, k ∙ rw h)
