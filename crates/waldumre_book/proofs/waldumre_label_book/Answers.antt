use Prim.Native.Nat.{ℕ}
use mathlib.Core.Path.{ap, ◌∙◌}
use native.Mathlib.Omega.{arith}
use Rattle.model.specs.Calls.{Outcome}
use Rattle.model.specs.Book.{Book, label_book, book_after}
use Rattle.waldumre_book.proofs.Ways.{rows_in_lem, refused_first}
use Rattle.waldumre_book.proofs.waldumre_label_book.Goals as goal

pub booked-requires : goal.booked-requires
booked-requires c = rows_in_lem c.in-Ok.r _ _ _ _ _ _ c.in-Ok.ensures c.ask.auto.answer

pub returns-in-Ok : goal.returns-in-Ok
unfolding label_book
returns-in-Ok c =
    c.booked.ensures c.ask.new.rewritten
    ∙ ap (λ (o : Outcome). book_after o (record { offers = c.args.offers.now; display = c.args.display.now })) c.in-Ok.ensures

pub returns-in-Err : goal.returns-in-Err
unfolding label_book
returns-in-Err c =
    let b : Book = record { offers = c.args.offers.now; display = c.args.display.now } in
    refused_first c.in-Err.refusal c.ask.new.answer c.ask.new.rewritten b c.refused.result (c.refused.ensures ∙ ap (λ (n : ℕ). record { number = n; rows = 0; columns = 0; length = 0 }) (c.from-in-Err.ensures ∙ c.from.ensures))
    ∙ ap (λ (o : Outcome). book_after o b) c.in-Err.ensures
