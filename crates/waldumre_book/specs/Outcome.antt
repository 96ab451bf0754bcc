-- What the exported function returns, with the lent buffers and the book afterwards, as the model's outcome of a book call.
use Rattle.std.specs.Prelude.{List, ℤ, ℕ}
use Rattle.model.specs.Calls as M
use Rattle.model.specs.Book.{Book, BookOutcome}
use Rattle.plain.specs.Reply.{number_in}
use Rattle.guarded.specs.Outcome as G
use Rattle.guarded.specs.declared.Reply.{Reply}
use Rattle.waldumre_book.specs.declared.Outcome.{Outcome}

-- what ask returned, for C
abbrev pub asked_as : Reply → Outcome
asked_as r = record { number = number_in r.answer; rows = r.answer.rows; columns = r.answer.columns; length = r.length }

-- and as the model's outcome
abbrev pub ask_outcome : Reply → List ℤ → List ℕ → M.Outcome
ask_outcome = G.outcome_of

abbrev pub outcome_of : Outcome → List ℤ → List ℕ → M.Outcome
outcome_of r cells rewritten = record { answer = record { number = r.number; rows = r.rows; columns = r.columns; cells = cells }; count = r.length; rewritten = rewritten }

abbrev pub book_outcome_of : Outcome → List ℤ → List ℕ → Book → BookOutcome
book_outcome_of r cells rewritten b = record { outcome = outcome_of r cells rewritten; book = b }
