-- What a query that passed its checks stands for, and its answer.
use Rattle.std.specs.Prelude.{ℕ, List, ◌≡◌, ℤ, length}
use Rattle.model.specs.Syntax.{Query}
use Rattle.model.specs.Meaning.{Rows, answers}
use Rattle.model.specs.Calls.{give}
use Rattle.queries.specs.Parts.{query_at}
use Rattle.walks.specs.Walks.{rows_by}
use Rattle.plain.specs.declared.Asked.{Asked}
use Rattle.plain.specs.declared.Reply.{Reply}
use Rattle.plain.specs.Reply.{answer_of, Furnished, Passed, Trusted}

abbrev pub query_in : Asked → Query
query_in a = query_at a.layout a.level a.q.now a.z.now

abbrev pub rows_in : Asked → Rows
rows_in a = rows_by a.walks.now a.values.now

-- the reply, with the cells of the answer buffer before and after, is what the model gives
abbrev pub Answered : Asked → Reply → List ℤ → List ℤ → Type 0
Answered a r old new = answer_of r new ≡ give (length (query_in a).targets) (answers (query_in a) (rows_in a)) old

-- the memo says nothing false of the query
abbrev pub Trusts : Asked → List ℤ → Type 0
Trusts a m = Trusted m (rows_in a) (query_in a)

abbrev pub HasPassed : Asked → Type 0
HasPassed a = Passed a.layout a.level a.q.now a.z.now

-- the table's branches, and its chains before place f, serve the query by the memo
abbrev pub Serves : Asked → List ℤ → ℕ → List ℕ → List ℕ → Type 0
Serves a m f w w' = Furnished a.layout a.level f a.q.now a.z.now a.walks.now a.values.now m w w'
