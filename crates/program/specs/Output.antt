-- What the program prints, of the bytes of its four files (document 01, "Shelf examples").
use Rattle.std.specs.Prelude.{ℕ, ◌%◌, Bool, cond, not, ◌||◌, List, [], ◌∷◌, ◌++◌, eqb, ltb, ℤ, pos, length, take, replicate}
use Rattle.model.specs.Meaning.{signed}
use Rattle.model.specs.Checks.{fails10}
use Rattle.model.specs.Calls.{Outcome, ask}
use Rattle.program.specs.Text.{decimal, line, table, labelled}

-- values: 4 bytes each, low first
unfoldable pub numbers : List ℕ → List ℤ
numbers (a ∷ b ∷ c ∷ d ∷ r) = signed a b c d ∷ numbers r
numbers (a ∷ b ∷ c ∷ []) = []
numbers (a ∷ b ∷ []) = []
numbers (a ∷ []) = []
numbers [] = []

-- a values file over its limit, or no multiple of 4 bytes
abbrev pub unreadable : List ℕ → Bool
unreadable file = ltb 32768 (length file) || not (eqb (length file % 4) 0)

-- 'rows ', 'columns ', 'question ', 'refused '
abbrev pub rows_word : List ℕ
rows_word = 114 ∷ 111 ∷ 119 ∷ 115 ∷ 32 ∷ []

abbrev pub columns_word : List ℕ
columns_word = 99 ∷ 111 ∷ 108 ∷ 117 ∷ 109 ∷ 110 ∷ 115 ∷ 32 ∷ []

abbrev pub question_word : List ℕ
question_word = 113 ∷ 117 ∷ 101 ∷ 115 ∷ 116 ∷ 105 ∷ 111 ∷ 110 ∷ 32 ∷ []

abbrev pub refused_word : List ℕ
refused_word = 114 ∷ 101 ∷ 102 ∷ 117 ∷ 115 ∷ 101 ∷ 100 ∷ 32 ∷ []

abbrev pub refused : ℕ → List ℕ
refused number = labelled refused_word number

-- the three counts, the rewritten bytes, a line a row
unfoldable pub accepted : ℕ → ℕ → ℕ → List ℕ → List ℤ → List ℕ
accepted rows columns count rewritten cells =
    labelled rows_word rows
    ++ (labelled columns_word columns ++ (labelled question_word count ++ (line decimal (take count rewritten) ++ table rows columns cells)))

abbrev pub printed : Outcome → List ℕ
printed o =
    cond (eqb o.answer.number 0)
    (accepted o.answer.rows o.answer.columns o.count o.rewritten o.answer.cells)
    (refused o.answer.number)

-- an unreadable values file is 11, in its turn
abbrev pub unread : List ℕ → ℕ
unread catalogue = cond (fails10 catalogue) 10 11

-- the answer buffer has 4,096 cells, the other 17,216 bytes
unfoldable pub output : List ℕ → List ℕ → List ℕ → List ℕ → List ℕ
output catalogue values permits question =
    cond (unreadable values)
    (refused (unread catalogue))
    (printed (ask catalogue (numbers values) permits question (replicate 17216 0) (replicate 4096 (pos 0))))
