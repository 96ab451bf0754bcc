-- The three demands, changes 5 and 12 of document 02 and the label book of change 3, as statements over ask and evaluate. proofs/Demands, Searches, Grants and
-- Book prove them.
-- The letters, here and in every file of specs and proofs:
--   cb  the catalogue's bytes    vs  the values           pb  the permit list's bytes    qb  the question's bytes
--   rewritten, cells  the two lent buffers before the call
--   sh  the shape: each relation's kind and columns       l   the limits of a call (guarded or plain)
--   D   the collection: D r are the rows of relation r    G   the guards: G v r is that of variable v over relation r
--   R   the rows run through: R v r by variable v over relation r, all of them or the permitted ones
--   e   an assignment: e v is the row of variable v, e v a its attribute a
--   q   a query as a tree ("question" and "query" are one)    c d  conditions    s t  terms (s also S, where it is a set)
--   p ps  permits    b bs  bindings (bs also bytes)    v w  variables    r  a relation, or the bytes that are left
use Rattle.std.specs.Prelude.{ℕ, zero, suc, ◌*◌, ◌/◌, ◌<◌, ◌≤◌, Bool, true, false, ◌&&◌, List, [], ◌∷◌, ◌++◌, map, ◌≡◌, eqb, ℤ, pos, length, take, drop, get_or}
use Rattle.model.specs.Lists.{any, all, concat_map, contains, Every}
use Rattle.model.specs.Syntax.{Condition, Term, TRUE, FALSE, NOT, AND, OR, COMPARE, SOME, CONSTANT, ATTRIBUTE, AGGREGATE, Binding, Query, Permit, WellFormedQ, WellFormedPs, bindings_q}
use Rattle.model.specs.Encoding.{encode_query, encode_permits, ok, read_query, query_of, permits_of, permits_read}
use Rattle.model.specs.Meaning.{Rows, same_row, rows_met, answers}
use Rattle.model.specs.Catalogue.{catalogue_of, shape_of, tuples_at, all_rows}
use Rattle.model.specs.Search.{some_searches, row_searches}
use Rattle.model.specs.Permits.{used_of, no_access, Guards, guards_of, permitted, cut}
use Rattle.model.specs.Rewriting.{rewrite_query}
use Rattle.model.specs.Checks.{Check, keeper_checks, permit_checks, ask_checks, evaluate_checks, refusal}
use Rattle.model.specs.Calls.{Answer, Outcome, refuse, give, evaluate, ask}
use Rattle.model.specs.Book.{Row, row_cells, rows_in, entry_for, Book, book_of, BookOutcome, answer_cells, fails53, label_book}

-- the guards of a call, the rewritten query, and the rows that a query gives over a collection
abbrev pub guards_in : List ℕ → List ℕ → Query → Guards
guards_in cb pb q = guards_of (shape_of (catalogue_of cb)) (permits_of pb) q

abbrev pub rewritten_of : List ℕ → List ℕ → List ℕ → Query
rewritten_of cb pb qb = rewrite_query (guards_in cb pb (query_of qb)) (query_of qb)

abbrev pub rows_of : List ℕ → List ℤ → Query → List (List ℤ)
rows_of cb vs q = answers q (all_rows (tuples_at (catalogue_of cb) vs))

abbrev pub columns_of : List ℕ → ℕ
columns_of qb = length (query_of qb).targets

-- the check with number n fails
unfoldable pub fails : List Check → ℕ → Bool
fails cs n = any (λ (c : Check). c.0 && eqb c.1 n) cs

-- the ground of a refusal: check n fails, and all lower ones pass
pub record Ground (cs : List Check) (n : ℕ) : Type 0 where
  pub failing : fails cs n ≡ true
  pub lower : (m : ℕ) → m < n → fails cs m ≡ false

abbrev pub Passes : List Check → Type 0
Passes cs = (m : ℕ) → fails cs m ≡ false

-- document 01's numbers for each call; 0 is accepted
abbrev pub ask_numbers : List ℕ
ask_numbers = 0 ∷ 10 ∷ 11 ∷ 20 ∷ 21 ∷ 22 ∷ 23 ∷ 30 ∷ 31 ∷ 32 ∷ 33 ∷ 40 ∷ 41 ∷ []

abbrev pub evaluate_numbers : List ℕ
evaluate_numbers = 0 ∷ 10 ∷ 11 ∷ 30 ∷ 31 ∷ 32 ∷ 41 ∷ []

-- the row x stands at place k, and at no earlier one
pub record FirstAt (x : List ℤ) (rows : List (List ℤ)) (k : ℕ) : Type 0 where
  pub inside : k < length rows
  pub here : get_or rows k [] ≡ x
  pub earlier : (j : ℕ) → j < k → get_or rows j [] ≡ x → ⊥

-- EACH ONCE, IN ORDER OF FIRST MEETING: the rows kept, of the rows met
pub record FirstMeeting (met kept : List (List ℤ)) : Type 0 where
  -- each once: no two rows are equal
  pub once : (i j : ℕ) → i < j → j < length kept → get_or kept i [] ≡ get_or kept j [] → ⊥
  -- each row kept is one met, and each row met is kept
  pub from : (i : ℕ) → i < length kept → (k : ℕ) × FirstAt (get_or kept i []) met k
  pub into : (k : ℕ) → k < length met → (i : ℕ) × (i < length kept) × (get_or kept i [] ≡ get_or met k [])
  -- a row stands before another exactly if it is met first
  pub before : (i j k l : ℕ) → i < length kept → j < length kept → FirstAt (get_or kept i []) met k → FirstAt (get_or kept j []) met l → (i < j → k < l) × (k < l → i < j)

-- the rows met are those of the assignments that meet the condition, in the odometer's order
abbrev pub InOrder : Type 0
InOrder = (q : Query) (R : Rows) → FirstMeeting (rows_met q R) (answers q R)

-- ONE CALL OF ASK: what the demands say of it
module _ (cb : List ℕ) (vs : List ℤ) (pb qb rewritten : List ℕ) (cells : List ℤ) where
  abbrev asked : Outcome
  asked = ask cb vs pb qb rewritten cells

  abbrev checks : List Check
  checks = ask_checks cb vs pb qb (length rewritten)

  -- the rows of its meaning, and how many whole rows the buffer has room for
  abbrev rows : List (List ℤ)
  rows = rows_of cb vs (rewritten_of cb pb qb)

  abbrev room : ℕ
  room = length cells / columns_of qb

  -- the outcome with this answer, where the rewritten question has been written
  abbrev answered : Answer → Outcome
  answered a = let bs = encode_query (rewritten_of cb pb qb) in record { answer = a; count = length bs; rewritten = bs ++ drop (length bs) rewritten }

  -- the number is one of document 01's
  abbrev pub Numbered : Type 0
  Numbered = contains asked.answer.number ask_numbers ≡ true

  -- a refusal is its number with zero counts, both buffers unchanged
  abbrev pub Untouched : Type 0
  Untouched = (n : ℕ) → asked.answer.number ≡ n → 1 ≤ n → n < 41 → asked ≡ record { answer = record { number = n; rows = 0; columns = 0; cells = cells }; count = 0; rewritten = rewritten }

  -- 10 to 40: check n fails and all lower ones pass, and the other way round
  abbrev pub HasGround : Type 0
  HasGround = (n : ℕ) → asked.answer.number ≡ n → 1 ≤ n → n < 41 → Ground checks n

  abbrev pub Grounded : Type 0
  Grounded = (n : ℕ) → Ground checks n → asked.answer.number ≡ n

  -- 41: all checks pass and more distinct rows than whole rows fit, and the other way round
  abbrev pub Short : Type 0
  Short = asked.answer.number ≡ 41 → Passes checks × (room < length rows)

  abbrev pub Shorted : Type 0
  Shorted = Passes checks → room < length rows → asked.answer.number ≡ 41

  -- at 41 the buffer holds the first rows that fit, the count is theirs, the other cells are unchanged; the rest is as if accepted
  abbrev pub ShortAnswer : Type 0
  ShortAnswer = asked.answer.number ≡ 41 → asked ≡ answered (record { number = 41; rows = room; columns = columns_of qb; cells = concat_map (λ r. r) (take room rows) ++ drop (room * columns_of qb) cells })

  -- accepted: all rows, one after the other, and cells past them unchanged; the rewritten bytes are those of steps 1 to 4
  abbrev pub Accepted : Type 0
  Accepted = asked.answer.number ≡ 0 → asked ≡ answered (record { number = 0; rows = length rows; columns = columns_of qb; cells = concat_map (λ r. r) rows ++ drop (length rows * columns_of qb) cells })

  -- once the checks pass: both cases, 0 and 41, in one
  abbrev pub Rewriting : Type 0
  Rewriting = Passes checks → asked ≡ answered (give (columns_of qb) rows cells)

  -- and the rows are equally those of the query over the permitted rows
  abbrev pub PermittedRows : Type 0
  PermittedRows = Passes checks → rows ≡ answers (query_of qb) (permitted (tuples_at (catalogue_of cb) vs) (guards_in cb pb (query_of qb)))

  -- put to the plain evaluator, the rewritten query is accepted and gives the same number, rows, columns and cells
  abbrev pub Again : Type 0
  Again = Passes checks → evaluate cb vs (take asked.count asked.rewritten) cells ≡ asked.answer

  -- the largest rewritten query has 17,216 bytes
  abbrev pub Bounded : Type 0
  Bounded = asked.count ≤ 17216

-- ONE CALL OF THE PLAIN EVALUATOR: the same of its own checks
module _ (cb : List ℕ) (vs : List ℤ) (qb : List ℕ) (cells : List ℤ) where
  abbrev evaluated : Answer
  evaluated = evaluate cb vs qb cells

  abbrev plain_rows : List (List ℤ)
  plain_rows = rows_of cb vs (query_of qb)

  abbrev plain_room : ℕ
  plain_room = length cells / columns_of qb

  abbrev pub PlainNumbered : Type 0
  PlainNumbered = contains evaluated.number evaluate_numbers ≡ true

  abbrev pub PlainUntouched : Type 0
  PlainUntouched = (n : ℕ) → evaluated.number ≡ n → 1 ≤ n → n < 41 → evaluated ≡ record { number = n; rows = 0; columns = 0; cells = cells }

  abbrev pub PlainGround : Type 0
  PlainGround = (n : ℕ) → evaluated.number ≡ n → 1 ≤ n → n < 41 → Ground (evaluate_checks cb vs qb) n

  abbrev pub PlainGrounded : Type 0
  PlainGrounded = (n : ℕ) → Ground (evaluate_checks cb vs qb) n → evaluated.number ≡ n

  abbrev pub PlainShort : Type 0
  PlainShort = evaluated.number ≡ 41 → Passes (evaluate_checks cb vs qb) × (plain_room < length plain_rows)

  abbrev pub PlainShorted : Type 0
  PlainShorted = Passes (evaluate_checks cb vs qb) → plain_room < length plain_rows → evaluated.number ≡ 41

  abbrev pub PlainShortAnswer : Type 0
  PlainShortAnswer = evaluated.number ≡ 41 → evaluated ≡ record { number = 41; rows = plain_room; columns = columns_of qb; cells = concat_map (λ r. r) (take plain_room plain_rows) ++ drop (plain_room * columns_of qb) cells }

  abbrev pub PlainAccepted : Type 0
  PlainAccepted = evaluated.number ≡ 0 → evaluated ≡ record { number = 0; rows = length plain_rows; columns = columns_of qb; cells = concat_map (λ r. r) plain_rows ++ drop (length plain_rows * columns_of qb) cells }

  abbrev pub Evaluating : Type 0
  Evaluating = Passes (evaluate_checks cb vs qb) → evaluated ≡ give (columns_of qb) plain_rows cells

-- every call: P holds whatever is handed over
abbrev pub EachAsk : (List ℕ → List ℤ → List ℕ → List ℕ → List ℕ → List ℤ → Type 0) → Type 0
EachAsk P = (cb : List ℕ) (vs : List ℤ) (pb qb rewritten : List ℕ) (cells : List ℤ) → P cb vs pb qb rewritten cells

abbrev pub EachEvaluate : (List ℕ → List ℤ → List ℕ → List ℤ → Type 0) → Type 0
EachEvaluate P = (cb : List ℕ) (vs : List ℤ) (qb : List ℕ) (cells : List ℤ) → P cb vs qb cells

-- DEMAND 1, as far as definitions go: each number has its exact ground, and a refusal other than 41 leaves all as it was
pub record Demand1 : Type 0 where
  pub numbered : EachAsk Numbered
  pub untouched : EachAsk Untouched
  pub ground : EachAsk HasGround
  pub grounded : EachAsk Grounded
  pub short : EachAsk Short
  pub shorted : EachAsk Shorted
  pub short-answer : EachAsk ShortAnswer
  pub plain-numbered : EachEvaluate PlainNumbered
  pub plain-untouched : EachEvaluate PlainUntouched
  pub plain-ground : EachEvaluate PlainGround
  pub plain-grounded : EachEvaluate PlainGrounded
  pub plain-short : EachEvaluate PlainShort
  pub plain-shorted : EachEvaluate PlainShorted
  pub plain-short-answer : EachEvaluate PlainShortAnswer

-- DEMAND 2
pub record Demand2 : Type 0 where
  -- whatever passes the reader is the bytes of exactly one query, and the other way round; so for permits
  pub query-bytes : (bs : List ℕ) (q : Query) (r : List ℕ) → read_query bs ≡ ok q r → (bs ≡ encode_query q) × WellFormedQ q × (r ≡ [])
  pub bytes-query : (q : Query) → WellFormedQ q → read_query (encode_query q) ≡ ok q []
  pub permit-bytes : (bs : List ℕ) (ps : List Permit) (r : List ℕ) → permits_read bs ≡ ok ps r → WellFormedPs ps × (bs ≡ encode_permits ps)
  pub bytes-permit : (ps : List Permit) → WellFormedPs ps → permits_read (encode_permits ps) ≡ ok ps []
  pub in_order : InOrder
  pub accepted : EachAsk Accepted
  pub rewriting : EachAsk Rewriting
  pub permitted-rows : EachAsk PermittedRows
  pub again : EachAsk Again
  pub bounded : EachAsk Bounded
  pub plain-accepted : EachEvaluate PlainAccepted
  pub evaluating : EachEvaluate Evaluating

-- a collection that draws neither 10 nor 11
abbrev pub Kept : List ℕ → List ℤ → Type 0
Kept cb vs = refusal (keeper_checks cb vs) ≡ 0

-- a variable's permitted rows, cut to S
abbrev pub permitted_cut : List ℕ → List ℤ → List ℕ → Query → Binding → List (List ℤ)
permitted_cut cb vs pb q b = map (cut (used_of q b.variable)) (permitted (tuples_at (catalogue_of cb) vs) (guards_in cb pb q) b.variable b.relation)

-- DEMAND 3: for any permits and query, refused ones included, two collections alike in the premises give the same outcome,
-- both buffers to their ends
abbrev pub Demand3 : Type 0
Demand3 = (cb cb' : List ℕ) (vs vs' : List ℤ) (pb qb rewritten : List ℕ) (cells : List ℤ)
    -- neither collection draws 10 or 11; both have the same relations, kinds and columns
    → Kept cb vs → Kept cb' vs' → shape_of (catalogue_of cb) ≡ shape_of (catalogue_of cb')
    -- unless the call is refused with a number from 20 to 40, each variable of the query has the same permitted rows, cut to S
    → (let n = (ask cb vs pb qb rewritten cells).answer.number in ((20 ≤ n) × (n ≤ 40) → ⊥) → Every (λ b. permitted_cut cb vs pb (query_of qb) b ≡ permitted_cut cb' vs' pb (query_of qb) b) (bindings_q (query_of qb)))
    → ask cb vs pb qb rewritten cells ≡ ask cb' vs' pb qb rewritten cells

-- the rows that a call runs the asker's query over: of each variable, its permitted rows (`PermittedRows`)
abbrev pub run_through : List ℕ → List ℤ → List ℕ → List ℕ → Rows
run_through cb vs pb qb = permitted (tuples_at (catalogue_of cb) vs) (guards_in cb pb (query_of qb))

-- CHANGE 5 (document 02): what the counts of searches tell. Two collections alike in demand 3's premises, and a call that passes its checks (one that does
-- not searches nothing): then each search of the asker's query finds alike, and has tried equally many rows. So hidden rows move the counts of permits'
-- searches alone; that they do move those is in Hidden
abbrev pub SearchesAlike : Type 0
SearchesAlike = (cb cb' : List ℕ) (vs vs' : List ℤ) (pb qb rewritten : List ℕ)
    → Kept cb vs → Kept cb' vs' → shape_of (catalogue_of cb) ≡ shape_of (catalogue_of cb')
    → Every (λ b. permitted_cut cb vs pb (query_of qb) b ≡ permitted_cut cb' vs' pb (query_of qb) b) (bindings_q (query_of qb))
    → Passes (ask_checks cb vs pb qb (length rewritten))
    -- SOME's searches, with any number of RANGE variables bound, each on all rows of the variables around it
    → ((k : ℕ) → some_searches k (query_of qb) (run_through cb vs pb qb) ≡ some_searches k (query_of qb) (run_through cb' vs' pb qb))
    -- and those for an equal earlier row
    × (row_searches [] (rows_met (query_of qb) (run_through cb vs pb qb)) ≡ row_searches [] (rows_met (query_of qb) (run_through cb' vs' pb qb)))

-- a constant or an attribute
unfoldable pub no_aggregate : Term → Bool
no_aggregate (CONSTANT a b c d) = true
no_aggregate (ATTRIBUTE v a) = true
no_aggregate (AGGREGATE f v r a c) = false

-- neither NOT nor an aggregate
unfoldable pub positive : Condition → Bool
positive TRUE = true
positive FALSE = true
positive (NOT c) = false
positive (AND c d) = positive c && positive d
positive (OR c d) = positive c && positive d
positive (COMPARE o s t) = no_aggregate s && no_aggregate t
positive (SOME v r c) = positive c

unfoldable pub positive_q : Query → Bool
positive_q q = all no_aggregate q.targets && positive q.condition

-- n rows of w cells each, read off a buffer from its start
unfoldable pub rows_from : ℕ → ℕ → List ℤ → List (List ℤ)
rows_from zero w cells = []
rows_from (suc n) w cells = take w cells ∷ rows_from n w (drop w cells)

-- the rows that stand in the answer buffer after a call
abbrev pub rows_given : Outcome → List (List ℤ)
rows_given o = rows_from o.answer.rows o.answer.columns o.answer.cells

-- rows as sets: each row of the first list is a row of the second
unfoldable pub included : List (List ℤ) → List (List ℤ) → Bool
included xs ys = all (λ x. any (same_row x) ys) xs

-- CHANGE 12 (document 02): more permits, no fewer rows
abbrev pub MorePermits : Type 0
MorePermits = (cb : List ℕ) (vs : List ℤ) (pb pb' qb rewritten rewritten' : List ℕ) (cells cells' : List ℤ) (xs : List Permit) (p : Permit) (ys : List Permit)
    -- a permit p is added, anywhere in the list
    → permits_of pb ≡ xs ++ ys → permits_of pb' ≡ xs ++ (p ∷ ys)
    -- it is other than a NO ACCESS one; its relation, mask and condition are free
    → no_access p ≡ false
    -- with the shorter list the question is accepted
    → (ask cb vs pb qb rewritten cells).answer.number ≡ 0
    -- the question has neither NOT nor an aggregate; permits may have both
    → positive_q (query_of qb) ≡ true
    -- the longer list passes its checks, 20 to 23
    → Passes (permit_checks (shape_of (catalogue_of cb)) pb')
    -- both buffers suffice for it: the rewritten query's bytes, and its distinct rows
    → length (encode_query (rewritten_of cb pb' qb)) ≤ length rewritten'
    → length (rows_of cb vs (rewritten_of cb pb' qb)) ≤ length cells' / columns_of qb
    -- then the question is accepted with the longer list too, and no row is lost
    → let o = ask cb vs pb qb rewritten cells in let o' = ask cb vs pb' qb rewritten' cells' in
    (o'.answer.number ≡ 0) × (included (rows_given o) (rows_given o') ≡ true)

-- THE LABEL BOOK; proofs/Book.antt proves what follows.
-- DEMAND 1: o is ask's outcome, b the book before the call and r what the book call gives
pub record BookGrounds (o : Outcome) (b : Book) (r : BookOutcome) : Type 0 where
  -- ask's own refusals, 41 too, are the book's
  pub asked : (o.answer.number ≡ 0 → ⊥) → r.outcome ≡ o
  -- 53: ask accepts, and the targets, a row or the book's size are wrong; and the other way round
  pub ground : r.outcome.answer.number ≡ 53 → (o.answer.number ≡ 0) × (fails53 o b ≡ true)
  pub grounded : o.answer.number ≡ 0 → fails53 o b ≡ true → r.outcome ≡ record { answer = refuse 53 o.answer.cells; count = 0; rewritten = o.rewritten }
  -- every refusal leaves the book unchanged
  pub unchanged : (r.outcome.answer.number ≡ 0 → ⊥) → r.book ≡ b
  -- accepted: the outcome is ask's, and the book that of its rows
  pub accepted : r.outcome.answer.number ≡ 0 → r ≡ record { outcome = o; book = book_of (rows_in (answer_cells o)) }

abbrev pub Demand1Book : Type 0
Demand1Book = (cb : List ℕ) (vs : List ℤ) (pb qb rewritten : List ℕ) (cells : List ℤ) (b : Book) → BookGrounds (ask cb vs pb qb rewritten cells) b (label_book cb vs pb qb rewritten cells b)

-- the rows that the book reads are those of the question's meaning, in their order
abbrev pub BookRows : Type 0
BookRows = (cb : List ℕ) (vs : List ℤ) (pb qb rewritten : List ℕ) (cells : List ℤ)
    → let o = ask cb vs pb qb rewritten cells in o.answer.number ≡ 0 → o.answer.columns ≡ 3 → map row_cells (rows_in (answer_cells o)) ≡ rows_of cb vs (rewritten_of cb pb qb)

-- where a label's entry stands: its offer at k, its display from 7k to 7k + 6
pub record Laid (rows : List Row) : Type 0 where
  pub sizes : (length (book_of rows).offers ≡ 500) × (length (book_of rows).display ≡ 3500)
  pub offer-at : (k : ℕ) → k < 500 → get_or (book_of rows).offers k (pos 0) ≡ (entry_for rows k).offer
  pub display-at : (k : ℕ) → k < 500 → take 7 (drop (7 * k) (book_of rows).display) ≡ (entry_for rows k).display

-- DEMAND 3 for the label book: the premises are those of Demand3
abbrev pub Demand3Book : Type 0
Demand3Book = (cb cb' : List ℕ) (vs vs' : List ℤ) (pb qb rewritten : List ℕ) (cells : List ℤ) (lent : Book)
    → Kept cb vs → Kept cb' vs' → shape_of (catalogue_of cb) ≡ shape_of (catalogue_of cb')
    → (let n = (ask cb vs pb qb rewritten cells).answer.number in ((20 ≤ n) × (n ≤ 40) → ⊥) → Every (λ b. permitted_cut cb vs pb (query_of qb) b ≡ permitted_cut cb' vs' pb (query_of qb) b) (bindings_q (query_of qb)))
    → label_book cb vs pb qb rewritten cells lent ≡ label_book cb' vs' pb qb rewritten cells lent
