-- The examples: ONE table for both calls. First the starred ones of document 01 ("Shelf examples"), then further ones that pin what those leave open.
-- proofs/Shelf.antt proves the table by computation.
use Rattle.std.specs.Prelude.{ℕ, List, [], ◌∷◌, ◌++◌, ℤ, pos, negsuc, length, take, drop, replicate}
use Rattle.model.specs.Lists.{concat_map}
use Rattle.model.specs.Calls.{Outcome, evaluate, ask}

-- a catalogue's bytes with its values
pub record Collection : Type 0 where
  pub catalogue : List ℕ
  pub values : List ℤ

-- a call: of ask with permits, question, and how many bytes and cells are lent; of evaluate with question and cells
pub data Call : Type 0 where
  asks : List ℕ → List ℕ → ℕ → ℕ → Call
  evaluates : List ℕ → ℕ → Call

-- what it comes to
pub data Result : Type 0 where
  -- a refusal other than 41: zero counts, both buffers as lent
  refused : ℕ → Result
  -- 0 or 41, the rewritten bytes (of evaluate, none), the columns and the rows in the answer buffer; past these, as lent
  gives : ℕ → List ℕ → ℕ → List (List ℤ) → Result

pub record Example : Type 0 where
  pub over : Collection
  pub call : Call
  pub comes : Result

-- what is lent holds no 0 before the call
abbrev pub lent_bytes : Call → List ℕ
lent_bytes (asks pb qb n m) = replicate n 170
lent_bytes (evaluates qb m) = []

abbrev pub lent_cells : Call → List ℤ
lent_cells (asks pb qb n m) = replicate m (negsuc 76)
lent_cells (evaluates qb m) = replicate m (negsuc 76)

-- the model's outcome; the plain evaluator is lent no bytes and writes none
abbrev pub outcome : Collection → Call → Outcome
outcome d (asks pb qb n m) = ask d.catalogue d.values pb qb (lent_bytes (asks pb qb n m)) (lent_cells (asks pb qb n m))
outcome d (evaluates qb m) = record { answer = evaluate d.catalogue d.values qb (lent_cells (evaluates qb m)); count = 0; rewritten = [] }

-- the outcome that the table names
abbrev pub named : Call → Result → Outcome
named x (refused n) = record { answer = record { number = n; rows = 0; columns = 0; cells = lent_cells x }; count = 0; rewritten = lent_bytes x }
named x (gives n bs columns rows) =
    let cells = concat_map (λ r. r) rows in
    record { answer = record { number = n; rows = length rows; columns = columns; cells = cells ++ drop (length cells) (lent_cells x) }; count = length bs; rewritten = bs ++ drop (length bs) (lent_bytes x) }

-- EMPLOYEE of 000 (NAME, DEPT, SALARY, MANAGER) is relation 0, DEPARTMENT (DEPT, FLOOR#, #EMP, SALES) is 1
abbrev pub company_values : List ℤ
company_values =
    pos 1 ∷ pos 1 ∷ pos 10000 ∷ pos 2 ∷
    pos 2 ∷ pos 1 ∷ pos 15000 ∷ pos 8 ∷
    pos 3 ∷ pos 2 ∷ pos 12000 ∷ pos 5 ∷
    pos 4 ∷ pos 2 ∷ pos 14000 ∷ pos 7 ∷
    pos 5 ∷ pos 4 ∷ pos 20000 ∷ pos 6 ∷
    pos 6 ∷ pos 4 ∷ pos 40000 ∷ pos 0 ∷
    pos 1 ∷ negsuc 0 ∷ pos 10 ∷ pos 1000 ∷
    pos 2 ∷ pos 1 ∷ pos 5 ∷ pos 2000 ∷
    pos 3 ∷ pos 1 ∷ pos 16 ∷ pos 1500 ∷
    pos 4 ∷ pos 4 ∷ pos 10 ∷ pos 0 ∷
    pos 5 ∷ pos 2 ∷ pos 3 ∷ pos 0 ∷
    []

abbrev pub company : Collection
company = record { catalogue = 48 ∷ 4 ∷ 6 ∷ 0 ∷ 48 ∷ 4 ∷ 5 ∷ 0 ∷ []; values = company_values }

-- EMPLOYEE alone
abbrev pub employees : Collection
employees = record { catalogue = 48 ∷ 4 ∷ 6 ∷ 0 ∷ []; values = take 24 company_values }

-- one attribute with −3 and −4
abbrev pub pair : Collection
pair = record { catalogue = 48 ∷ 1 ∷ 2 ∷ 0 ∷ []; values = negsuc 2 ∷ negsuc 3 ∷ [] }

-- offers (article, rank, number)
abbrev pub offers : Collection
offers = record { catalogue = 48 ∷ 3 ∷ 2 ∷ 0 ∷ []; values = pos 7 ∷ pos 1 ∷ pos 11 ∷ pos 7 ∷ pos 1 ∷ pos 12 ∷ [] }

-- the same, the latest first
abbrev pub latest_offers : Collection
latest_offers = record { catalogue = 50 ∷ 3 ∷ 2 ∷ 0 ∷ []; values = offers.values }

-- a relation of kind 50 with 1 and 2, and a workspace with 2 and 3
abbrev pub latest_desk : Collection
latest_desk = record { catalogue = 50 ∷ 1 ∷ 2 ∷ 0 ∷ 49 ∷ 1 ∷ 2 ∷ 0 ∷ []; values = pos 1 ∷ pos 2 ∷ pos 2 ∷ pos 3 ∷ [] }

-- a stored relation with 1 and 2, and a workspace with 2 and 3
abbrev pub desk : Collection
desk = record { catalogue = 48 ∷ 1 ∷ 2 ∷ 0 ∷ 49 ∷ 1 ∷ 2 ∷ 0 ∷ []; values = pos 1 ∷ pos 2 ∷ pos 2 ∷ pos 3 ∷ [] }

-- a stored relation with 1 and 2, and one with no rows
abbrev pub bare : Collection
bare = record { catalogue = 48 ∷ 1 ∷ 2 ∷ 0 ∷ 48 ∷ 1 ∷ 0 ∷ 0 ∷ []; values = pos 1 ∷ pos 2 ∷ [] }

-- the same, and a workspace with 3
abbrev pub vacant : Collection
vacant = record { catalogue = 48 ∷ 1 ∷ 2 ∷ 0 ∷ 48 ∷ 1 ∷ 0 ∷ 0 ∷ 49 ∷ 1 ∷ 1 ∷ 0 ∷ []; values = pos 1 ∷ pos 2 ∷ pos 3 ∷ [] }

-- no catalogue, and a value too few
abbrev pub nothing : Collection
nothing = record { catalogue = []; values = pos 1 ∷ [] }

abbrev pub cut_short : Collection
cut_short = record { catalogue = 48 ∷ 1 ∷ 2 ∷ 0 ∷ []; values = pos 1 ∷ [] }

-- the permits of 3.3 of 000, and one for all of relation 0
abbrev pub jones : List ℕ
jones = 64 ∷ 0 ∷ 12 ∷ 0 ∷ 16 ∷ 64 ∷ 0 ∷ 11 ∷ 0 ∷ 21 ∷ 2 ∷ 33 ∷ 0 ∷ 0 ∷ 32 ∷ 5 ∷ 0 ∷ 0 ∷ 0 ∷ 64 ∷ 0 ∷ 13 ∷ 0 ∷ 22 ∷ 1 ∷ 0 ∷ 19 ∷ 21 ∷ 1 ∷ 33 ∷ 1 ∷ 0 ∷ 33 ∷ 0 ∷ 3 ∷ 21 ∷ 5 ∷ 33 ∷ 0 ∷ 2 ∷ 33 ∷ 1 ∷ 2 ∷ 64 ∷ 1 ∷ 255 ∷ 255 ∷ 21 ∷ 5 ∷ 33 ∷ 0 ∷ 3 ∷ 34 ∷ 3 ∷ 1 ∷ 1 ∷ 3 ∷ 16 ∷ []

abbrev pub wide : List ℕ
wide = 64 ∷ 0 ∷ 255 ∷ 255 ∷ 16 ∷ []

-- STARRED in document 01
abbrev pub starred : List Example
starred =
    -- 3.2 of 000: the rewritten question has 27 bytes; no rows
    record {
      over = company;
      call = asks (64 ∷ 0 ∷ 15 ∷ 0 ∷ 21 ∷ 1 ∷ 33 ∷ 0 ∷ 0 ∷ 32 ∷ 1 ∷ 0 ∷ 0 ∷ 0 ∷ []) (1 ∷ 0 ∷ 0 ∷ 33 ∷ 0 ∷ 2 ∷ 21 ∷ 1 ∷ 33 ∷ 0 ∷ 0 ∷ 32 ∷ 2 ∷ 0 ∷ 0 ∷ 0 ∷ []) 80 8;
      comes = gives 0 (1 ∷ 0 ∷ 0 ∷ 33 ∷ 0 ∷ 2 ∷ 19 ∷ 21 ∷ 1 ∷ 33 ∷ 0 ∷ 0 ∷ 32 ∷ 2 ∷ 0 ∷ 0 ∷ 0 ∷ 21 ∷ 1 ∷ 33 ∷ 0 ∷ 0 ∷ 32 ∷ 1 ∷ 0 ∷ 0 ∷ 0 ∷ []) 1 [];
    } ∷
    -- 2.2 plain: 3, 4
    record {
      over = company;
      call = evaluates (1 ∷ 0 ∷ 0 ∷ 1 ∷ 1 ∷ 1 ∷ 33 ∷ 0 ∷ 0 ∷ 19 ∷ 21 ∷ 1 ∷ 33 ∷ 0 ∷ 1 ∷ 33 ∷ 1 ∷ 0 ∷ 21 ∷ 1 ∷ 33 ∷ 1 ∷ 1 ∷ 32 ∷ 1 ∷ 0 ∷ 0 ∷ 0 ∷ []) 8;
      comes = gives 0 [] 1 ((pos 3 ∷ []) ∷ (pos 4 ∷ []) ∷ []);
    } ∷
    -- distinct DEPT plain: 1, 2, 4
    record { over = company; call = evaluates (1 ∷ 0 ∷ 0 ∷ 33 ∷ 0 ∷ 1 ∷ 16 ∷ []) 8; comes = gives 0 [] 1 ((pos 1 ∷ []) ∷ (pos 2 ∷ []) ∷ (pos 4 ∷ []) ∷ []) } ∷
    -- 3.4: six salaries
    record {
      over = company;
      call = asks jones (1 ∷ 0 ∷ 0 ∷ 33 ∷ 0 ∷ 2 ∷ 16 ∷ []) 80 8;
      comes = gives 0 (1 ∷ 0 ∷ 0 ∷ 33 ∷ 0 ∷ 2 ∷ 19 ∷ 16 ∷ 20 ∷ 16 ∷ 22 ∷ 8 ∷ 0 ∷ 19 ∷ 21 ∷ 1 ∷ 33 ∷ 8 ∷ 0 ∷ 33 ∷ 0 ∷ 3 ∷ 21 ∷ 5 ∷ 33 ∷ 0 ∷ 2 ∷ 33 ∷ 8 ∷ 2 ∷ []) 1 ((pos 10000 ∷ []) ∷ (pos 15000 ∷ []) ∷ (pos 12000 ∷ []) ∷ (pos 14000 ∷ []) ∷ (pos 20000 ∷ []) ∷ (pos 40000 ∷ []) ∷ []);
    } ∷
    -- 3.5: one row, 5
    record {
      over = company;
      call = asks jones (1 ∷ 0 ∷ 0 ∷ 33 ∷ 0 ∷ 3 ∷ 21 ∷ 1 ∷ 33 ∷ 0 ∷ 0 ∷ 32 ∷ 3 ∷ 0 ∷ 0 ∷ 0 ∷ []) 80 8;
      comes = gives 0 (1 ∷ 0 ∷ 0 ∷ 33 ∷ 0 ∷ 3 ∷ 19 ∷ 21 ∷ 1 ∷ 33 ∷ 0 ∷ 0 ∷ 32 ∷ 3 ∷ 0 ∷ 0 ∷ 0 ∷ 20 ∷ 21 ∷ 2 ∷ 33 ∷ 0 ∷ 0 ∷ 32 ∷ 5 ∷ 0 ∷ 0 ∷ 0 ∷ 22 ∷ 8 ∷ 0 ∷ 19 ∷ 21 ∷ 1 ∷ 33 ∷ 8 ∷ 0 ∷ 33 ∷ 0 ∷ 3 ∷ 21 ∷ 5 ∷ 33 ∷ 0 ∷ 2 ∷ 33 ∷ 8 ∷ 2 ∷ []) 1 ((pos 5 ∷ []) ∷ []);
    } ∷
    -- 3.6: no rows; both variables are guarded
    record {
      over = company;
      call = asks jones (1 ∷ 0 ∷ 0 ∷ 1 ∷ 1 ∷ 0 ∷ 33 ∷ 0 ∷ 0 ∷ 19 ∷ 21 ∷ 1 ∷ 33 ∷ 0 ∷ 3 ∷ 33 ∷ 1 ∷ 0 ∷ 21 ∷ 3 ∷ 33 ∷ 1 ∷ 2 ∷ 33 ∷ 0 ∷ 2 ∷ []) 80 8;
      comes = gives 0 (1 ∷ 0 ∷ 0 ∷ 1 ∷ 1 ∷ 0 ∷ 33 ∷ 0 ∷ 0 ∷ 19 ∷ 19 ∷ 19 ∷ 21 ∷ 1 ∷ 33 ∷ 0 ∷ 3 ∷ 33 ∷ 1 ∷ 0 ∷ 21 ∷ 3 ∷ 33 ∷ 1 ∷ 2 ∷ 33 ∷ 0 ∷ 2 ∷ 22 ∷ 8 ∷ 0 ∷ 19 ∷ 21 ∷ 1 ∷ 33 ∷ 8 ∷ 0 ∷ 33 ∷ 0 ∷ 3 ∷ 21 ∷ 5 ∷ 33 ∷ 0 ∷ 2 ∷ 33 ∷ 8 ∷ 2 ∷ 22 ∷ 9 ∷ 0 ∷ 19 ∷ 21 ∷ 1 ∷ 33 ∷ 9 ∷ 0 ∷ 33 ∷ 1 ∷ 3 ∷ 21 ∷ 5 ∷ 33 ∷ 1 ∷ 2 ∷ 33 ∷ 9 ∷ 2 ∷ []) 1 [];
    } ∷
    -- DEPT with SALARY: 33
    record { over = company; call = asks jones (1 ∷ 0 ∷ 0 ∷ 33 ∷ 0 ∷ 1 ∷ 33 ∷ 0 ∷ 2 ∷ 16 ∷ []) 80 8; comes = refused 33 } ∷
    -- a DEPARTMENT question over DEPT: 1, 2, 3
    record {
      over = company;
      call = asks jones (1 ∷ 0 ∷ 1 ∷ 33 ∷ 0 ∷ 0 ∷ 16 ∷ []) 80 8;
      comes = gives 0 (1 ∷ 0 ∷ 1 ∷ 33 ∷ 0 ∷ 0 ∷ 19 ∷ 16 ∷ 21 ∷ 5 ∷ 33 ∷ 0 ∷ 3 ∷ 34 ∷ 3 ∷ 8 ∷ 1 ∷ 3 ∷ 16 ∷ []) 1 ((pos 1 ∷ []) ∷ (pos 2 ∷ []) ∷ (pos 3 ∷ []) ∷ []);
    } ∷
    -- AVE of −3 and −4 as target: −4 since change 4 of document 02, half away from zero (document 01 has −3)
    record { over = pair; call = evaluates (34 ∷ 3 ∷ 0 ∷ 0 ∷ 0 ∷ 16 ∷ 16 ∷ []) 8; comes = gives 0 [] 1 ((negsuc 3 ∷ []) ∷ []) } ∷
    -- that AVE is below −3 when compared
    record {
      over = pair;
      call = evaluates (34 ∷ 3 ∷ 0 ∷ 0 ∷ 0 ∷ 16 ∷ 21 ∷ 3 ∷ 34 ∷ 3 ∷ 1 ∷ 0 ∷ 0 ∷ 16 ∷ 32 ∷ 253 ∷ 255 ∷ 255 ∷ 255 ∷ []) 8;
      comes = gives 0 [] 1 ((negsuc 3 ∷ []) ∷ []);
    } ∷
    -- MAX over no rows: none
    record { over = pair; call = evaluates (34 ∷ 4 ∷ 0 ∷ 0 ∷ 0 ∷ 17 ∷ 16 ∷ []) 8; comes = gives 0 [] 1 [] } ∷
    -- number where rank equals MIN of rank: 11, then 12
    record {
      over = offers;
      call = evaluates (1 ∷ 0 ∷ 0 ∷ 33 ∷ 0 ∷ 2 ∷ 21 ∷ 1 ∷ 33 ∷ 0 ∷ 1 ∷ 34 ∷ 5 ∷ 1 ∷ 0 ∷ 1 ∷ 16 ∷ []) 8;
      comes = gives 0 [] 1 ((pos 11 ∷ []) ∷ (pos 12 ∷ []) ∷ []);
    } ∷
    []

-- further ones: 4.2, change 6, the meaning, the rewriting, the host's 40 and 41
abbrev pub further : List Example
further =
    -- 4.2 of 000, over EMPLOYEE alone: the average salary of the toy department
    record {
      over = employees;
      call = asks (64 ∷ 0 ∷ 4 ∷ 0 ∷ 21 ∷ 1 ∷ 33 ∷ 0 ∷ 1 ∷ 32 ∷ 1 ∷ 0 ∷ 0 ∷ 0 ∷ []) (34 ∷ 3 ∷ 0 ∷ 0 ∷ 2 ∷ 16 ∷ 16 ∷ []) 80 8;
      comes = gives 0 (34 ∷ 3 ∷ 0 ∷ 0 ∷ 2 ∷ 19 ∷ 16 ∷ 21 ∷ 1 ∷ 33 ∷ 0 ∷ 1 ∷ 32 ∷ 1 ∷ 0 ∷ 0 ∷ 0 ∷ 16 ∷ []) 1 ((pos 12500 ∷ []) ∷ []);
    } ∷
    -- NO ACCESS to SALARY and MANAGER bars a question over SALARY, although another permit opens all
    record { over = company; call = asks (64 ∷ 0 ∷ 12 ∷ 0 ∷ 17 ∷ 64 ∷ 0 ∷ 255 ∷ 255 ∷ 16 ∷ []) (1 ∷ 0 ∷ 0 ∷ 33 ∷ 0 ∷ 2 ∷ 16 ∷ []) 80 8; comes = refused 33 } ∷
    -- another column of that relation is answered, and FALSE stands in no guard
    record {
      over = company;
      call = asks (64 ∷ 0 ∷ 12 ∷ 0 ∷ 17 ∷ 64 ∷ 0 ∷ 255 ∷ 255 ∷ 16 ∷ []) (1 ∷ 0 ∷ 0 ∷ 33 ∷ 0 ∷ 0 ∷ 16 ∷ []) 80 8;
      comes = gives 0 (1 ∷ 0 ∷ 0 ∷ 33 ∷ 0 ∷ 0 ∷ 19 ∷ 16 ∷ 16 ∷ []) 1 ((pos 1 ∷ []) ∷ (pos 2 ∷ []) ∷ (pos 3 ∷ []) ∷ (pos 4 ∷ []) ∷ (pos 5 ∷ []) ∷ (pos 6 ∷ []) ∷ []);
    } ∷
    -- with an empty S, EMPLOYEE is not barred, and the permit that is not NO ACCESS applies: five departments
    record {
      over = company;
      call = asks (64 ∷ 0 ∷ 255 ∷ 255 ∷ 17 ∷ 64 ∷ 0 ∷ 1 ∷ 0 ∷ 16 ∷ 64 ∷ 1 ∷ 255 ∷ 255 ∷ 16 ∷ []) (1 ∷ 0 ∷ 0 ∷ 1 ∷ 1 ∷ 1 ∷ 33 ∷ 1 ∷ 0 ∷ 16 ∷ []) 80 8;
      comes = gives 0 (1 ∷ 0 ∷ 0 ∷ 1 ∷ 1 ∷ 1 ∷ 33 ∷ 1 ∷ 0 ∷ 19 ∷ 19 ∷ 16 ∷ 16 ∷ 16 ∷ []) 1 ((pos 1 ∷ []) ∷ (pos 2 ∷ []) ∷ (pos 3 ∷ []) ∷ (pos 4 ∷ []) ∷ (pos 5 ∷ []) ∷ []);
    } ∷
    -- an empty S that only NO ACCESS covers
    record {
      over = company;
      call = asks (64 ∷ 0 ∷ 255 ∷ 255 ∷ 17 ∷ 64 ∷ 1 ∷ 255 ∷ 255 ∷ 16 ∷ []) (1 ∷ 0 ∷ 0 ∷ 1 ∷ 1 ∷ 1 ∷ 33 ∷ 1 ∷ 0 ∷ 16 ∷ []) 80 8;
      comes = refused 33;
    } ∷
    -- NO ACCESS to DEPARTMENT bars no EMPLOYEE
    record {
      over = company;
      call = asks (64 ∷ 1 ∷ 255 ∷ 255 ∷ 17 ∷ 64 ∷ 0 ∷ 255 ∷ 255 ∷ 16 ∷ []) (1 ∷ 0 ∷ 0 ∷ 33 ∷ 0 ∷ 2 ∷ 16 ∷ []) 80 8;
      comes = gives 0 (1 ∷ 0 ∷ 0 ∷ 33 ∷ 0 ∷ 2 ∷ 19 ∷ 16 ∷ 16 ∷ []) 1 ((pos 10000 ∷ []) ∷ (pos 15000 ∷ []) ∷ (pos 12000 ∷ []) ∷ (pos 14000 ∷ []) ∷ (pos 20000 ∷ []) ∷ (pos 40000 ∷ []) ∷ []);
    } ∷
    -- NOT TRUE is never met and no NO ACCESS: it applies and enters the guard
    record {
      over = company;
      call = asks (64 ∷ 0 ∷ 255 ∷ 255 ∷ 18 ∷ 16 ∷ []) (1 ∷ 0 ∷ 0 ∷ 33 ∷ 0 ∷ 0 ∷ 16 ∷ []) 80 8;
      comes = gives 0 (1 ∷ 0 ∷ 0 ∷ 33 ∷ 0 ∷ 0 ∷ 19 ∷ 16 ∷ 18 ∷ 16 ∷ []) 1 [];
    } ∷
    -- #EMP of the departments, one of them twice, in order of first meeting
    record {
      over = company;
      call = evaluates (1 ∷ 0 ∷ 1 ∷ 33 ∷ 0 ∷ 2 ∷ 16 ∷ []) 8;
      comes = gives 0 [] 1 ((pos 10 ∷ []) ∷ (pos 5 ∷ []) ∷ (pos 16 ∷ []) ∷ (pos 3 ∷ []) ∷ []);
    } ∷
    -- its SUM, the equal values both taken
    record { over = company; call = evaluates (34 ∷ 2 ∷ 0 ∷ 1 ∷ 2 ∷ 16 ∷ 16 ∷ []) 8; comes = gives 0 [] 1 ((pos 44 ∷ []) ∷ []) } ∷
    -- that AVE is above −4 when compared, since only the target is rounded; SUM and MAX as targets stay −7 and −3
    record {
      over = pair;
      call = evaluates (34 ∷ 2 ∷ 0 ∷ 0 ∷ 0 ∷ 16 ∷ 34 ∷ 4 ∷ 1 ∷ 0 ∷ 0 ∷ 16 ∷ 21 ∷ 5 ∷ 34 ∷ 3 ∷ 2 ∷ 0 ∷ 0 ∷ 16 ∷ 32 ∷ 252 ∷ 255 ∷ 255 ∷ 255 ∷ []) 8;
      comes = gives 0 [] 2 ((negsuc 6 ∷ negsuc 2 ∷ []) ∷ []);
    } ∷
    -- COUNT, MAX and MIN over rows: six DEPTs, equal ones counted each time, the largest SALARY and the smallest
    record {
      over = company;
      call = evaluates (34 ∷ 1 ∷ 0 ∷ 0 ∷ 1 ∷ 16 ∷ 34 ∷ 4 ∷ 1 ∷ 0 ∷ 2 ∷ 16 ∷ 34 ∷ 5 ∷ 2 ∷ 0 ∷ 2 ∷ 16 ∷ 16 ∷ []) 8;
      comes = gives 0 [] 3 ((pos 6 ∷ pos 40000 ∷ pos 10000 ∷ []) ∷ []);
    } ∷
    -- MANAGER ≤ 2 OR ≥ 8: both ends are in
    record {
      over = company;
      call = evaluates (1 ∷ 0 ∷ 0 ∷ 33 ∷ 0 ∷ 0 ∷ 20 ∷ 21 ∷ 4 ∷ 33 ∷ 0 ∷ 3 ∷ 32 ∷ 2 ∷ 0 ∷ 0 ∷ 0 ∷ 21 ∷ 6 ∷ 33 ∷ 0 ∷ 3 ∷ 32 ∷ 8 ∷ 0 ∷ 0 ∷ 0 ∷ []) 8;
      comes = gives 0 [] 1 ((pos 1 ∷ []) ∷ (pos 2 ∷ []) ∷ (pos 6 ∷ []) ∷ []);
    } ∷
    -- NOT and SOME: departments that no employee is of
    record {
      over = company;
      call = evaluates (1 ∷ 0 ∷ 1 ∷ 33 ∷ 0 ∷ 0 ∷ 18 ∷ 22 ∷ 1 ∷ 0 ∷ 21 ∷ 1 ∷ 33 ∷ 1 ∷ 1 ∷ 33 ∷ 0 ∷ 0 ∷ []) 8;
      comes = gives 0 [] 1 ((pos 3 ∷ []) ∷ (pos 5 ∷ []) ∷ []);
    } ∷
    -- two RANGEs, the last fastest; eight cells are just enough
    record {
      over = pair;
      call = evaluates (1 ∷ 0 ∷ 0 ∷ 1 ∷ 1 ∷ 0 ∷ 33 ∷ 0 ∷ 0 ∷ 33 ∷ 1 ∷ 0 ∷ 16 ∷ []) 8;
      comes = gives 0 [] 2 ((negsuc 2 ∷ negsuc 2 ∷ []) ∷ (negsuc 2 ∷ negsuc 3 ∷ []) ∷ (negsuc 3 ∷ negsuc 2 ∷ []) ∷ (negsuc 3 ∷ negsuc 3 ∷ []) ∷ []);
    } ∷
    -- a stored relation is guarded, the workspace beside it is not, by RANGE or by COUNT
    record {
      over = desk;
      call = asks (64 ∷ 0 ∷ 1 ∷ 0 ∷ 21 ∷ 5 ∷ 33 ∷ 0 ∷ 0 ∷ 32 ∷ 1 ∷ 0 ∷ 0 ∷ 0 ∷ []) (1 ∷ 0 ∷ 0 ∷ 1 ∷ 1 ∷ 1 ∷ 33 ∷ 0 ∷ 0 ∷ 33 ∷ 1 ∷ 0 ∷ 34 ∷ 1 ∷ 2 ∷ 1 ∷ 0 ∷ 16 ∷ 16 ∷ []) 80 8;
      comes = gives 0 (1 ∷ 0 ∷ 0 ∷ 1 ∷ 1 ∷ 1 ∷ 33 ∷ 0 ∷ 0 ∷ 33 ∷ 1 ∷ 0 ∷ 34 ∷ 1 ∷ 2 ∷ 1 ∷ 0 ∷ 16 ∷ 19 ∷ 16 ∷ 21 ∷ 5 ∷ 33 ∷ 0 ∷ 0 ∷ 32 ∷ 1 ∷ 0 ∷ 0 ∷ 0 ∷ []) 3 ((pos 2 ∷ pos 2 ∷ pos 2 ∷ []) ∷ (pos 2 ∷ pos 3 ∷ pos 2 ∷ []) ∷ []);
    } ∷
    -- three applying permits: the OR nests to the right, in list order; one that binds 3 before 1 gives 8 to 3 and 9 to 1
    record {
      over = pair;
      call = asks (64 ∷ 0 ∷ 1 ∷ 0 ∷ 22 ∷ 3 ∷ 0 ∷ 22 ∷ 1 ∷ 0 ∷ 21 ∷ 5 ∷ 33 ∷ 3 ∷ 0 ∷ 33 ∷ 1 ∷ 0 ∷ 64 ∷ 0 ∷ 1 ∷ 0 ∷ 18 ∷ 17 ∷ 64 ∷ 0 ∷ 1 ∷ 0 ∷ 22 ∷ 1 ∷ 0 ∷ 16 ∷ []) (1 ∷ 0 ∷ 0 ∷ 33 ∷ 0 ∷ 0 ∷ 16 ∷ []) 80 8;
      comes = gives 0 (1 ∷ 0 ∷ 0 ∷ 33 ∷ 0 ∷ 0 ∷ 19 ∷ 16 ∷ 20 ∷ 22 ∷ 8 ∷ 0 ∷ 22 ∷ 9 ∷ 0 ∷ 21 ∷ 5 ∷ 33 ∷ 8 ∷ 0 ∷ 33 ∷ 9 ∷ 0 ∷ 20 ∷ 18 ∷ 17 ∷ 22 ∷ 10 ∷ 0 ∷ 16 ∷ []) 1 ((negsuc 2 ∷ []) ∷ (negsuc 3 ∷ []) ∷ []);
    } ∷
    -- new numbers in byte order: 8 in the target, 9 in the inner SOME, 10 in the outer one, 11 in the range guard
    record {
      over = pair;
      call = asks (64 ∷ 0 ∷ 1 ∷ 0 ∷ 22 ∷ 1 ∷ 0 ∷ 16 ∷ []) (1 ∷ 0 ∷ 0 ∷ 34 ∷ 1 ∷ 1 ∷ 0 ∷ 0 ∷ 16 ∷ 22 ∷ 2 ∷ 0 ∷ 22 ∷ 3 ∷ 0 ∷ 16 ∷ []) 80 8;
      comes = gives 0 (1 ∷ 0 ∷ 0 ∷ 34 ∷ 1 ∷ 1 ∷ 0 ∷ 0 ∷ 19 ∷ 16 ∷ 22 ∷ 8 ∷ 0 ∷ 16 ∷ 19 ∷ 22 ∷ 2 ∷ 0 ∷ 19 ∷ 22 ∷ 3 ∷ 0 ∷ 19 ∷ 16 ∷ 22 ∷ 9 ∷ 0 ∷ 16 ∷ 22 ∷ 10 ∷ 0 ∷ 16 ∷ 22 ∷ 11 ∷ 0 ∷ 16 ∷ []) 1 ((pos 2 ∷ []) ∷ []);
    } ∷
    -- rows below another one, by a permit's SOME: the guard inside the question's SOME takes 8, the range guard 9
    record {
      over = pair;
      call = asks (64 ∷ 0 ∷ 1 ∷ 0 ∷ 22 ∷ 1 ∷ 0 ∷ 21 ∷ 5 ∷ 33 ∷ 1 ∷ 0 ∷ 33 ∷ 0 ∷ 0 ∷ []) (1 ∷ 0 ∷ 0 ∷ 33 ∷ 0 ∷ 0 ∷ 22 ∷ 1 ∷ 0 ∷ 21 ∷ 1 ∷ 33 ∷ 1 ∷ 0 ∷ 33 ∷ 0 ∷ 0 ∷ []) 80 8;
      comes = gives 0 (1 ∷ 0 ∷ 0 ∷ 33 ∷ 0 ∷ 0 ∷ 19 ∷ 22 ∷ 1 ∷ 0 ∷ 19 ∷ 21 ∷ 1 ∷ 33 ∷ 1 ∷ 0 ∷ 33 ∷ 0 ∷ 0 ∷ 22 ∷ 8 ∷ 0 ∷ 21 ∷ 5 ∷ 33 ∷ 8 ∷ 0 ∷ 33 ∷ 1 ∷ 0 ∷ 22 ∷ 9 ∷ 0 ∷ 21 ∷ 5 ∷ 33 ∷ 9 ∷ 0 ∷ 33 ∷ 0 ∷ 0 ∷ []) 1 ((negsuc 3 ∷ []) ∷ []);
    } ∷
    -- a permit's SOME over a relation with no rows harms no other permit of the OR
    record {
      over = bare;
      call = asks (64 ∷ 0 ∷ 1 ∷ 0 ∷ 22 ∷ 1 ∷ 1 ∷ 16 ∷ 64 ∷ 0 ∷ 1 ∷ 0 ∷ 16 ∷ []) (1 ∷ 0 ∷ 0 ∷ 33 ∷ 0 ∷ 0 ∷ 16 ∷ []) 80 8;
      comes = gives 0 (1 ∷ 0 ∷ 0 ∷ 33 ∷ 0 ∷ 0 ∷ 19 ∷ 16 ∷ 20 ∷ 22 ∷ 8 ∷ 1 ∷ 16 ∷ 16 ∷ []) 1 ((pos 1 ∷ []) ∷ (pos 2 ∷ []) ∷ []);
    } ∷
    -- two masks are not added up
    record { over = offers; call = asks (64 ∷ 0 ∷ 1 ∷ 0 ∷ 16 ∷ 64 ∷ 0 ∷ 2 ∷ 0 ∷ 16 ∷ []) (1 ∷ 0 ∷ 0 ∷ 33 ∷ 0 ∷ 0 ∷ 33 ∷ 0 ∷ 1 ∷ 16 ∷ []) 80 8; comes = refused 33 } ∷
    -- under kind 50 number where rank equals MIN of rank: 12, then 11
    record {
      over = latest_offers;
      call = evaluates (1 ∷ 0 ∷ 0 ∷ 33 ∷ 0 ∷ 2 ∷ 21 ∷ 1 ∷ 33 ∷ 0 ∷ 1 ∷ 34 ∷ 5 ∷ 1 ∷ 0 ∷ 1 ∷ 16 ∷ []) 8;
      comes = gives 0 [] 1 ((pos 12 ∷ []) ∷ (pos 11 ∷ []) ∷ []);
    } ∷
    -- kind 50 is guarded, and its permitted rows are met from the last on; the workspace beside it is met from its first row on
    record {
      over = latest_desk;
      call = asks wide (1 ∷ 0 ∷ 0 ∷ 1 ∷ 1 ∷ 1 ∷ 33 ∷ 0 ∷ 0 ∷ 33 ∷ 1 ∷ 0 ∷ 16 ∷ []) 80 8;
      comes = gives 0 (1 ∷ 0 ∷ 0 ∷ 1 ∷ 1 ∷ 1 ∷ 33 ∷ 0 ∷ 0 ∷ 33 ∷ 1 ∷ 0 ∷ 19 ∷ 16 ∷ 16 ∷ []) 2 ((pos 2 ∷ pos 2 ∷ []) ∷ (pos 2 ∷ pos 3 ∷ []) ∷ (pos 1 ∷ pos 2 ∷ []) ∷ (pos 1 ∷ pos 3 ∷ []) ∷ []);
    } ∷
    record { over = latest_desk; call = asks [] (1 ∷ 0 ∷ 0 ∷ 33 ∷ 0 ∷ 0 ∷ 16 ∷ []) 80 8; comes = refused 33 } ∷
    -- the rewritten question is just as long as its buffer
    record {
      over = pair;
      call = asks wide (1 ∷ 0 ∷ 0 ∷ 33 ∷ 0 ∷ 0 ∷ 16 ∷ []) 9 8;
      comes = gives 0 (1 ∷ 0 ∷ 0 ∷ 33 ∷ 0 ∷ 0 ∷ 19 ∷ 16 ∷ 16 ∷ []) 1 ((negsuc 2 ∷ []) ∷ (negsuc 3 ∷ []) ∷ []);
    } ∷
    -- and one byte longer: 40, both buffers as lent, although the cells are too few as well
    record { over = pair; call = asks wide (1 ∷ 0 ∷ 0 ∷ 33 ∷ 0 ∷ 0 ∷ 16 ∷ []) 8 1; comes = refused 40 } ∷
    -- 41: one row fits, and the cell that is left stays
    record {
      over = pair;
      call = asks wide (1 ∷ 0 ∷ 0 ∷ 33 ∷ 0 ∷ 0 ∷ 33 ∷ 0 ∷ 0 ∷ 16 ∷ []) 80 3;
      comes = gives 41 (1 ∷ 0 ∷ 0 ∷ 33 ∷ 0 ∷ 0 ∷ 33 ∷ 0 ∷ 0 ∷ 19 ∷ 16 ∷ 16 ∷ []) 2 ((negsuc 2 ∷ negsuc 2 ∷ []) ∷ []);
    } ∷
    -- one permitted row and one cell: it fits, whatever else there is
    record {
      over = pair;
      call = asks (64 ∷ 0 ∷ 1 ∷ 0 ∷ 21 ∷ 3 ∷ 33 ∷ 0 ∷ 0 ∷ 32 ∷ 253 ∷ 255 ∷ 255 ∷ 255 ∷ []) (1 ∷ 0 ∷ 0 ∷ 33 ∷ 0 ∷ 0 ∷ 16 ∷ []) 80 1;
      comes = gives 0 (1 ∷ 0 ∷ 0 ∷ 33 ∷ 0 ∷ 0 ∷ 19 ∷ 16 ∷ 21 ∷ 3 ∷ 33 ∷ 0 ∷ 0 ∷ 32 ∷ 253 ∷ 255 ∷ 255 ∷ 255 ∷ []) 1 ((negsuc 3 ∷ []) ∷ []);
    } ∷
    -- no cell: 41 if there is a row
    record { over = pair; call = evaluates (1 ∷ 0 ∷ 0 ∷ 33 ∷ 0 ∷ 0 ∷ 16 ∷ []) 0; comes = gives 41 [] 1 [] } ∷
    -- and accepted if there is none
    record { over = pair; call = evaluates (1 ∷ 0 ∷ 0 ∷ 33 ∷ 0 ∷ 0 ∷ 17 ∷ []) 0; comes = gives 0 [] 1 [] } ∷
    -- plain, one row fits
    record { over = pair; call = evaluates (1 ∷ 0 ∷ 0 ∷ 33 ∷ 0 ∷ 0 ∷ 33 ∷ 0 ∷ 0 ∷ 16 ∷ []) 3; comes = gives 41 [] 2 ((negsuc 2 ∷ negsuc 2 ∷ []) ∷ []) } ∷
    []

-- change 2 of document 02: AVE, MAX and MIN over no rows are nothing
abbrev pub valueless : List Example
valueless =
    -- AVE = MAX, both over no rows: false
    record { over = bare; call = evaluates (34 ∷ 1 ∷ 7 ∷ 0 ∷ 0 ∷ 16 ∷ 21 ∷ 1 ∷ 34 ∷ 3 ∷ 0 ∷ 1 ∷ 0 ∷ 16 ∷ 34 ∷ 4 ∷ 1 ∷ 1 ∷ 0 ∷ 16 ∷ []) 8; comes = gives 0 [] 1 [] } ∷
    -- AVE ≠ MAX: false as well
    record { over = bare; call = evaluates (34 ∷ 1 ∷ 7 ∷ 0 ∷ 0 ∷ 16 ∷ 21 ∷ 2 ∷ 34 ∷ 3 ∷ 0 ∷ 1 ∷ 0 ∷ 16 ∷ 34 ∷ 4 ∷ 1 ∷ 1 ∷ 0 ∷ 16 ∷ []) 8; comes = gives 0 [] 1 [] } ∷
    -- NOT of either is true
    record { over = bare; call = evaluates (34 ∷ 1 ∷ 7 ∷ 0 ∷ 0 ∷ 16 ∷ 19 ∷ 18 ∷ 21 ∷ 1 ∷ 34 ∷ 3 ∷ 0 ∷ 1 ∷ 0 ∷ 16 ∷ 34 ∷ 4 ∷ 1 ∷ 1 ∷ 0 ∷ 16 ∷ 18 ∷ 21 ∷ 2 ∷ 34 ∷ 3 ∷ 2 ∷ 1 ∷ 0 ∷ 16 ∷ 34 ∷ 4 ∷ 3 ∷ 1 ∷ 0 ∷ 16 ∷ []) 8; comes = gives 0 [] 1 ((pos 2 ∷ []) ∷ []) } ∷
    -- MIN over no rows is not 0, and no operator holds of it and 0
    record { over = bare; call = evaluates (34 ∷ 1 ∷ 7 ∷ 0 ∷ 0 ∷ 16 ∷ 20 ∷ 21 ∷ 1 ∷ 34 ∷ 5 ∷ 1 ∷ 1 ∷ 0 ∷ 16 ∷ 32 ∷ 0 ∷ 0 ∷ 0 ∷ 0 ∷ 20 ∷ 21 ∷ 2 ∷ 34 ∷ 5 ∷ 2 ∷ 1 ∷ 0 ∷ 16 ∷ 32 ∷ 0 ∷ 0 ∷ 0 ∷ 0 ∷ 20 ∷ 21 ∷ 3 ∷ 34 ∷ 5 ∷ 3 ∷ 1 ∷ 0 ∷ 16 ∷ 32 ∷ 0 ∷ 0 ∷ 0 ∷ 0 ∷ 20 ∷ 21 ∷ 4 ∷ 34 ∷ 5 ∷ 4 ∷ 1 ∷ 0 ∷ 16 ∷ 32 ∷ 0 ∷ 0 ∷ 0 ∷ 0 ∷ 20 ∷ 21 ∷ 5 ∷ 34 ∷ 5 ∷ 5 ∷ 1 ∷ 0 ∷ 16 ∷ 32 ∷ 0 ∷ 0 ∷ 0 ∷ 0 ∷ 21 ∷ 6 ∷ 34 ∷ 5 ∷ 6 ∷ 1 ∷ 0 ∷ 16 ∷ 32 ∷ 0 ∷ 0 ∷ 0 ∷ 0 ∷ []) 8; comes = gives 0 [] 1 [] } ∷
    -- nor of 0 and it
    record { over = bare; call = evaluates (34 ∷ 1 ∷ 7 ∷ 0 ∷ 0 ∷ 16 ∷ 20 ∷ 21 ∷ 1 ∷ 32 ∷ 0 ∷ 0 ∷ 0 ∷ 0 ∷ 34 ∷ 5 ∷ 1 ∷ 1 ∷ 0 ∷ 16 ∷ 20 ∷ 21 ∷ 2 ∷ 32 ∷ 0 ∷ 0 ∷ 0 ∷ 0 ∷ 34 ∷ 5 ∷ 2 ∷ 1 ∷ 0 ∷ 16 ∷ 20 ∷ 21 ∷ 3 ∷ 32 ∷ 0 ∷ 0 ∷ 0 ∷ 0 ∷ 34 ∷ 5 ∷ 3 ∷ 1 ∷ 0 ∷ 16 ∷ 20 ∷ 21 ∷ 4 ∷ 32 ∷ 0 ∷ 0 ∷ 0 ∷ 0 ∷ 34 ∷ 5 ∷ 4 ∷ 1 ∷ 0 ∷ 16 ∷ 20 ∷ 21 ∷ 5 ∷ 32 ∷ 0 ∷ 0 ∷ 0 ∷ 0 ∷ 34 ∷ 5 ∷ 5 ∷ 1 ∷ 0 ∷ 16 ∷ 21 ∷ 6 ∷ 32 ∷ 0 ∷ 0 ∷ 0 ∷ 0 ∷ 34 ∷ 5 ∷ 6 ∷ 1 ∷ 0 ∷ 16 ∷ []) 8; comes = gives 0 [] 1 [] } ∷
    -- so NOT of all six is true
    record { over = bare; call = evaluates (34 ∷ 1 ∷ 7 ∷ 0 ∷ 0 ∷ 16 ∷ 18 ∷ 20 ∷ 21 ∷ 1 ∷ 34 ∷ 5 ∷ 1 ∷ 1 ∷ 0 ∷ 16 ∷ 32 ∷ 0 ∷ 0 ∷ 0 ∷ 0 ∷ 20 ∷ 21 ∷ 2 ∷ 34 ∷ 5 ∷ 2 ∷ 1 ∷ 0 ∷ 16 ∷ 32 ∷ 0 ∷ 0 ∷ 0 ∷ 0 ∷ 20 ∷ 21 ∷ 3 ∷ 34 ∷ 5 ∷ 3 ∷ 1 ∷ 0 ∷ 16 ∷ 32 ∷ 0 ∷ 0 ∷ 0 ∷ 0 ∷ 20 ∷ 21 ∷ 4 ∷ 34 ∷ 5 ∷ 4 ∷ 1 ∷ 0 ∷ 16 ∷ 32 ∷ 0 ∷ 0 ∷ 0 ∷ 0 ∷ 20 ∷ 21 ∷ 5 ∷ 34 ∷ 5 ∷ 5 ∷ 1 ∷ 0 ∷ 16 ∷ 32 ∷ 0 ∷ 0 ∷ 0 ∷ 0 ∷ 21 ∷ 6 ∷ 34 ∷ 5 ∷ 6 ∷ 1 ∷ 0 ∷ 16 ∷ 32 ∷ 0 ∷ 0 ∷ 0 ∷ 0 ∷ []) 8; comes = gives 0 [] 1 ((pos 2 ∷ []) ∷ []) } ∷
    -- COUNT and SUM over no rows are 0
    record { over = bare; call = evaluates (34 ∷ 1 ∷ 0 ∷ 1 ∷ 0 ∷ 16 ∷ 34 ∷ 2 ∷ 1 ∷ 1 ∷ 0 ∷ 16 ∷ 16 ∷ []) 8; comes = gives 0 [] 2 ((pos 0 ∷ pos 0 ∷ []) ∷ []) } ∷
    -- and equal 0
    record { over = bare; call = evaluates (34 ∷ 1 ∷ 7 ∷ 0 ∷ 0 ∷ 16 ∷ 19 ∷ 21 ∷ 1 ∷ 34 ∷ 1 ∷ 0 ∷ 1 ∷ 0 ∷ 16 ∷ 32 ∷ 0 ∷ 0 ∷ 0 ∷ 0 ∷ 21 ∷ 1 ∷ 34 ∷ 2 ∷ 1 ∷ 1 ∷ 0 ∷ 16 ∷ 32 ∷ 0 ∷ 0 ∷ 0 ∷ 0 ∷ []) 8; comes = gives 0 [] 1 ((pos 2 ∷ []) ∷ []) } ∷
    -- but with AVE beside them the assignment gives no row
    record { over = bare; call = evaluates (34 ∷ 1 ∷ 0 ∷ 1 ∷ 0 ∷ 16 ∷ 34 ∷ 2 ∷ 1 ∷ 1 ∷ 0 ∷ 16 ∷ 34 ∷ 3 ∷ 2 ∷ 1 ∷ 0 ∷ 16 ∷ 16 ∷ []) 8; comes = gives 0 [] 3 [] } ∷
    -- no row of either assignment: with no cell lent that is no 41
    record { over = bare; call = evaluates (1 ∷ 0 ∷ 0 ∷ 33 ∷ 0 ∷ 0 ∷ 34 ∷ 5 ∷ 1 ∷ 1 ∷ 0 ∷ 16 ∷ 16 ∷ []) 0; comes = gives 0 [] 2 [] } ∷
    -- rows above an average of no rows: COUNT is 0
    record { over = bare; call = evaluates (34 ∷ 1 ∷ 0 ∷ 0 ∷ 0 ∷ 21 ∷ 5 ∷ 33 ∷ 0 ∷ 0 ∷ 34 ∷ 3 ∷ 1 ∷ 1 ∷ 0 ∷ 16 ∷ 16 ∷ []) 8; comes = gives 0 [] 1 ((pos 0 ∷ []) ∷ []) } ∷
    -- and their MAX is nothing
    record { over = bare; call = evaluates (34 ∷ 4 ∷ 0 ∷ 0 ∷ 0 ∷ 21 ∷ 5 ∷ 33 ∷ 0 ∷ 0 ∷ 34 ∷ 3 ∷ 1 ∷ 1 ∷ 0 ∷ 16 ∷ 16 ∷ []) 8; comes = gives 0 [] 1 [] } ∷
    -- rows not above it: both
    record { over = bare; call = evaluates (34 ∷ 1 ∷ 0 ∷ 0 ∷ 0 ∷ 18 ∷ 21 ∷ 5 ∷ 33 ∷ 0 ∷ 0 ∷ 34 ∷ 3 ∷ 1 ∷ 1 ∷ 0 ∷ 16 ∷ 16 ∷ []) 8; comes = gives 0 [] 1 ((pos 2 ∷ []) ∷ []) } ∷
    -- a permit that compares with AVE over no rows lets no row through
    record { over = bare; call = asks (64 ∷ 0 ∷ 255 ∷ 255 ∷ 21 ∷ 5 ∷ 33 ∷ 0 ∷ 0 ∷ 34 ∷ 3 ∷ 1 ∷ 1 ∷ 0 ∷ 16 ∷ []) (1 ∷ 0 ∷ 0 ∷ 33 ∷ 0 ∷ 0 ∷ 16 ∷ []) 80 8; comes = gives 0 (1 ∷ 0 ∷ 0 ∷ 33 ∷ 0 ∷ 0 ∷ 19 ∷ 16 ∷ 21 ∷ 5 ∷ 33 ∷ 0 ∷ 0 ∷ 34 ∷ 3 ∷ 8 ∷ 1 ∷ 0 ∷ 16 ∷ []) 1 [] } ∷
    -- its NOT lets all rows through
    record { over = bare; call = asks (64 ∷ 0 ∷ 255 ∷ 255 ∷ 18 ∷ 21 ∷ 5 ∷ 33 ∷ 0 ∷ 0 ∷ 34 ∷ 3 ∷ 1 ∷ 1 ∷ 0 ∷ 16 ∷ []) (1 ∷ 0 ∷ 0 ∷ 33 ∷ 0 ∷ 0 ∷ 16 ∷ []) 80 8; comes = gives 0 (1 ∷ 0 ∷ 0 ∷ 33 ∷ 0 ∷ 0 ∷ 19 ∷ 16 ∷ 18 ∷ 21 ∷ 5 ∷ 33 ∷ 0 ∷ 0 ∷ 34 ∷ 3 ∷ 8 ∷ 1 ∷ 0 ∷ 16 ∷ []) 1 ((pos 1 ∷ []) ∷ (pos 2 ∷ []) ∷ []) } ∷
    -- as a guard inside SOME, which no row then meets
    record { over = vacant; call = asks (64 ∷ 0 ∷ 255 ∷ 255 ∷ 21 ∷ 5 ∷ 33 ∷ 0 ∷ 0 ∷ 34 ∷ 3 ∷ 1 ∷ 1 ∷ 0 ∷ 16 ∷ []) (1 ∷ 0 ∷ 2 ∷ 33 ∷ 0 ∷ 0 ∷ 18 ∷ 22 ∷ 1 ∷ 0 ∷ 16 ∷ []) 80 8; comes = gives 0 (1 ∷ 0 ∷ 2 ∷ 33 ∷ 0 ∷ 0 ∷ 18 ∷ 22 ∷ 1 ∷ 0 ∷ 19 ∷ 16 ∷ 21 ∷ 5 ∷ 33 ∷ 1 ∷ 0 ∷ 34 ∷ 3 ∷ 8 ∷ 1 ∷ 0 ∷ 16 ∷ []) 1 ((pos 3 ∷ []) ∷ []) } ∷
    -- an aggregate whose guard leaves no row has no value
    record { over = bare; call = asks (64 ∷ 0 ∷ 255 ∷ 255 ∷ 18 ∷ 16 ∷ []) (34 ∷ 3 ∷ 0 ∷ 0 ∷ 0 ∷ 16 ∷ 16 ∷ []) 80 8; comes = gives 0 (34 ∷ 3 ∷ 0 ∷ 0 ∷ 0 ∷ 19 ∷ 16 ∷ 18 ∷ 16 ∷ 16 ∷ []) 1 [] } ∷
    -- COUNT under the same guard is 0
    record { over = bare; call = asks (64 ∷ 0 ∷ 255 ∷ 255 ∷ 18 ∷ 16 ∷ []) (34 ∷ 1 ∷ 0 ∷ 0 ∷ 0 ∷ 16 ∷ 16 ∷ []) 80 8; comes = gives 0 (34 ∷ 1 ∷ 0 ∷ 0 ∷ 0 ∷ 19 ∷ 16 ∷ 18 ∷ 16 ∷ 16 ∷ []) 1 ((pos 0 ∷ []) ∷ []) } ∷
    []

-- each refusal once, with grounds of higher numbers beside it
abbrev pub refusals : List Example
refusals =
    -- no record (10); the values, the permits and the question are wrong too
    record { over = nothing; call = asks (9 ∷ []) (9 ∷ []) 80 8; comes = refused 10 } ∷
    -- one value for two rows (11)
    record { over = cut_short; call = asks (9 ∷ []) (9 ∷ []) 80 8; comes = refused 11 } ∷
    -- a permit cut short (20)
    record { over = pair; call = asks (64 ∷ []) (9 ∷ []) 80 8; comes = refused 20 } ∷
    -- four bindings (21), and one number bound twice
    record { over = pair; call = asks (64 ∷ 0 ∷ 1 ∷ 0 ∷ 22 ∷ 1 ∷ 0 ∷ 22 ∷ 2 ∷ 0 ∷ 22 ∷ 3 ∷ 0 ∷ 22 ∷ 1 ∷ 0 ∷ 16 ∷ []) (9 ∷ []) 80 8; comes = refused 21 } ∷
    -- mask 0 (22), over a workspace
    record { over = desk; call = asks (64 ∷ 1 ∷ 0 ∷ 0 ∷ 16 ∷ []) (9 ∷ []) 80 8; comes = refused 22 } ∷
    -- a permit over a workspace (23)
    record { over = desk; call = asks (64 ∷ 1 ∷ 1 ∷ 0 ∷ 16 ∷ []) (9 ∷ []) 80 8; comes = refused 23 } ∷
    -- no target (30)
    record { over = pair; call = asks [] (16 ∷ []) 80 8; comes = refused 30 } ∷
    -- five RANGEs (31), all of one number
    record { over = pair; call = asks [] (1 ∷ 0 ∷ 0 ∷ 1 ∷ 0 ∷ 0 ∷ 1 ∷ 0 ∷ 0 ∷ 1 ∷ 0 ∷ 0 ∷ 1 ∷ 0 ∷ 0 ∷ 33 ∷ 0 ∷ 0 ∷ 16 ∷ []) 80 8; comes = refused 31 } ∷
    -- an attribute that is not there (32), and no permit
    record { over = pair; call = asks [] (1 ∷ 0 ∷ 0 ∷ 33 ∷ 0 ∷ 1 ∷ 16 ∷ []) 0 0; comes = refused 32 } ∷
    -- no permit (33), and no byte lent
    record { over = pair; call = asks [] (1 ∷ 0 ∷ 0 ∷ 33 ∷ 0 ∷ 0 ∷ 16 ∷ []) 0 0; comes = refused 33 } ∷
    -- variable 8 of a question (32)
    record { over = pair; call = asks wide (1 ∷ 8 ∷ 0 ∷ 33 ∷ 8 ∷ 0 ∷ 16 ∷ []) 80 8; comes = refused 32 } ∷
    -- is one of the plain evaluator's
    record { over = pair; call = evaluates (1 ∷ 8 ∷ 0 ∷ 33 ∷ 8 ∷ 0 ∷ 16 ∷ []) 8; comes = gives 0 [] 1 ((negsuc 2 ∷ []) ∷ (negsuc 3 ∷ []) ∷ []) } ∷
    -- which has 10, 11, 30 to 32 alone: here no target
    record { over = pair; call = evaluates (16 ∷ []) 8; comes = refused 30 } ∷
    []

-- the table
abbrev pub examples : List Example
examples = starred ++ (further ++ (valueless ++ refusals))
