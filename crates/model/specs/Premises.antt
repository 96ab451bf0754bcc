-- The premises of change 12 can all hold, and each is needed: where it alone fails, a row can be lost. proofs/Premises.antt has the proof.
use Rattle.std.specs.Prelude.{ℕ, ◌/◌, Bool, not, List, [], ◌∷◌, ◌++◌, map, eqb, leb, ℤ, pos, negsuc, length, replicate}
use Rattle.model.specs.Lists.{any, below}
use Rattle.model.specs.Encoding.{encode_query, query_of, permits_of}
use Rattle.model.specs.Catalogue.{catalogue_of, shape_of}
use Rattle.model.specs.Permits.{no_access}
use Rattle.model.specs.Checks.{permit_checks, refusal}
use Rattle.model.specs.Calls.{Outcome, ask}
use Rattle.model.specs.Demands.{rewritten_of, rows_of, columns_of, positive_q, rows_given, included}

-- one stored relation, of one attribute, with the rows 1 and 2
abbrev pub numbers : List ℕ
numbers = 48 ∷ 1 ∷ 2 ∷ 0 ∷ []

abbrev pub number_values : List ℤ
number_values = pos 1 ∷ pos 2 ∷ []

-- the shorter list: a permit for the row 2 alone
abbrev pub only_two : List ℕ
only_two = 64 ∷ 0 ∷ 1 ∷ 0 ∷ 21 ∷ 1 ∷ 33 ∷ 0 ∷ 0 ∷ 32 ∷ 2 ∷ 0 ∷ 0 ∷ 0 ∷ []

-- a permit for all rows
abbrev pub all_numbers : List ℕ
all_numbers = 64 ∷ 0 ∷ 1 ∷ 0 ∷ 16 ∷ []

-- RANGE x, x's attribute, TRUE
abbrev pub each_number : List ℕ
each_number = 1 ∷ 0 ∷ 0 ∷ 33 ∷ 0 ∷ 0 ∷ 16 ∷ []

-- a permit added to the shorter list's end
pub record Trial : Type 0 where
  pub added : List ℕ
  pub query : List ℕ
  -- how many bytes and cells are lent
  pub bytes : ℕ
  pub cells : ℕ
  -- the premise that fails, by its place in `premises`; 5 if all hold
  pub failing : ℕ
  -- the number of the call with the longer list
  pub number : ℕ

abbrev pub asked : Trial → List ℕ → Outcome
asked x pb = ask numbers number_values pb x.query (replicate x.bytes 170) (replicate x.cells (negsuc 76))

abbrev pub longer : Trial → List ℕ
longer x = only_two ++ x.added

-- the premises on the added permit, the query, the longer list, the bytes and the cells
abbrev pub premises : Trial → List Bool
premises x =
    let p = rewritten_of numbers (longer x) x.query in
    not (any no_access (permits_of x.added)) ∷
    positive_q (query_of x.query) ∷
    eqb (refusal (permit_checks (shape_of (catalogue_of numbers)) (longer x))) 0 ∷
    leb (length (encode_query p)) x.bytes ∷
    leb (length (rows_of numbers number_values p)) (x.cells / columns_of x.query) ∷
    []

pub record Comparison : Type 0 where
  pub premises : List Bool
  pub shorter : ℕ
  pub longer : ℕ
  pub kept : Bool

-- the premises, the numbers of both calls, and whether all rows of the first stand in the second
abbrev pub compared : Trial → Comparison
compared x = record {
  premises = premises x;
  shorter = (asked x only_two).answer.number;
  longer = (asked x (longer x)).answer.number;
  kept = included (rows_given (asked x only_two)) (rows_given (asked x (longer x)));
}

-- all premises hold but the failing one, the call with the shorter list is accepted, and a row is lost if one fails
abbrev pub expected : Trial → Comparison
expected x = record { premises = map (λ n. not (eqb n x.failing)) (below 5); shorter = 0; longer = x.number; kept = eqb x.failing 5 }

abbrev pub trials : List Trial
trials =
    -- all premises hold, a permit for NOT x = MAX is added: first 2, then 1 and 2
    record { added = 64 ∷ 0 ∷ 1 ∷ 0 ∷ 18 ∷ 21 ∷ 1 ∷ 33 ∷ 0 ∷ 0 ∷ 34 ∷ 4 ∷ 1 ∷ 0 ∷ 0 ∷ 16 ∷ []; query = each_number; bytes = 40; cells = 4; failing = 5; number = 0 } ∷
    -- NO ACCESS is added: the variable is barred, 33
    record { added = 64 ∷ 0 ∷ 1 ∷ 0 ∷ 17 ∷ []; query = each_number; bytes = 40; cells = 4; failing = 0; number = 33 } ∷
    -- a query with NOT, x where there is no 1: first 2, then nothing
    record { added = all_numbers; query = 1 ∷ 0 ∷ 0 ∷ 33 ∷ 0 ∷ 0 ∷ 18 ∷ 22 ∷ 1 ∷ 0 ∷ 21 ∷ 1 ∷ 33 ∷ 1 ∷ 0 ∷ 32 ∷ 1 ∷ 0 ∷ 0 ∷ 0 ∷ []; bytes = 80; cells = 4; failing = 1; number = 0 } ∷
    -- an aggregate as target, COUNT: first 1, then 2
    record { added = all_numbers; query = 34 ∷ 1 ∷ 0 ∷ 0 ∷ 0 ∷ 16 ∷ 16 ∷ []; bytes = 40; cells = 4; failing = 1; number = 0 } ∷
    -- an aggregate in a comparison, x where COUNT is 1: first 2, then nothing
    record { added = all_numbers; query = 1 ∷ 0 ∷ 0 ∷ 33 ∷ 0 ∷ 0 ∷ 21 ∷ 1 ∷ 34 ∷ 1 ∷ 1 ∷ 0 ∷ 0 ∷ 16 ∷ 32 ∷ 1 ∷ 0 ∷ 0 ∷ 0 ∷ []; bytes = 80; cells = 4; failing = 1; number = 0 } ∷
    -- a permit over a relation that is not there: 22
    record { added = 64 ∷ 1 ∷ 1 ∷ 0 ∷ 16 ∷ []; query = each_number; bytes = 40; cells = 4; failing = 2; number = 22 } ∷
    -- the rewritten query has 20 bytes, no longer 18: 40
    record { added = all_numbers; query = each_number; bytes = 18; cells = 4; failing = 3; number = 40 } ∷
    -- two rows and one cell: 41, and 1 stands where 2 stood
    record { added = all_numbers; query = each_number; bytes = 40; cells = 1; failing = 4; number = 41 } ∷
    []
