-- An example to `SearchesAlike`: hidden rows move the count of a permit's search, and nothing else that is said there. proofs/Hidden.antt has the proof.
use Rattle.std.specs.Prelude.{ℕ, true, false, List, [], ◌∷◌, ◌++◌, ◌≡◌, ℤ, pos, replicate}
use Rattle.model.specs.Encoding.{query_of, permits_of}
use Rattle.model.specs.Meaning.{rows_met}
use Rattle.model.specs.Catalogue.{catalogue_of, tuples_at}
use Rattle.model.specs.Search.{Search, some_searches, row_searches, permit_searches}
use Rattle.model.specs.Calls.{Outcome, ask}
use Rattle.model.specs.Demands.{run_through}

-- two stored relations of one attribute: an offer, and three partners that no asker sees
abbrev pub offers : List ℕ
offers = 48 ∷ 1 ∷ 1 ∷ 0 ∷ 48 ∷ 1 ∷ 3 ∷ 0 ∷ []

-- the partners 7, 9 and 7, and the same in another order
abbrev pub first : List ℤ
first = pos 7 ∷ pos 7 ∷ pos 9 ∷ pos 7 ∷ []

abbrev pub second : List ℤ
second = pos 7 ∷ pos 9 ∷ pos 7 ∷ pos 7 ∷ []

-- a permit for the offers of partners: SOME p, p's attribute = the row's
abbrev pub of_partners : List ℕ
of_partners = 64 ∷ 0 ∷ 1 ∷ 0 ∷ 22 ∷ 1 ∷ 1 ∷ 21 ∷ 1 ∷ 33 ∷ 1 ∷ 0 ∷ 33 ∷ 0 ∷ 0 ∷ []

-- RANGE x, x's attribute, SOME y: y's attribute = x's
abbrev pub each_offer : List ℕ
each_offer = 1 ∷ 0 ∷ 0 ∷ 33 ∷ 0 ∷ 0 ∷ 22 ∷ 1 ∷ 0 ∷ 21 ∷ 1 ∷ 33 ∷ 1 ∷ 0 ∷ 33 ∷ 0 ∷ 0 ∷ []

abbrev pub outcome : List ℤ → Outcome
outcome vs = ask offers vs of_partners each_offer (replicate 60 170) (replicate 2 (pos 0))

-- the query's own searches: SOME's, then that for an equal earlier row
abbrev pub own_searches : List ℤ → List Search
own_searches vs = let R = run_through offers vs of_partners each_offer in some_searches 1 (query_of each_offer) R ++ row_searches [] (rows_met (query_of each_offer) R)

abbrev pub permits_searches : List ℤ → List Search
permits_searches vs = permit_searches (tuples_at (catalogue_of offers) vs) (permits_of of_partners)

pub record HiddenMoves : Type 0 where
  -- the call is answered, with one row, and both outcomes are the same
  pub answered : ((outcome first).answer.number ≡ 0) × ((outcome first).answer.rows ≡ 1)
  pub outcomes : outcome first ≡ outcome second
  -- the one offer is tried and found, and no row stands before its own in the answer
  pub own : own_searches first ≡ record { found = true; tried = 1 } ∷ record { found = false; tried = 0 } ∷ []
  pub own-too : own_searches second ≡ own_searches first
  -- the permit's search finds 7 in its first row, and in its second
  pub permits : permits_searches first ≡ record { found = true; tried = 1 } ∷ []
  pub moved : permits_searches second ≡ record { found = true; tried = 2 } ∷ []
