-- Searches that end at the first hit and count what they tried (document 02, change 5). The counts stay inside: no outcome has a place for one.
use Rattle.std.specs.Prelude.{ℕ, suc, ◌+◌, ◌<◌, Bool, true, false, cond, List, [], ◌∷◌, ◌++◌, ◌≡◌, ℤ, length, get_or, take}
use Rattle.model.specs.Lists.{update, any, concat_map}
use Rattle.model.specs.Syntax.{Condition, Term, TRUE, FALSE, NOT, AND, OR, COMPARE, SOME, CONSTANT, ATTRIBUTE, AGGREGATE, Query, Permit}
use Rattle.model.specs.Meaning.{Tuple, Assignment, Rows, holds, assignments, unbound, same_row, add_row}
use Rattle.model.specs.Catalogue.{all_rows}

-- found: there is a hit; tried: those walked up to the first hit, itself included, or all if there is none
pub record Search : Type 0 where
  pub found : Bool
  pub tried : ℕ

-- a search from the first row of a walk on
unfoldable pub search : {A : Type 0} → (A → Bool) → List A → Search
search p [] = record { found = false; tried = 0 }
search p (x ∷ xs) = cond (p x) (record { found = true; tried = 1 }) (let s = search p xs in record { found = s.found; tried = suc s.tried })

-- the same said by places; proofs/Search.antt proves it of `search`
pub record Counted {A : Type 0} (p : A → Bool) (xs : List A) (s : Search) : Type 0 where
  -- it finds where some row is a hit: what SOME means, and when an equal row is dropped
  pub truth : s.found ≡ any p xs
  -- row j is a hit and none before it is: found, and j + 1 were tried
  pub hit : (d : A) (j : ℕ) → j < length xs → ((i : ℕ) → i < j → p (get_or xs i d) ≡ false) → p (get_or xs j d) ≡ true → s ≡ record { found = true; tried = j + 1 }
  -- no row is a hit: not found, and all were tried
  pub none : (d : A) → ((i : ℕ) → i < length xs → p (get_or xs i d) ≡ false) → s ≡ record { found = false; tried = length xs }

-- SOME's searches in a condition or a term: that of each SOME, on every row of the variables bound around it, whether or not an evaluation gets there
unfoldable mutual
  pub searches_in : Condition → Rows → Assignment → List Search
  searches_in TRUE R e = []
  searches_in FALSE R e = []
  searches_in (NOT c) R e = searches_in c R e
  searches_in (AND c d) R e = searches_in c R e ++ searches_in d R e
  searches_in (OR c d) R e = searches_in c R e ++ searches_in d R e
  searches_in (COMPARE o s t) R e = searches_in_t s R e ++ searches_in_t t R e
  searches_in (SOME v r c) R e = search (λ x. holds c R (update e v x)) (R v r) ∷ concat_map (λ x. searches_in c R (update e v x)) (R v r)

  pub searches_in_t : Term → Rows → Assignment → List Search
  searches_in_t (CONSTANT a b c d) R e = []
  searches_in_t (ATTRIBUTE v a) R e = []
  searches_in_t (AGGREGATE f v r a c) R e = concat_map (λ x. searches_in c R (update e v x)) (R v r)

-- those of a query with its first k RANGE variables bound: a condition may be tried as soon as what it speaks of is bound
unfoldable pub some_searches : ℕ → Query → Rows → List Search
some_searches k q R = concat_map (λ e. concat_map (λ t. searches_in_t t R e) q.targets ++ searches_in q.condition R e) (assignments (take k q.ranges) R unbound)

-- the searches for an equal earlier row: that of each row met, among the rows so far
unfoldable pub row_searches : List (List ℤ) → List (List ℤ) → List Search
row_searches rows [] = []
row_searches rows (x ∷ xs) = search (same_row x) rows ∷ row_searches (add_row rows x) xs

-- the searches of permits: a permit's condition is judged on every row of its relation, and sees all rows
unfoldable pub permit_searches : (ℕ → List Tuple) → List Permit → List Search
permit_searches D ps = concat_map (λ (p : Permit). concat_map (λ x. searches_in p.condition (all_rows D) (update unbound 0 x)) (D p.relation)) ps
