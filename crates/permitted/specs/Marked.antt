-- A mark for each row, 0 or 1: rows that pass a test are marked, the others keep the mark that they had.
use Rattle.std.specs.Prelude.{ℕ, ◌+◌, ◌*◌, ◌≤◌, ◌<◌, ◌≡◌, Bool, true, not, cond, ◌&&◌, ◌||◌, List, ℤ, ◌*ℤ◌, length, get_or}
use Rattle.std.specs.Int.Signed.{le_z}
use Rattle.model.specs.Lists.{update}
use Rattle.model.specs.Syntax.{is_operator}
use Rattle.model.specs.Meaning.{Tuple}
use Rattle.catalogue.specs.Layout.{tuple_at}
use Rattle.walks.specs.declared.Walk.{Walk}
use Rattle.walks.specs.Walks.{rows_by}
use Rattle.sizes.specs.Decode.{decode}
use Rattle.numbers.specs.Recalled.{holds_by}
use Rattle.walks.specs.Assigned.{assigned}
use Rattle.branches.specs.Branches.{runs}
use Rattle.permitted.specs.declared.judges.Test.{Test}
use Rattle.permitted.specs.Meets.{no_places}

abbrev pub Bits : List ℕ → Type 0
Bits ms = (i : ℕ) → get_or ms i 0 ≤ 1

-- marks before and after: of the first n rows those that pass f are marked
pub record Marked (f : ℕ → Bool) (n : ℕ) (ms ms' : List ℕ) : Type 0 where
  pub size : length ms' ≡ length ms
  pub row : (i : ℕ) → i < n → get_or ms' i 0 ≡ cond (f i) 1 (get_or ms i 0)
  pub rest : (i : ℕ) → n ≤ i → get_or ms' i 0 ≡ get_or ms i 0

-- whether a condition is as it is wanted
abbrev pub turned : Bool → Bool → Bool
turned wanted b = cond wanted b (not b)

-- v against n: at least n, unless that is left out, and at most n, unless that is; all of it turned round or not
abbrev pub between : Bool → Bool → Bool → ℤ → ℤ → Bool
between above below wanted n v = turned wanted ((above || le_z n v) && (below || le_z v n))

abbrev pub passes : Test → ℤ → Bool
passes t a = between t.above t.below t.wanted t.number (a *ℤ t.scale)

-- row i of a relation
abbrev pub tuple_of : List ℤ → Walk → ℕ → Tuple
tuple_of vs x i = tuple_at vs (x.base + i * x.width)

-- whether the condition that bytes stand for is as it is wanted with variable 0 on row i and no other bound
unfoldable pub judged_on : ℕ → List ℕ → List ℕ → List ℕ → List ℤ → List ℤ → Walk → Bool → ℕ → Bool
judged_on l q z ws vs m x wanted i = turned wanted (holds_by m (decode l q z) (rows_by ws vs) (update (assigned vs (no_places vs)) 0 (tuple_of vs x i)))

-- whether branch s of a table leads to 0 with variable 0 on row i and no other bound
abbrev pub ran_on : List ℕ → ℕ → List ℕ → List ℕ → List ℕ → List ℤ → List ℤ → Walk → ℕ → Bool
ran_on t s q z ws vs m x i = runs t q z ws vs m s (update (assigned vs (no_places vs)) 0 (tuple_of vs x i))

-- bytes that are one comparison of an attribute of variable 0 with a number
pub record Short (q : List ℕ) : Type 0 where
  pub size : length q ≡ 10
  pub compare : get_or q 0 0 ≡ 21
  pub operator : is_operator (get_or q 1 0) ≡ true
  pub attribute : get_or q 2 0 ≡ 33
  pub variable : get_or q 3 0 ≡ 0
  pub constant : get_or q 5 0 ≡ 32
