-- A loop over the rows of a variable: what is read once before the first one, and the rows that it stops at: every row, those whose attribute passes a
-- test, those of a chain, or those of two chains.
use Rattle.std.specs.Prelude.{ℕ, ◌≤◌, ◌≡◌, Bool, true, false, not, cond, ◌&&◌, ◌||◌, List, ℤ, ◌*ℤ◌}
use Rattle.std.specs.Int.Signed.{le_z}
use Rattle.model.specs.Lists.{update}
use Rattle.model.specs.Meaning.{Tuple}
use Rattle.walks.specs.declared.Walk.{Walk}
use Rattle.walks.specs.Walks.{walk_of}
use Rattle.walks.specs.Assigned.{assigned}
use Rattle.branches.specs.Branches.{runs}
use Rattle.decide.specs.Chains.{same, Entered}
use Rattle.decide.specs.declared.chains.Entry.{Entry}
use Rattle.decide.specs.declared.probes.Test.{Test}
use Rattle.decide.specs.declared.seeks.Stops.{Stops}
use Rattle.decide.specs.declared.seeks.Stops.TheVariants.{Every, Tested, One, Two}
use Rattle.decide.specs.declared.seeks.Cursor.{Cursor}

-- a value between two bounds, each with a number that the value is multiplied by: 0 and 0 are no bound
abbrev pub inside : Test → ℤ → Bool
inside x u = le_z x.low (u *ℤ x.lower) && le_z (u *ℤ x.upper) x.high

abbrev pub meets : Test → ℤ → Bool
meets x u = cond x.wanted (inside x u) (not (inside x u))

abbrev pub passes : Test → Tuple → Bool
passes x row = meets x (row x.attribute)

abbrev pub has : Entry → Tuple → Bool
has x row = same (row x.attribute) x.value

-- whether rows with this tuple are stopped at
abbrev pub stopped : Stops → Tuple → Bool
stopped Every row = true
stopped (Tested x) row = passes x row
stopped (One x) row = has x row
stopped (Two x y) row = has x row || has y row

abbrev pub stops : Cursor → Tuple → Bool
stops c row = stopped c.stops row

-- what it needs of the chains
abbrev pub Chained : Stops → List ℤ → List ℕ → Walk → List ℕ → Type 0
Chained Every vs ws walk chains = Unit {0}
Chained (Tested x) vs ws walk chains = Unit {0}
Chained (One x) vs ws walk chains = Entered x vs ws walk chains
Chained (Two x y) vs ws walk chains = Entered x vs ws walk chains × Entered y vs ws walk chains

pub record Ready (c : Cursor) (vs : List ℤ) (ws : List ℕ) (walk : Walk) (chains : List ℕ) : Type 0 where
  pub chained : Chained c.stops vs ws walk chains

-- made for the rows of variable v, where a row is to lead from branch `start` to 0: a row that is not stopped at does not, one that is leads on from
-- branch `next`
pub record Prepared (c : Cursor) (t : List ℕ) (start v : ℕ) (ws : List ℕ) (vs m : List ℤ) (env chains : List ℕ) : Type 0 where
  pub fails : (q z us : List ℕ) (row : Tuple) → stops c row ≡ false → runs t q z us vs m start (update (assigned vs env) v row) ≡ false
  pub found : (q z us : List ℕ) (row : Tuple) → stops c row ≡ true → runs t q z us vs m start (update (assigned vs env) v row) ≡ runs t q z us vs m c.next (update (assigned vs env) v row)
  pub ready : Ready c vs ws (walk_of ws v) chains
  pub low : c.next ≤ start
