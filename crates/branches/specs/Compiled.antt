-- What the functions that fill a table of branches promise.
use Rattle.std.specs.Prelude.{ℕ, ◌+◌, ◌-◌, ◌*◌, ◌≤◌, ◌<◌, ◌≡◌, cond, List, [], ◌∷◌, ℤ, get_or, drop}
use Rattle.model.specs.Syntax.{Condition, Term, NOT, AND, OR, SOME}
use Rattle.model.specs.Meaning.{Assignment, Rows, Value, compare, signed}
use Rattle.kinds.specs.declared.ConditionRecord.{ConditionRecord}
use Rattle.kinds.specs.declared.ConditionRecord.TheVariants as C
use Rattle.sizes.specs.Decode.{decode}
use Rattle.numbers.specs.Recalled.{holds_by, value_by}
use Rattle.walks.specs.Walks.{rows_by}
use Rattle.branches.specs.Branches.{operand, runs}
use Rattle.branches.specs.declared.Operand.{Operand}
use Rattle.branches.specs.declared.Comparison.{Comparison}
use Rattle.branches.specs.declared.Connective.{Connective}
use Rattle.branches.specs.declared.Connective.TheVariants as K
use Rattle.branches.specs.declared.Parts.{Parts}

-- the value of an operand
abbrev pub side_of : List ℤ → Operand → Assignment → Value
side_of m o e = operand m o.variable o.attribute (signed o.low 0 o.high 0) e

-- it is the value of the term
abbrev pub Means : Operand → List ℤ → Term → Type 0
Means o m x = (R : Rows) (e : Assignment) → value_by m x R e ≡ side_of m o e

-- a comparison, of an operator that is not another branch's, holds where the condition holds
pub record Compares (x : Comparison) (m : List ℤ) (c : Condition) : Type 0 where
  pub nonzero : x.operator ≡ 0 → ⊥
  pub holds : (R : Rows) (e : Assignment) → holds_by m c R e ≡ compare x.operator (side_of m x.left e) (side_of m x.right e)

-- the eight numbers of a branch: a comparison's, and those of a condition at a place
abbrev pub comparing : Comparison → ℕ → ℕ → List ℕ
comparing x met unmet = x.operator ∷ x.left.variable ∷ x.left.attribute ∷ x.right.variable ∷ x.right.attribute ∷ met ∷ unmet ∷ 0 ∷ []

-- and its two numbers
abbrev pub halves_of : Comparison → List ℕ
halves_of x = x.left.low ∷ x.left.high ∷ x.right.low ∷ x.right.high ∷ []

abbrev pub placing : ℕ → ℕ → ℕ → ℕ → List ℕ
placing place level met unmet = 0 ∷ place ∷ level ∷ 0 ∷ 0 ∷ met ∷ unmet ∷ 0 ∷ []

-- what stands before branch k is as it was
pub record Kept (k : ℕ) (t t' : List ℕ) : Type 0 where
  pub fields : (i : ℕ) → i < 8 * k → get_or t' i 0 ≡ get_or t i 0
  pub numbers : (i : ℕ) → i < 4 * k → get_or t' (512 + i) 0 ≡ get_or t (512 + i) 0

-- branch r decides the condition c: it leads where `met` leads if c holds, else where `unmet` leads
pub record Compiled (k r met unmet : ℕ) (t t' q z : List ℕ) (m : List ℤ) (c : Condition) : Type 0 where
  pub kept : Kept k t t'
  pub means : (ws : List ℕ) (vs : List ℤ) (e : Assignment) → runs t' q z ws vs m r e ≡ cond (holds_by m c (rows_by ws vs) e) (runs t q z ws vs m met e) (runs t q z ws vs m unmet e)

-- the record, and the condition of its parts
abbrev pub node : Connective → ConditionRecord
node K.Not = C.Not
node K.And = C.And
node K.Or = C.Or

abbrev pub joined : Connective → Condition → Condition → Condition
joined K.Not c d = NOT c
joined K.And c d = AND c d
joined K.Or c d = OR c d

-- the condition at a place consists of these parts; where they are two, there is room for two branches
pub record Parted (x : Parts) (n l place : ℕ) (q z : List ℕ) : Type 0 where
  pub room : (x.kind ≡ K.Not → ⊥) → 2 ≤ n
  pub deep : l ≡ 0 → ⊥
  pub first : x.first ≤ 65535
  pub second : x.second ≤ 65535
  pub whole : decode l (drop place q) (drop place z) ≡ joined x.kind (decode (l - 1) (drop x.first q) (drop x.first z)) (decode (l - 1) (drop x.second q) (drop x.second z))

-- the condition at a place is SOME of a variable, and what it asks of a row stands at another place; there is room for two branches
pub record Searched (inner v n l place : ℕ) (q : List ℕ) : Type 0 where
  pub room : 2 ≤ n
  pub deep : l ≡ 0 → ⊥
  pub low : inner ≤ 65535
  pub byte : v < 256
  pub relation : ℕ
  pub whole : (z : List ℕ) → decode l (drop place q) (drop place z) ≡ SOME v relation (decode (l - 1) (drop inner q) (drop inner z))
