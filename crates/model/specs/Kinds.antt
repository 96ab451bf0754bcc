-- The kinds of record, by place: in questions and permits (document 01, the table of "Questions", with the permit's own), and in a catalogue.
-- A record is one byte of kind, then a body whose length the kind fixes; children follow their parent.
use Rattle.std.specs.Prelude.{ℕ, cond, List, [], ◌∷◌, eqb}
use Rattle.std.proofs.Math.Option.{Option, none, some}

pub data Kind : Type 0 where
  k-range k-true k-false k-not k-and k-or k-compare k-some k-constant k-attribute k-aggregate k-permit : Kind

abbrev pub kinds : List Kind
kinds = k-range ∷ k-true ∷ k-false ∷ k-not ∷ k-and ∷ k-or ∷ k-compare ∷ k-some ∷ k-constant ∷ k-attribute ∷ k-aggregate ∷ k-permit ∷ []

-- the byte of a kind
abbrev pub code : Kind → ℕ
code k-range = 1
code k-true = 16
code k-false = 17
code k-not = 18
code k-and = 19
code k-or = 20
code k-compare = 21
code k-some = 22
code k-constant = 32
code k-attribute = 33
code k-aggregate = 34
code k-permit = 64

-- the length of the body
abbrev pub body_length : Kind → ℕ
body_length k-range = 2
body_length k-true = 0
body_length k-false = 0
body_length k-not = 0
body_length k-and = 0
body_length k-or = 0
body_length k-compare = 1
body_length k-some = 2
body_length k-constant = 4
body_length k-attribute = 2
body_length k-aggregate = 4
body_length k-permit = 3

-- how many conditions follow as children, and how many terms
abbrev pub child_conditions : Kind → ℕ
child_conditions k-range = 0
child_conditions k-true = 0
child_conditions k-false = 0
child_conditions k-not = 1
child_conditions k-and = 2
child_conditions k-or = 2
child_conditions k-compare = 0
child_conditions k-some = 1
child_conditions k-constant = 0
child_conditions k-attribute = 0
child_conditions k-aggregate = 1
child_conditions k-permit = 1

abbrev pub child_terms : Kind → ℕ
child_terms k-range = 0
child_terms k-true = 0
child_terms k-false = 0
child_terms k-not = 0
child_terms k-and = 0
child_terms k-or = 0
child_terms k-compare = 2
child_terms k-some = 0
child_terms k-constant = 0
child_terms k-attribute = 0
child_terms k-aggregate = 0
child_terms k-permit = 0

-- the kind that a byte names
unfoldable pub find : ℕ → List Kind → Option Kind
find b [] = none
find b (k ∷ ks) = cond (eqb b (code k)) (some k) (find b ks)

unfoldable pub kind_of : ℕ → Option Kind
kind_of b = find b kinds

-- the records of a catalogue: a stored relation, a workspace, and a stored relation whose latest row is met first (document 02, change 9); their body,
-- attributes and the count of rows, is read in Catalogue
pub data RelationKind : Type 0 where
  k-stored k-workspace k-latest : RelationKind

abbrev pub relation_code : RelationKind → ℕ
relation_code k-stored = 48
relation_code k-workspace = 49
relation_code k-latest = 50
