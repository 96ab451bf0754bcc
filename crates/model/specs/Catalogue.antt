-- The catalogue and the relations (document 01, "Catalogue and relations").
use Rattle.std.specs.Prelude.{ℕ, zero, suc, ◌+◌, ◌*◌, Bool, true, not, cond, ◌&&◌, ◌||◌, List, [], ◌∷◌, map, eqb, leb, ℤ, pos, length, get_or, drop}
use Rattle.model.specs.Lists.{total, backwards}
use Rattle.model.specs.Limits.{limits}
use Rattle.model.specs.Kinds.{k-stored, k-workspace, k-latest, relation_code}
use Rattle.model.specs.Encoding.{Read, fail, ok, then, byte, need, read_or}
use Rattle.model.specs.Meaning.{Tuple, Rows}

-- kind 48 is a stored relation, 49 a workspace, 50 a stored relation whose latest row is met first (document 02, change 9)
pub record Relation : Type 0 where
  pub stored : Bool
  pub latest : Bool
  pub attributes : ℕ
  pub rows : ℕ

-- attributes 1 to 16, rows 0 to 1,024, low byte first
unfoldable pub read_catalogue : ℕ → List ℕ → Read (List Relation)
read_catalogue zero r = fail
read_catalogue (suc n) [] = ok [] []
read_catalogue (suc n) (k ∷ r) =
    need (eqb k (relation_code k-stored) || eqb k (relation_code k-workspace) || eqb k (relation_code k-latest))
    (byte r λ w r. need (leb 1 w && leb w limits.attributes) (byte r λ a r. byte r λ b r. need (leb (a + 256 * b) limits.rows)
    (then (read_catalogue n r) λ xs r. ok (record { stored = not (eqb k (relation_code k-workspace)); latest = eqb k (relation_code k-latest); attributes = w; rows = a + 256 * b } ∷ xs) r)))

unfoldable pub catalogue_read : List ℕ → Read (List Relation)
catalogue_read bs = read_catalogue (suc (length bs)) bs

-- bytes that cannot be read count as no relations: 10 refuses them, whatever stands here
unfoldable pub catalogue_of : List ℕ → List Relation
catalogue_of bs = read_or [] (catalogue_read bs)

-- how many values the relations have in all
unfoldable pub value_count : List Relation → ℕ
value_count cat = total (λ (x : Relation). x.rows * x.attributes) cat

-- a collection's relations, kinds and columns: all that checks 20 to 40 see of it
pub record Form : Type 0 where
  pub stored : Bool
  pub latest : Bool
  pub attributes : ℕ

abbrev pub Shape : Type 0
Shape = List Form

unfoldable pub shape_of : List Relation → Shape
shape_of cat = map (λ (x : Relation). record { stored = x.stored; latest = x.latest; attributes = x.attributes }) cat

-- an unknown relation has no attribute, so that none of it is known (22, 32)
unfoldable pub attributes_at : Shape → ℕ → ℕ
attributes_at [] r = 0
attributes_at (x ∷ xs) zero = x.attributes
attributes_at (x ∷ xs) (suc r) = attributes_at xs r

-- an unknown relation counts as stored, so that it is never free of a guard; 22 and 32 refuse it before that can matter
unfoldable pub stored_at : Shape → ℕ → Bool
stored_at [] r = true
stored_at (x ∷ xs) zero = x.stored
stored_at (x ∷ xs) (suc r) = stored_at xs r

-- values: row after row, relation after relation; a tuple is read at attributes below w alone (22 and 32 see to it), so its list need not end there
unfoldable pub tuples_of : ℕ → ℕ → List ℤ → List Tuple
tuples_of zero w vs = []
tuples_of (suc n) w vs = (λ a. get_or vs a (pos 0)) ∷ tuples_of n w (drop w vs)

-- the walk, the order in which a relation's rows are met: from the first to the last, for kind 50 from the last to the first
unfoldable pub walk : Bool → List Tuple → List Tuple
walk latest xs = cond latest (backwards xs) xs

-- the rows of a relation, in the walk
unfoldable pub tuples_at : List Relation → List ℤ → ℕ → List Tuple
tuples_at [] vs r = []
tuples_at (x ∷ xs) vs zero = walk x.latest (tuples_of x.rows x.attributes vs)
tuples_at (x ∷ xs) vs (suc r) = tuples_at xs (drop (x.rows * x.attributes) vs) r

-- every variable runs over all rows of its relation
abbrev pub all_rows : (ℕ → List Tuple) → Rows
all_rows D v r = D r
