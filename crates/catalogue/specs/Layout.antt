-- The catalogue's bytes and the slice of values, read for any bytes: four bytes a relation, 0 where there are none
-- (document 01, "Catalogue and relations"). For a catalogue that passes check 10 these are the model's (proofs/Reading).
use Rattle.std.specs.Prelude.{ℕ, zero, suc, ◌+◌, ◌*◌, ◌/◌, Bool, not, ◌&&◌, ◌||◌, List, [], ◌∷◌, map, eqb, leb, ltb, ℤ, pos, length, get_or}
use Rattle.model.specs.Lists.{filter}
use Rattle.model.specs.Meaning.{Tuple}
use Rattle.model.specs.Catalogue.{walk}
use Rattle.catalogue.specs.declared.Relation.{Relation}

unfoldable pub kind_of : List ℕ → ℕ → ℕ
kind_of c r = get_or c (4 * r) 0

unfoldable pub attributes_of : List ℕ → ℕ → ℕ
attributes_of c r = get_or c (4 * r + 1) 0

unfoldable pub rows_of : List ℕ → ℕ → ℕ
rows_of c r = get_or c (4 * r + 2) 0 + 256 * get_or c (4 * r + 3) 0

abbrev pub stored_of : List ℕ → ℕ → Bool
stored_of c r = not (eqb (kind_of c r) 49)

-- its latest row is met first
abbrev pub latest_of : List ℕ → ℕ → Bool
latest_of c r = eqb (kind_of c r) 50

-- how many relations
abbrev pub count_of : List ℕ → ℕ
count_of c = length c / 4

-- a relation, as its record says it
abbrev pub relation_of : List ℕ → ℕ → Relation
relation_of c r = record { listed = ltb r (count_of c); stored = stored_of c r; latest = latest_of c r; attributes = attributes_of c r; rows = rows_of c r }

-- where the values of relation r begin; of relation 16, how many values there are in all
unfoldable pub base_of : List ℕ → ℕ → ℕ
base_of c zero = 0
base_of c (suc r) = base_of c r + rows_of c r * attributes_of c r

-- kind 48, 49 or 50, attributes 1 to 16, rows 0 to 1,024
abbrev pub known_of : List ℕ → ℕ → Bool
known_of c r = (eqb (kind_of c r) 48 || eqb (kind_of c r) 49 || eqb (kind_of c r) 50) && ((leb 1 (attributes_of c r) && leb (attributes_of c r) 16) && leb (rows_of c r) 1024)

-- the tuple whose values begin at p
abbrev pub tuple_at : List ℤ → ℕ → Tuple
tuple_at vs p a = get_or vs (p + a) (pos 0)

-- where the first n rows begin, from p on, w values apart
unfoldable pub offsets : ℕ → ℕ → ℕ → List ℕ
offsets p w zero = []
offsets p w (suc n) = p ∷ offsets (p + w) w n

-- the rows of a relation, in the walk
unfoldable pub tuples_in : List ℕ → List ℤ → ℕ → List Tuple
tuples_in c vs r = walk (latest_of c r) (map (tuple_at vs) (offsets (base_of c r) (attributes_of c r) (rows_of c r)))

-- the values of attribute a in the first n rows that meet a condition
unfoldable pub kept : List ℤ → (Tuple → Bool) → ℕ → ℕ → ℕ → ℕ → List ℤ
kept vs f a p w n = map (λ (x : Tuple). x a) (filter f (map (tuple_at vs) (offsets p w n)))
