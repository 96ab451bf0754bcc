-- The bytes of a guard: the OR of the applying permits' conditions, copied for a variable (document 01, "Permits and the rewriting", step 4).
use Rattle.std.specs.Prelude.{ℕ, zero, suc, ◌+◌, ◌*◌, ◌/◌, ◌%◌, ◌≡◌, Bool, cond, List, [], ◌∷◌, ◌++◌, eqb, length, get_or, take, drop}
use Rattle.model.specs.Lists.{cons_if, total}
use Rattle.scans.specs.Flat.{flat_bindings}
use Rattle.copier.specs.Copied.{copied_bytes}

-- the bytes of a permit's condition: places holds for each permit of the list where its condition starts and how long it is
unfoldable pub part : List ℕ → List ℕ → ℕ → List ℕ
part permits places k = take (get_or places (2 * k + 1) 0) (drop (get_or places (2 * k) 0) permits)

-- those of the parts from k on that have their bit in m, the lowest bit for part k
unfoldable pub picked : ℕ → ℕ → ℕ → (ℕ → List ℕ) → List (List ℕ)
picked zero m k f = []
picked (suc l) m k f = cons_if (eqb (m % 2) 1) (f k) (picked l (m / 2) (suc k) f)

abbrev pub new_in_part : List ℕ → ℕ
new_in_part b = length (flat_bindings b)

-- OR before each but the last: nested to the right
unfoldable pub disjunction_bytes : List (List ℕ) → ℕ → ℕ → List ℕ
disjunction_bytes [] v n = 17 ∷ []
disjunction_bytes (b ∷ []) v n = copied_bytes b v n
disjunction_bytes (b ∷ c ∷ bs) v n = 20 ∷ (copied_bytes b v n ++ disjunction_bytes (c ∷ bs) v (n + new_in_part b))

-- a variable with no applying permit has no guard
abbrev pub or_nothing : ℕ → List ℕ → List ℕ
or_nothing m bs = cond (eqb m 0) [] bs

unfoldable pub guard_from : ℕ → ℕ → ℕ → (ℕ → List ℕ) → ℕ → ℕ → List ℕ
guard_from l m k f v n = or_nothing m (disjunction_bytes (picked l m k f) v n)

unfoldable pub new_from : ℕ → ℕ → ℕ → (ℕ → List ℕ) → ℕ
new_from l m k f = total new_in_part (picked l m k f)

-- the guard of a variable, and how many new numbers it takes; bit k of m is for permit k
abbrev pub guard_bytes : ℕ → (ℕ → List ℕ) → ℕ → ℕ → List ℕ
guard_bytes m f v n = guard_from m m 0 f v n

abbrev pub guard_new : ℕ → (ℕ → List ℕ) → ℕ
guard_new m f = new_from m m 0 f

-- the AND before a condition that gets a guard
abbrev pub opening : ℕ → List ℕ
opening m = or_nothing m (19 ∷ [])

-- one permit's turn: m has its bit and those of the permits after it
abbrev pub turn_bytes : ℕ → List ℕ → ℕ → ℕ → List ℕ
turn_bytes m b v n = cond (eqb (m % 2) 1) (or_nothing (m / 2) (20 ∷ []) ++ copied_bytes b v n) []

abbrev pub turn_new : ℕ → List ℕ → ℕ
turn_new m b = cond (eqb (m % 2) 1) (new_in_part b) 0

-- the mask of those in a list that pass a test, the lowest bit for the first
unfoldable pub bits_of : {A : Type 0} → (A → Bool) → List A → ℕ
bits_of t [] = 0
bits_of t (x ∷ xs) = cond (t x) 1 0 + 2 * bits_of t xs

-- from k on, the parts are those of the list
unfoldable pub PartsOf : {A : Type 0} → (A → List ℕ) → (ℕ → List ℕ) → ℕ → List A → Type 0
PartsOf g f k [] = Unit
PartsOf g f k (x ∷ xs) = (f k ≡ g x) × PartsOf g f (suc k) xs
