-- The bytes of a rewritten query, the guards given by a mask of applying permits for each variable (document 01, "Permits and the rewriting", step 4).
use Rattle.std.specs.Prelude.{ℕ, ◌+◌, ◌<◌, List, [], ◌∷◌, ◌++◌, map, ◌≡◌, length, get_or, take, drop}
use Rattle.model.specs.Lists.{total, Every}
use Rattle.model.specs.Permits.{Guard, free, only, Guards}
use Rattle.model.specs.Encoding.{encode}
use Rattle.model.specs.Syntax.{Condition, Term, TRUE, FALSE, NOT, AND, OR, COMPARE, SOME, CONSTANT, ATTRIBUTE, AGGREGATE, Binding, bindings, bindings_t}
use Rattle.sizes.specs.Decode.{first, second, decode, decode_t}
use Rattle.copier.specs.Guard.{part, picked, opening, guard_bytes, guard_new}

-- a table of applying permits: where each permit's condition stands, then for each variable a mask of its permits
abbrev pub places_in : List ℕ → List ℕ
places_in t = take 16 t

abbrev pub masks_in : List ℕ → List ℕ
masks_in t = drop 16 t

-- the bytes of each permit's condition, by the table
abbrev pub part_in : List ℕ → List ℕ → ℕ → List ℕ
part_in permits t = part permits (places_in t)

-- by variable a mask of permits, 0 for none; the bytes of each permit's condition
module _ (masks : List ℕ) (f : ℕ → List ℕ) where
  abbrev pub mask_of : ℕ → ℕ
  mask_of v = get_or masks v 0

  -- how many new numbers the guards of bound variables take
  unfoldable pub new_of : List Binding → ℕ
  new_of bs = total (λ (b : Binding). guard_new (mask_of b.variable) f) bs

  -- the condition under a binding, of the bytes w and k new numbers: AND before it, and the guard after it
  abbrev pub guarded_bytes : ℕ → List ℕ → ℕ → ℕ → List ℕ
  guarded_bytes v w k n = opening (mask_of v) ++ (w ++ guard_bytes (mask_of v) f v (n + k))

  unfoldable mutual
    pub rewritten : Condition → ℕ → List ℕ
    rewritten TRUE n = 16 ∷ []
    rewritten FALSE n = 17 ∷ []
    rewritten (NOT c) n = 18 ∷ rewritten c n
    rewritten (AND c d) n = 19 ∷ (rewritten c n ++ rewritten d (n + new_of (bindings c)))
    rewritten (OR c d) n = 20 ∷ (rewritten c n ++ rewritten d (n + new_of (bindings c)))
    rewritten (COMPARE o s t) n = 21 ∷ o ∷ (rewritten_t s n ++ rewritten_t t (n + new_of (bindings_t s)))
    rewritten (SOME v r c) n = 22 ∷ v ∷ r ∷ guarded_bytes v (rewritten c n) (new_of (bindings c)) n

    pub rewritten_t : Term → ℕ → List ℕ
    rewritten_t (CONSTANT a b c d) n = 32 ∷ a ∷ b ∷ c ∷ d ∷ []
    rewritten_t (ATTRIBUTE v a) n = 33 ∷ v ∷ a ∷ []
    rewritten_t (AGGREGATE h v r a c) n = 34 ∷ h ∷ v ∷ r ∷ a ∷ guarded_bytes v (rewritten c n) (new_of (bindings c)) n

  -- what bytes q and their table z stand for, rewritten, and how many new numbers that takes
  abbrev pub condition_bytes : ℕ → List ℕ → List ℕ → ℕ → List ℕ
  condition_bytes l q z n = rewritten (decode l q z) n

  abbrev pub condition_new : ℕ → List ℕ → List ℕ → ℕ
  condition_new l q z = new_of (bindings (decode l q z))

  abbrev pub term_bytes : ℕ → List ℕ → List ℕ → ℕ → List ℕ
  term_bytes l q z n = rewritten_t (decode_t l q z) n

  abbrev pub term_new : ℕ → List ℕ → List ℕ → ℕ
  term_new l q z = new_of (bindings_t (decode_t l q z))

-- a reader of the bytes and the table from a place on
abbrev pub from : {A : Type 0} → (List ℕ → List ℕ → A) → ℕ → List ℕ → List ℕ → A
from g a q z = g (drop a q) (drop a z)

-- both children of the record at q
abbrev pub both_bytes : (List ℕ → List ℕ → ℕ → List ℕ) → (List ℕ → List ℕ → ℕ) → List ℕ → List ℕ → ℕ → List ℕ
both_bytes w k q z n = from w (first q) q z n ++ from w (second q z) q z (n + from k (first q) q z)

abbrev pub both_new : (List ℕ → List ℕ → ℕ) → List ℕ → List ℕ → ℕ
both_new k q z = from k (first q) q z + from k (second q z) q z

-- the child of a record that binds v
abbrev pub under_bytes : List ℕ → (ℕ → List ℕ) → ℕ → ℕ → List ℕ → List ℕ → ℕ → List ℕ
under_bytes masks f v l q z n = guarded_bytes masks f v (from (condition_bytes masks f l) (first q) q z n) (from (condition_new masks f l) (first q) q z) n

abbrev pub under_new : List ℕ → (ℕ → List ℕ) → ℕ → ℕ → List ℕ → List ℕ → ℕ
under_new masks f v l q z = from (condition_new masks f l) (first q) q z + guard_new (mask_of masks f v) f

-- there is room for the place after the bytes w, and the k new numbers after n are bytes
abbrev pub Room : ℕ → ℕ → List ℕ → ℕ → Type 0
Room at n w k = (at + length w < 9223372036854775808) × (n + k < 256)

-- the place after the bytes w, and the next number after k new ones
abbrev pub After : ℕ → ℕ → List ℕ → ℕ → ℕ → ℕ → Type 0
After at n w k p m = (p ≡ at + length w) × (m ≡ n + k)

-- a mask and the parts stand for a guard: no bit for no guard, else the parts with a bit are its conditions
unfoldable pub StandsFor : Guard → ℕ → (ℕ → List ℕ) → Type 0
StandsFor free m f = m ≡ 0
StandsFor (only cs) m f = (m ≡ 0 → ⊥) × (picked m m 0 f ≡ map (λ c. encode c []) cs)

-- and so for each bound variable
unfoldable pub Stands : Guards → List ℕ → (ℕ → List ℕ) → List Binding → Type 0
Stands G masks f bs = Every (λ (b : Binding). StandsFor (G b.variable b.relation) (get_or masks b.variable 0) f) bs
