-- The numbers of variables where a RANGE symbol is not used: they were given as if each were, and are mended.
use Rattle.std.specs.Prelude.{ℕ, zero, suc, ◌+◌, ◌-◌, ◌%◌, ◌≤◌, Bool, true, false, cond, List, [], ◌∷◌, ◌++◌, ◌≡◌, eqb, ltb}
use Rattle.std.proofs.Math.Option.{none, some}
use Rattle.quel.specs.Results.{Word, has_word}
use Rattle.quel.specs.Elaboration.{Symbol, symbol_in}
use Rattle.parts.specs.Table.{relation_at, mark_at}

-- 1 where symbol i is used, and how many before it are
abbrev pub bit_at : List ℕ → ℕ → ℕ
bit_at S i = mark_at S i % 2

unfoldable pub used_before : List ℕ → ℕ → ℕ
used_before S zero = 0
used_before S (suc i) = used_before S i + bit_at S i

-- the number of what was given the number v, where RANGE has n symbols
unfoldable pub renumber : List ℕ → ℕ → ℕ → ℕ
renumber S n v = cond (ltb v n) (used_before S v) (v - (n - used_before S n))

-- the symbols from i on as RANGE binds them: one that is not used has no number
abbrev pub bound : List ℕ → ℕ → Symbol → Symbol
bound S i s = record { word = s.word; relation = s.relation; variable = cond (eqb (bit_at S i) 1) (some (used_before S i)) none }

unfoldable pub bound_from : List ℕ → ℕ → List Symbol → List Symbol
bound_from S i [] = []
bound_from S i (s ∷ ss) = bound S i s ∷ bound_from S (suc i) ss

-- the symbols from i on are marked as the words us use them
unfoldable pub MarkedFrom : List ℕ → List Word → ℕ → List Symbol → Type 0
MarkedFrom S us i [] = Unit
MarkedFrom S us i (s ∷ ss) = (has_word s.word us ≡ eqb (bit_at S i) 1) × MarkedFrom S us (suc i) ss

-- what ρ' has for a symbol of ρ: its relation, and f of its number where one of us is its word
pub record Renamed (f : ℕ → ℕ) (us : List Word) (ρ' : List Symbol) (x : Word) (s : Symbol) : Type 0 where
  pub symbol : Symbol
  pub found : symbol_in x ρ' ≡ some symbol
  pub word : symbol.word ≡ s.word
  pub relation : symbol.relation ≡ s.relation
  pub number : has_word x us ≡ true → (v : ℕ) → s.variable ≡ some v → symbol.variable ≡ some (f v)

pub record Renames (f : ℕ → ℕ) (us : List Word) (ρ ρ' : List Symbol) : Type 0 where
  pub of : (x : Word) (s : Symbol) → symbol_in x ρ ≡ some s → Renamed f us ρ' x s

-- numbers from k on stay in order, and none grows
pub record Steady (f : ℕ → ℕ) (k : ℕ) : Type 0 where
  pub next : (j : ℕ) → k ≤ j → f (suc j) ≡ suc (f j)
  pub low : (j : ℕ) → f j ≤ j

-- which bytes after a record's first are a variable
unfoldable pub body_of : ℕ → List Bool
body_of k =
    cond (ltb k 21) []
    (cond (eqb k 21) (false ∷ [])
    (cond (eqb k 32) (false ∷ false ∷ false ∷ false ∷ [])
    (cond (eqb k 34) (false ∷ true ∷ false ∷ false ∷ []) (true ∷ false ∷ []))))

-- records, each variable v written as f v; vs says it of the bytes up to the next record
unfoldable pub mended : (ℕ → ℕ) → List Bool → List ℕ → List ℕ
mended f vs [] = []
mended f [] (k ∷ bs) = k ∷ mended f (body_of k) bs
mended f (v ∷ vs) (b ∷ bs) = cond v (f b) b ∷ mended f vs bs

-- the RANGE records of those of k symbols from i on that are used
unfoldable pub range_bytes : (ℕ → ℕ) → List ℕ → ℕ → ℕ → List ℕ
range_bytes number S i zero = []
range_bytes number S i (suc k) =
    elim (eqb (bit_at S i) 1) [ true ↦ 1 ∷ number i ∷ relation_at S i % 256 ∷ range_bytes number S (suc i) k | false ↦ range_bytes number S (suc i) k ]

-- the records of a text with n RANGE symbols, of which those of targets and condition were made as if each symbol were used
unfoldable pub records_of : List ℕ → ℕ → List ℕ → List ℕ
records_of S n bs = range_bytes (used_before S) S 0 n ++ mended (renumber S n) [] bs

-- the relations of the symbols from i on, by the table
unfoldable pub RelatedFrom : List ℕ → ℕ → List Symbol → Type 0
RelatedFrom S i [] = Unit
RelatedFrom S i (s ∷ ss) = (relation_at S i % 256 ≡ s.relation) × RelatedFrom S (suc i) ss
