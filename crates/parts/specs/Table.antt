-- The table of symbols: four words for each (code, relation, variable's number, level of aggregates), then marks and three numbers.
use Rattle.std.specs.Prelude.{ℕ, zero, suc, ◌+◌, ◌*◌, ◌≤◌, ◌<◌, Bool, cond, List, [], ◌++◌, ◌≡◌, eqb, length, get_or}
use Rattle.std.proofs.Math.Option.{Option, none, some}
use Rattle.quel.specs.Results.{Word, has_word}
use Rattle.quel.specs.Elaboration.{Symbol, symbol_in}
use Rattle.tokens.specs.Codes.{Spelt}
use Rattle.parts.specs.Places.{Named}

abbrev pub code_at : List ℕ → ℕ → ℕ
code_at S i = get_or S (4 * i) 0

abbrev pub relation_at : List ℕ → ℕ → ℕ
relation_at S i = get_or S (4 * i + 1) 0

abbrev pub number_at : List ℕ → ℕ → ℕ
number_at S i = get_or S (4 * i + 2) 0

-- 255: closed
abbrev pub level_at : List ℕ → ℕ → ℕ
level_at S i = get_or S (4 * i + 3) 0

-- 1 where an X.A outside all aggregates used the symbol
abbrev pub mark_at : List ℕ → ℕ → ℕ
mark_at S i = get_or S (124 + i) 0

abbrev pub level_now : List ℕ → ℕ
level_now S = get_or S 155 0

abbrev pub next_number : List ℕ → ℕ
next_number S = get_or S 156 0

abbrev pub how_many : List ℕ → ℕ
how_many S = get_or S 157 0

abbrev pub word_at : List Word → ℕ → Word
word_at ws i = get_or ws i []

-- the symbols' words, in order of binding
pub record Words (S : List ℕ) (ws : List Word) : Type 0 where
  pub long : length S ≡ 160
  pub few : length ws ≤ 30
  pub spelt : (i : ℕ) → i < length ws → Spelt (word_at ws i) (code_at S i)
  pub small : (i : ℕ) → i < length ws → code_at S i < 288230376151711744
  pub named : (i : ℕ) → i < length ws → Named (word_at ws i)
  pub bytes : (i : ℕ) → i < length ws → (relation_at S i < 256) × (number_at S i < 256)
  pub zeros : (i : ℕ) → length ws ≤ i → i < 30 → code_at S i ≡ 0
  pub distinct : (i j : ℕ) → i < length ws → j < length ws → word_at ws i ≡ word_at ws j → i ≡ j

-- the slot with the code v, 30 where there is none before the first 0
pub record Finds (S : List ℕ) (v r : ℕ) : Type 0 where
  pub hit : r < 30 → code_at S r ≡ v
  pub miss : 30 ≤ r → (i : ℕ) → i < 30 → ((j : ℕ) → j ≤ i → code_at S j ≡ 0 → ⊥) → code_at S i ≡ v → ⊥

-- what a slot says of its word: X.A may use it where its level is the level now
abbrev pub seen : List ℕ → ℕ → Word → Symbol
seen S i w = record { word = w; relation = relation_at S i; variable = cond (eqb (level_at S i) (level_now S)) (some (number_at S i)) none }

abbrev pub held_at : List ℕ → ℕ → Word → Option Symbol
held_at S i w = cond (eqb (level_at S i) 255) none (some (seen S i w))

abbrev pub Absent : Word → List Word → Type 0
Absent x ws = (i : ℕ) → i < length ws → word_at ws i ≡ x → ⊥

-- the table holds the symbols ρ
pub record Tabled (S : List ℕ) (ws : List Word) (ρ : List Symbol) : Type 0 where
  pub words : Words S ws
  pub held : (i : ℕ) → i < length ws → symbol_in (word_at ws i) ρ ≡ held_at S i (word_at ws i)
  pub absent : (x : Word) → Absent x ws → symbol_in x ρ ≡ none
  pub reach : (i : ℕ) → i < length ws → (level_at S i ≡ 255 → ⊥) → level_at S i ≤ level_now S
  pub shallow : level_now S ≤ 100

-- and says how many there are and which number is next
pub record Ready (S : List ℕ) (ws : List Word) (ρ : List Symbol) : Type 0 where
  pub tabled : Tabled S ws ρ
  pub size : how_many S ≡ length ws
  pub next : next_number S ≤ 200

-- T is S with further symbols zs, all closed; the next number and marks may differ
pub record Grown (S T : List ℕ) (ws zs : List Word) : Type 0 where
  pub words : Words T (ws ++ zs)
  pub size : how_many T ≡ length (ws ++ zs)
  pub next : next_number T ≤ 200
  pub kept : (i : ℕ) → i < 4 * length ws → get_or T i 0 ≡ get_or S i 0
  pub level : level_now T ≡ level_now S
  pub closed : (i : ℕ) → length ws ≤ i → i < length (ws ++ zs) → level_at T i ≡ 255

-- T is S with another slot k, up to the level now
pub record Slotted (S T : List ℕ) (k v q n l : ℕ) : Type 0 where
  pub long : length T ≡ length S
  pub code : code_at T k ≡ v
  pub relation : relation_at T k ≡ q
  pub number : number_at T k ≡ n
  pub level : level_at T k ≡ l
  pub below : (i : ℕ) → i < 4 * k → get_or T i 0 ≡ get_or S i 0
  pub above : (i : ℕ) → 4 * k + 4 ≤ i → i < 155 → get_or T i 0 ≡ get_or S i 0

-- which of the first symbols are used
abbrev pub flag : Bool → ℕ
flag b = cond b 1 0

pub record Marked (S : List ℕ) (gs us : List Word) : Type 0 where
  pub marks : (i : ℕ) → i < length gs → mark_at S i ≡ flag (has_word (word_at gs i) us)

-- what counts as used at a level of aggregates
abbrev pub outside : ℕ → List Word → List Word
outside zero us = us
outside (suc l) us = []
