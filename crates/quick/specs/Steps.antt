-- What the steps of the pass promise: how far they went, and what they read, whatever text was copied and whatever symbols the table holds.
use Rattle.std.specs.Prelude.{ℕ, suc, ◌+◌, ◌≤◌, ◌<◌, List, ◌≡◌, length, set}
use Rattle.std.proofs.Math.Option.{some}
use Rattle.quel.specs.Results.{Word}
use Rattle.quel.specs.Tokens.{Token, key, SOME, left, semicolon, point}
use Rattle.quel.specs.Tree.{Formula}
use Rattle.quel.specs.Grammar.{IsFactor}
use Rattle.quel.specs.Names.{relation_named}
use Rattle.quel.specs.Elaboration.{Symbol}
use Rattle.tokens.specs.Codes.{Spelt}
use Rattle.names.specs.Entries.{entries}
use Rattle.parts.specs.Parts.{Copied}
use Rattle.parts.specs.Places.{Named, WordAt, TokenAt, FunctionAt}
use Rattle.parts.specs.Table.{level_at, level_now, next_number, how_many, word_at, seen, Ready, Slotted, Finds}
use Rattle.parts.specs.Reads.{OperandAt, FormulaAt, ClosedAt}
use Rattle.quick.specs.Index.{Indexed}

-- what is lent to a step, with the name list and its table
pub record Lent (list names symbols made : List ℕ) : Type 0 where
  pub indexed : Indexed list names
  pub long : length symbols ≡ 160
  pub wide : length made ≡ 1024

-- from i to j in the text, 0 where the step gave up, and from `to` to `end` in the records
pub record Went (i to j end : ℕ) (symbols made : List ℕ) : Type 0 where
  pub inside : j ≤ 254
  pub on : 1 ≤ j → i < j
  pub more : 1 ≤ j → to ≤ end
  pub long : length symbols ≡ 160
  pub wide : length made ≡ 1024

module _ (text list S T made out : List ℕ) (i to j end : ℕ) where
  -- a factor, a condition, a condition with its parenthesis
  pub record Formed (Is : List Token → Formula → List Token → Type 0) : Type 0 where
    pub reads : (given : List ℕ) (ρ : List Symbol) (ws : List Word) → Copied text given → Ready S ws ρ → 1 ≤ j → FormulaAt (entries list) ρ ws given i j S T made out to end Is

  -- a factor or a term whose first word, if there is one, has been read
  pub record FormedFrom (e v : ℕ) : Type 0 where
    pub reads : (given : List ℕ) (ρ : List Symbol) (ws : List Word) → Copied text given → Ready S ws ρ → (1 ≤ e → WordAt given i e v) → 1 ≤ j → FormulaAt (entries list) ρ ws given i j S T made out to end IsFactor

  pub record TermedFrom (e v : ℕ) : Type 0 where
    pub reads : (given : List ℕ) (ρ : List Symbol) (ws : List Word) → Copied text given → Ready S ws ρ → (1 ≤ e → WordAt given i e v) → 1 ≤ j → OperandAt (entries list) ρ ws given i j S T made out to end

  -- after SOME
  pub record SomeAfter : Type 0 where
    pub reads : (given : List ℕ) (ρ : List Symbol) (ws : List Word) (h : ℕ) → Copied text given → Ready S ws ρ → TokenAt given h i (key SOME) → 1 ≤ j → FormulaAt (entries list) ρ ws given h j S T made out to end IsFactor

  -- after X and its point
  pub record UseAfter (v : ℕ) : Type 0 where
    pub reads : (given : List ℕ) (ρ : List Symbol) (ws : List Word) (h p : ℕ) → Copied text given → Ready S ws ρ → WordAt given h p v → TokenAt given p i (key point) → 1 ≤ j
        → OperandAt (entries list) ρ ws given h j S T made out to end

  -- after a function and its parenthesis
  pub record AggregateAfter (f : ℕ) : Type 0 where
    pub reads : (given : List ℕ) (ρ : List Symbol) (ws : List Word) (h p : ℕ) → Copied text given → Ready S ws ρ → FunctionAt given h p f → TokenAt given p i (key left) → 1 ≤ j
        → OperandAt (entries list) ρ ws given h j S T made out to end

  -- what follows X.A in an aggregate over the symbol k, whose number is the last that was given
  pub record Closed (k : ℕ) : Type 0 where
    pub reads : (given : List ℕ) (ρ : List Symbol) (ws : List Word) (n : ℕ) → Copied text given → Ready S ws ρ → k < length ws → (level_at S k ≡ 255 → ⊥) → next_number S ≡ suc n → 1 ≤ j
        → ClosedAt (entries list) ρ ws given i j S T made out to end (seen S k (word_at ws k)) n

  -- the same, after the semicolon
  pub record ClosedAfter (k : ℕ) : Type 0 where
    pub reads : (given : List ℕ) (ρ : List Symbol) (ws : List Word) (n h : ℕ) → Copied text given → Ready S ws ρ → k < length ws → (level_at S k ≡ 255 → ⊥) → next_number S ≡ suc n → TokenAt given h i (key semicolon) → 1 ≤ j
        → ClosedAt (entries list) ρ ws given h j S T made out to end (seen S k (word_at ws k)) n

-- a constant that ends at j: no symbol is asked for
pub record Constant (text list made out : List ℕ) (i to j end : ℕ) : Type 0 where
  pub reads : (given : List ℕ) (S : List ℕ) (ρ : List Symbol) (ws : List Word) → Copied text given → Ready S ws ρ → 1 ≤ j → OperandAt (entries list) ρ ws given i j S S made out to end

pub record ValueAt (list made out : List ℕ) (to j end v : ℕ) : Type 0 where
  pub reads : (given : List ℕ) (i : ℕ) (S : List ℕ) (ρ : List Symbol) (ws : List Word) → Ready S ws ρ → WordAt given i j v → OperandAt (entries list) ρ ws given i j S S made out to end

-- five bytes of a record
abbrev pub five_at : List ℕ → ℕ → ℕ → ℕ → ℕ → ℕ → ℕ → List ℕ
five_at m to k a b c d = set (set (set (set (set m to k) (to + 1) a) (to + 2) b) (to + 3) c) (to + 4) d

abbrev pub three_at : List ℕ → ℕ → ℕ → ℕ → ℕ → List ℕ
three_at m to k a b = set (set (set m to k) (to + 1) a) (to + 2) b

-- SOME's symbol with the code x is bound to the relation q in the next slot, and the head of its record written
pub record Entered (S T made out : List ℕ) (to x q : ℕ) : Type 0 where
  pub long : length T ≡ 160
  pub wide : length out ≡ 1024
  pub byte : q < 256
  pub bound : Slotted S T (how_many S) x q (next_number S) (level_now S)
  pub now : level_now T ≡ level_now S
  pub next : next_number T ≡ suc (next_number S)
  pub many : how_many T ≡ how_many S + 1
  pub wrote : out ≡ three_at made to 22 (next_number S) q

-- the same with the relation that has the code r, where x is no symbol yet
pub record SomePut (list S T made out : List ℕ) (to x r : ℕ) : Type 0 where
  pub relation : ℕ
  pub slot : ℕ
  pub few : how_many S < 30
  pub less : next_number S < 200
  pub free : Finds S x slot
  pub none-there : 30 ≤ slot
  pub named : (w : Word) → Spelt w r → Named w × (relation_named (entries list) w ≡ some relation)
  pub entered : Entered S T made out to x relation
