-- What the quick pass has read from place i to place j of a text, with the symbols ρ of a table S, which is T afterwards, and written behind the first `to` bytes of `made`, which is `out` afterwards.
use Rattle.std.specs.Prelude.{ℕ, ◌+◌, ◌<◌, List, [], ◌∷◌, ◌++◌, ◌≡◌, length, take}
use Rattle.std.proofs.Math.Option.{Option, some}
use Rattle.model.specs.Lists.{concat_map}
use Rattle.quel.specs.Results.{Word, Several, each}
use Rattle.quel.specs.Tokens.{Function, Token, name, function, key, RANGE, RETRIEVE, left, right, comma, colon, point}
use Rattle.quel.specs.Tree.{Formula, Operand, Target, Of, Range}
use Rattle.quel.specs.Grammar.{IsOperand, IsTarget, IsName, IsQualification, IsRange, Listed}
use Rattle.quel.specs.Names.{Entry, attribute_named}
use Rattle.quel.specs.Elaboration.{somes, somes_o, somes_t, used, used_o, used_t, of_qualification, function_of, Symbol, symbol_in}
use Rattle.parts.specs.Parts.{Spells, Part}
use Rattle.parts.specs.Gives.{GivesO, GivesTs, GivesC, GivesQ}
use Rattle.parts.specs.Table.{relation_at, mark_at, level_now, next_number, how_many, Tabled, Grown, Marked, outside}
use Rattle.parts.specs.Ranges.{in_order, over, symbol_at, words_of, Ranged}

-- the words us are used, where no aggregate is open
pub record Uses (S T : List ℕ) (ws us : List Word) : Type 0 where
  pub marked : (gs os vs : List Word) → ws ≡ gs ++ os → Marked S gs vs → Marked T gs (vs ++ outside (level_now S) us)

-- the bytes bs are written
pub record Wrote (made out : List ℕ) (to end : ℕ) (bs : List ℕ) : Type 0 where
  pub written : take end out ≡ take to made ++ bs
  pub ends : end ≡ to + length bs

module _ (es : List Entry) (ρ : List Symbol) (ws : List Word) (text : List ℕ) (i j : ℕ) (S T made out : List ℕ) (to end : ℕ) where
  pub record OperandAt : Type 0 where
    pub is : Operand
    pub tokens : List Token
    pub bytes : List ℕ
    pub spells : Spells text i j tokens
    pub derived : Part IsOperand tokens is
    pub gives : GivesO es ρ (next_number S) is (next_number T) bytes
    pub grown : Grown S T ws (somes_o is)
    pub uses : Uses S T ws (used_o is)
    pub wrote : Wrote made out to end bytes

  -- X.A or an aggregate
  pub record TargetAt : Type 0 where
    pub is : Target
    pub tokens : List Token
    pub bytes : List ℕ
    pub spells : Spells text i j tokens
    pub derived : Part IsTarget tokens is
    pub gives : GivesO es ρ (next_number S) (Of is) (next_number T) bytes
    pub grown : Grown S T ws (somes_t is)
    pub uses : Uses S T ws (used_t is)
    pub wrote : Wrote made out to end bytes

  -- a factor, a conjunct or a condition
  pub record FormulaAt (Is : List Token → Formula → List Token → Type 0) : Type 0 where
    pub is : Formula
    pub tokens : List Token
    pub bytes : List ℕ
    pub spells : Spells text i j tokens
    pub derived : Part Is tokens is
    pub gives : GivesC es ρ (next_number S) is (next_number T) bytes
    pub grown : Grown S T ws (somes is)
    pub uses : Uses S T ws (used is)
    pub wrote : Wrote made out to end bytes

  pub record TargetsAt : Type 0 where
    pub are : Several Target
    pub tokens : List Token
    pub bytes : List ℕ
    pub spells : Spells text i j tokens
    pub derived : Part (Listed comma IsTarget) tokens are
    pub gives : GivesTs es ρ (next_number S) (each are) (next_number T) bytes
    pub grown : Grown S T ws (concat_map somes_t (each are))
    pub uses : Uses S T ws (concat_map used_t (each are))
    pub wrote : Wrote made out to end bytes

  -- the targets and what follows them
  pub record RestAt : Type 0 where
    pub are : Several Target
    pub qualification : Option Formula
    pub tokens : List Token
    pub tail : List Token
    pub between : ℕ
    pub xs : List ℕ
    pub ys : List ℕ
    pub spells : Spells text i j (tokens ++ tail)
    pub derived : Part (Listed comma IsTarget) tokens are
    pub qualified : IsQualification tail qualification
    pub gives : GivesTs es ρ (next_number S) (each are) between xs
    pub last : GivesQ es ρ between qualification (next_number T) ys
    pub grown : Grown S T ws (concat_map somes_t (each are) ++ of_qualification somes qualification)
    pub uses : Uses S T ws (concat_map used_t (each are) ++ of_qualification used qualification)
    pub wrote : Wrote made out to end (xs ++ ys)

-- what follows X.A in an aggregate over the symbol s, which takes the number n: a parenthesis, or a condition and a parenthesis
pub record ClosedAt (es : List Entry) (ρ : List Symbol) (ws : List Word) (text : List ℕ) (i j : ℕ) (S T made out : List ℕ) (to end : ℕ) (s : Symbol) (n : ℕ) : Type 0 where
  pub is : Function → Word → Word → Target
  pub tokens : List Token
  pub bytes : List ℕ
  pub somes-of : List Word
  pub spells : Spells text i j tokens
  pub derived : (f : Function) (x a : Word) → Part IsTarget (function f ∷ key left ∷ name x ∷ key point ∷ name a ∷ tokens) (is f x a)
  pub gives : (f : Function) (x a : Word) (b : ℕ) → symbol_in x ρ ≡ some s → attribute_named es s.relation a ≡ some b
      → GivesO es ρ n (Of (is f x a)) (next_number T) (34 ∷ function_of f ∷ n ∷ s.relation ∷ b ∷ bytes)
  pub binds : (f : Function) (x a : Word) → somes_t (is f x a) ≡ somes-of
  pub no-use : (f : Function) (x a : Word) → used_t (is f x a) ≡ []
  pub grown : Grown S T ws somes-of
  pub uses : Uses S T ws []
  pub wrote : Wrote made out to end bytes

-- RANGE symbols: those of ss are in the table, numbered as if each were used; none is marked
pub record Heads (S : List ℕ) (ss : List Symbol) : Type 0 where
  pub tabled : Tabled S (words_of ss) (in_order 0 ss)
  pub level : level_now S ≡ 0
  pub unmarked : (i : ℕ) → i < 30 → mark_at S i ≡ 0
  pub related : (i : ℕ) → i < length ss → relation_at S i ≡ (symbol_at ss i).relation

-- after those of ss, n in all
module _ (es : List Entry) (text : List ℕ) (i j : ℕ) (T : List ℕ) (n : ℕ) where
  -- the symbols of relation q, and the parenthesis that closes
  pub record SymbolsAt (q : ℕ) (ss : List Symbol) : Type 0 where
    pub are : Several Word
    pub tokens : List Token
    pub spells : Spells text i j (tokens ++ (key right ∷ []))
    pub derived : Part (Listed comma IsName) tokens are
    pub heads : Heads T (ss ++ over q (each are))
    pub size : n ≡ length (ss ++ over q (each are))

  -- a relation and its symbols
  pub record RangeAt (ss : List Symbol) : Type 0 where
    pub is : Range
    pub tokens : List Token
    pub more : List Symbol
    pub spells : Spells text i j tokens
    pub derived : Part IsRange tokens is
    pub ranged : (gs : List Range) → Ranged es gs ss → Ranged es (gs ++ (is ∷ [])) (ss ++ more)
    pub heads : Heads T (ss ++ more)
    pub size : n ≡ length (ss ++ more)

  pub record RangesAt : Type 0 where
    pub are : Several Range
    pub tokens : List Token
    pub symbols : List Symbol
    pub spells : Spells text i j tokens
    pub derived : Part (Listed colon IsRange) tokens are
    pub ranged : Ranged es (each are) symbols
    pub heads : Heads T symbols
    pub size : n ≡ length symbols

-- all up to the first target
pub record HeadAt (es : List Entry) (text : List ℕ) (j : ℕ) (T : List ℕ) : Type 0 where
  pub are : Several Range
  pub workspace : Word
  pub tokens : List Token
  pub symbols : List Symbol
  pub spells : Spells text 0 j (key RANGE ∷ (tokens ++ (key RETRIEVE ∷ name workspace ∷ key colon ∷ [])))
  pub derived : Part (Listed colon IsRange) tokens are
  pub ranged : Ranged es (each are) symbols
  pub heads : Heads T symbols
  pub next : next_number T ≡ length symbols
  pub size : how_many T ≡ length symbols
