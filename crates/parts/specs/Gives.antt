-- What parts of a text give: with the symbols ρ and n the next variable's number, the record's bytes and the number afterwards.
use Rattle.std.specs.Prelude.{ℕ, List, [], ◌++◌, ◌≡◌}
use Rattle.std.proofs.Math.Option.{Option}
use Rattle.model.specs.Syntax.{Condition, Term}
use Rattle.model.specs.Encoding.{encode, encode_t, encode_targets}
use Rattle.quel.specs.Results.{ok}
use Rattle.quel.specs.Tree.{Formula, Operand, Target}
use Rattle.quel.specs.Names.{Entry}
use Rattle.quel.specs.Elaboration.{Symbol, elaborate, elaborate_o, elaborate_ts, elaborate_q}
use Rattle.parts.specs.Parts.{joined}

module _ (es : List Entry) (ρ : List Symbol) (n : ℕ) where
  pub record GivesO (a : Operand) (m : ℕ) (bs : List ℕ) : Type 0 where
    pub value : Term
    pub says : elaborate_o es a ρ n ≡ ok value m
    pub bytes : (r : List ℕ) → encode_t value r ≡ bs ++ r

  pub record GivesTs (ts : List Target) (m : ℕ) (bs : List ℕ) : Type 0 where
    pub values : List Term
    pub says : elaborate_ts es ts ρ n ≡ ok values m
    pub bytes : (r : List ℕ) → encode_targets values r ≡ bs ++ r

  pub record GivesC (c : Formula) (m : ℕ) (bs : List ℕ) : Type 0 where
    pub value : Condition
    pub says : elaborate es c ρ n ≡ ok value m
    pub bytes : (r : List ℕ) → encode value r ≡ bs ++ r

  -- a qualification's records: TRUE where there is none
  pub record GivesQ (q : Option Formula) (m : ℕ) (bs : List ℕ) : Type 0 where
    pub value : Condition
    pub says : elaborate_q es q ρ n ≡ ok value m
    pub bytes : encode value [] ≡ bs

-- a condition up to where a conjunct begins: the bytes that stand before the conjunct's, and the number there
pub record Counted (es : List Entry) (ρ : List Symbol) (n : ℕ) (o : Option Formula) (m : ℕ) (bs : List ℕ) : Type 0 where
  pub gives : (a : Formula) (k : ℕ) (x : List ℕ) → GivesC es ρ m a k x → GivesC es ρ n (joined o a) k (bs ++ x)
