-- What a name stands for, as a number: a mode, a relation, a variable and a place, packed.
use Rattle.std.specs.Prelude.{ℕ, ◌/◌, ◌%◌, Bool, true, false, not, cond, ◌&&◌, eqb, leb, Some, None}
use Rattle.std.specs.Prelude as P
use Rattle.std.proofs.Math.Option.{Option, none, some}
use Rattle.quel.specs.Results.{Word}
use Rattle.quel.specs.Elaboration.{Symbol}
use Rattle.elaborate.specs.declared.reach.Known.{Known}

abbrev pub mode_in : ℕ → ℕ
mode_in c = c % 4

abbrev pub relation_in : ℕ → ℕ
relation_in c = c / 4 % 256

abbrev pub variable_in : ℕ → ℕ
variable_in c = c / 1024 % 256

abbrev pub place_in : ℕ → ℕ
place_in c = c / 262144

-- whether a name is used: one that stands for nothing yet is marked, by 4; one of the RANGE list is a variable then
abbrev pub used_in : ℕ → Bool
used_in c = cond (eqb (mode_in c) 0) (not (eqb c 0)) (eqb (mode_in c) 1)

-- a symbol of the RANGE list: where its name stands, its relation, and its variable, if it is used
pub record Bound : Type 0 where
  pub place : ℕ
  pub relation : ℕ
  pub variable : Option ℕ

unfoldable pub range_symbol : (ℕ → Word) → Bound → Symbol
range_symbol w c = record { word = w c.place; relation = c.relation; variable = c.variable }

-- what a symbol names
abbrev pub given : Option ℕ → P.Option ℕ
given none = None
given (some v) = Some v

abbrev pub known_by : ℕ → Option ℕ → P.Option Known
known_by r o = Some (record { relation = r; variable = given o })

abbrev pub known_of : Option Symbol → P.Option Known
known_of none = None
known_of (some s) = known_by s.relation s.variable

-- past an aggregate's head a symbol only names its relation
abbrev pub hide : Bool → P.Option Known → P.Option Known
hide false o = o
hide true None = None
hide true (Some k) = Some (record { relation = k.relation; variable = None })

-- what a name stands for, by its entry: mode 0 nothing, 1 a variable, else a relation alone; its place is the frame that bound it. The symbols that were bound
-- before the innermost aggregate's frame only name their relations
abbrev pub standing : ℕ → ℕ → P.Option Known
standing crossing c =
    cond (eqb (mode_in c) 0) None (Some (record { relation = relation_in c; variable = cond (eqb (mode_in c) 1 && leb crossing (place_in c)) (Some (variable_in c)) None }))
