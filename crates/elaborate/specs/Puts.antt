-- What is written at a token and what is in reach after it, by the token's record.
use Rattle.std.specs.Prelude.{ℕ, suc, cond, ◌||◌, ◌∷◌, ◌++◌, map, eqb, Option, Some, None}
use Rattle.std.proofs.Math.Option.{some}
use Rattle.quel.specs.Results.{fail, Word}
use Rattle.quel.specs.Elaboration.{Symbol, head_only}
use Rattle.quel.specs.Writing.{Written, before, Reaches, inner, around}
use Rattle.kinds.specs.declared.Record.{Record}
use Rattle.kinds.specs.declared.Record.TheVariants as R
use Rattle.copier.specs.Copied.{record_bytes}

-- the frame of a record: SOME (1) binds the name after it, an aggregate (2) that two tokens on
abbrev pub frame_mode : Record → ℕ
frame_mode (R.Range a b) = 0
frame_mode R.True = 0
frame_mode R.False = 0
frame_mode R.Not = 0
frame_mode R.And = 0
frame_mode R.Or = 0
frame_mode (R.Compare a) = 0
frame_mode (R.Some a b) = 1
frame_mode (R.Constant a b c d) = 0
frame_mode (R.Attribute a b) = 0
frame_mode (R.Aggregate a b c d) = 2
frame_mode (R.Permit a b c) = 0
frame_mode R.Unknown = 0
frame_mode R.Short = 0

abbrev pub frame_relation : Record → ℕ
frame_relation (R.Range a b) = 0
frame_relation R.True = 0
frame_relation R.False = 0
frame_relation R.Not = 0
frame_relation R.And = 0
frame_relation R.Or = 0
frame_relation (R.Compare a) = 0
frame_relation (R.Some a b) = b
frame_relation (R.Constant a b c d) = 0
frame_relation (R.Attribute a b) = 0
frame_relation (R.Aggregate a b c d) = c
frame_relation (R.Permit a b c) = 0
frame_relation R.Unknown = 0
frame_relation R.Short = 0

abbrev pub frame_variable : Record → ℕ
frame_variable (R.Range a b) = 0
frame_variable R.True = 0
frame_variable R.False = 0
frame_variable R.Not = 0
frame_variable R.And = 0
frame_variable R.Or = 0
frame_variable (R.Compare a) = 0
frame_variable (R.Some a b) = a
frame_variable (R.Constant a b c d) = 0
frame_variable (R.Attribute a b) = 0
frame_variable (R.Aggregate a b c d) = b
frame_variable (R.Permit a b c) = 0
frame_variable R.Unknown = 0
frame_variable R.Short = 0

abbrev pub putting : Option Record → (Record → Written) → Written
putting None f = fail
putting (Some it) f = f it

abbrev pub symbol_by : Word → Record → Symbol
symbol_by x it = record { word = x; relation = frame_relation it; variable = some (frame_variable it) }

-- the reaches after action a at a token with the names x₁ and x₂ after it
abbrev pub reach_after : ℕ → Word → Word → Record → Reaches → Reaches
reach_after a x₁ x₂ it σ =
    cond (eqb a 4) ((symbol_by x₂ it ∷ map head_only (inner σ)) ∷ σ)
    (cond (eqb a 6) ((symbol_by x₁ it ∷ inner σ) ∷ σ)
    (cond (eqb a 7) (inner σ ∷ σ)
    (cond (eqb a 8 || eqb a 9) (around σ) σ)))

abbrev pub number_after : ℕ → ℕ → ℕ
number_after a n = cond (eqb a 4 || eqb a 6) (suc n) n

abbrev pub written : Record → Written → Written
written it g = before (λ bs. record_bytes it ++ bs) g
