-- What an exported function returns, with the buffers afterwards, as the model's answer or outcome.
use Rattle.std.specs.Prelude.{List, ℤ, ℕ, Result, Ok, Err}
use Rattle.model.specs.Calls as M
use Rattle.quel.specs.ReadText as Q
use Rattle.model.specs.Refusals.{number_of}
use Rattle.model.specs.declared.refusal.Refusal.{Refusal}
use Rattle.plain.specs.Reply.{number_in}
use Rattle.plain.specs.declared.Reply as P
use Rattle.guarded.specs.declared.Reply as G
use Rattle.waldumre.specs.declared.Outcome.{Outcome}
use Rattle.waldumre.specs.declared.Reading.{Reading}
use Rattle.waldumre.specs.AskText.{TextOutcome}

-- a refusal for C
abbrev pub refused_as : Refusal → Outcome
refused_as e = record { number = number_of e; rows = 0; columns = 0; length = 0 }

-- what the plain evaluator returned, for C
abbrev pub answered_as : Result P.Reply Refusal → Outcome
answered_as (Ok r) = record { number = number_in r; rows = r.rows; columns = r.columns; length = 0 }
answered_as (Err e) = refused_as e

-- what ask returned, for C
abbrev pub asked_as : Result G.Reply Refusal → Outcome
asked_as (Ok r) = record { number = number_in r.answer; rows = r.answer.rows; columns = r.answer.columns; length = r.length }
asked_as (Err e) = refused_as e

-- what the reader returned, for C
abbrev pub read_as : Result ℕ Refusal → Reading
read_as (Ok n) = record { number = 0; length = n }
read_as (Err e) = record { number = number_of e; length = 0 }

abbrev pub answer_of : Outcome → List ℤ → M.Answer
answer_of r cells = record { number = r.number; rows = r.rows; columns = r.columns; cells = cells }

abbrev pub outcome_of : Outcome → List ℤ → List ℕ → M.Outcome
outcome_of r cells rewritten = record { answer = answer_of r cells; count = r.length; rewritten = rewritten }

abbrev pub reading_of : Reading → List ℕ → Q.Reading
reading_of r records = record { number = r.number; count = r.length; records = records }

abbrev pub text_outcome_of : Outcome → List ℤ → List ℕ → List ℕ → TextOutcome
text_outcome_of r cells rewritten records = record { outcome = outcome_of r cells rewritten; records = records }
