-- What a call returns, with the cells of the answer buffer, as the model's answer.
use Rattle.std.specs.Prelude.{ℕ, ◌+◌, ◌≤◌, false, cond, List, ◌≡◌, ℤ, length, get_or, drop, Result, Ok, Err}
use Rattle.model.specs.Calls.{Answer, refuse}
use Rattle.model.specs.Encoding.{query_of}
use Rattle.model.specs.Syntax.{Query}
use Rattle.model.specs.Meaning.{Assignment, Rows, holds, target_row}
use Rattle.model.specs.Catalogue.{catalogue_of, shape_of}
use Rattle.model.specs.Limits.{Limits}
use Rattle.model.specs.Refusals.{number_of}
use Rattle.model.specs.declared.refusal.Refusal.{Refusal}
use Rattle.model.specs.declared.refusal.Refusal.TheVariants.{AnswerRoom}
use Rattle.model.specs.Checks.{fails10, fails32}
use Rattle.numbers.specs.Recalled.{holds_by}
use Rattle.odometer.specs.declared.Plan.{Plan}
use Rattle.odometer.specs.Plan.{cells_by, code_in, chains_in}
use Rattle.sizes.specs.Decode.{decode}
use Rattle.sizes.specs.Parts.{ranges_at}
use Rattle.conjuncts.specs.Stages.{Planned}
use Rattle.decide.specs.Keys.{Faithful}
use Rattle.aggregates.specs.Filled.{filled_c, filled_ts}
use Rattle.grammar.specs.declared.Layout.{Layout}
use Rattle.rows.specs.declared.Filled.{Filled}
use Rattle.queries.specs.Parts.{query_at, Laid}
use Rattle.plain.specs.declared.Reply.{Reply}

-- the number of an answer, 0 where every row fitted
abbrev pub number_in : Reply → ℕ
number_in r = cond r.full (number_of AnswerRoom) 0

abbrev pub answer_of : Reply → List ℤ → Answer
answer_of r cells = record { number = number_in r; rows = r.rows; columns = r.columns; cells = cells }

-- the same of a call that may be refused: a refusal is its number with zero counts
abbrev pub result_of : Result Reply Refusal → List ℤ → Answer
result_of (Ok r) cells = answer_of r cells
result_of (Err e) cells = refuse (number_of e) cells

-- the reply that the state of the buffer gives
abbrev pub reply_of : ℕ → Filled → Reply
reply_of columns s = record { rows = s.rows; columns = columns; full = s.full }

-- the plan of a query of which no range is bound, with its table's list of targets from place f on
abbrev pub plan_of : Layout → ℕ → ℕ → Plan
plan_of y l f = record { targets = y.first; columns = y.targets; level = l; listed = false; left = y.ranges; depth = 0; front = f; rows = 0; full = false }

-- a cleared table with room for branches, for chains before place f, and behind it for the list of targets and the answer's rows
pub record Cleared (f : ℕ) (w : List ℕ) : Type 0 where
  pub branches : 768 ≤ f
  pub room : f + 16 ≤ length w
  pub rows : length w ≤ f + 65551
  pub clear : (i : ℕ) → get_or w i 0 ≡ 0

-- the table w once a query's condition stands in it as branches, and chains that serve them
pub record Furnished (y : Layout) (l f : ℕ) (q z ws : List ℕ) (vs m : List ℤ) (w w' : List ℕ) : Type 0 where
  pub planned : Planned (code_in w') q z ws vs m (decode l (drop y.condition q) (drop y.condition z)) (ranges_at y.ranges q)
  pub faithful : Faithful (code_in w') ws vs (chains_in (plan_of y l f) w')
  pub rest : drop f w' ≡ drop f w

-- the memo once each aggregate of the query has been evaluated, those of the targets first
abbrev pub memo_of : Query → Rows → Assignment → List ℤ → List ℤ
memo_of u R e m = filled_c u.condition R e (filled_ts u.targets R e m)

-- a memo by which a query's targets and condition come to what they mean
pub record Trusted (m : List ℤ) (R : Rows) (u : Query) : Type 0 where
  pub targets : (e : Assignment) → cells_by m u.targets R e ≡ target_row u.targets R e
  pub condition : (e : Assignment) → holds_by m u.condition R e ≡ holds u.condition R e

-- a query that passed its checks, under the limits of either call: bytes, table, layout and catalogue
pub record Answerable (y : Layout) (l : ℕ) (q z cb : List ℕ) : Type 0 where
  pub catalogue : fails10 cb ≡ false
  pub laid : Laid y q
  pub ready : query_at y l q z ≡ query_of q
  pub columns : y.targets ≤ 8
  pub ranges : y.ranges ≤ 4
  pub place : y.condition ≤ 17216
  pub level : l ≤ 64
  pub limits : Limits
  pub bound : limits.bound ≤ 200
  pub known : fails32 limits (shape_of (catalogue_of cb)) (query_of q) ≡ false

-- the same of some catalogue
pub record Passed (y : Layout) (l : ℕ) (q z : List ℕ) : Type 0 where
  pub by : List ℕ
  pub answerable : Answerable y l q z by
