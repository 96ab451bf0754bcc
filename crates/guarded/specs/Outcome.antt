-- What a guarded call returns, with both buffers, as the model's outcome.
use Rattle.std.specs.Prelude.{ℕ, ◌≤◌, ◌<◌, true, List, ◌≡◌, ℤ, length, get_or, Result, Ok, Err}
use Rattle.model.specs.Calls.{Outcome, refuse}
use Rattle.model.specs.Refusals.{number_of}
use Rattle.model.specs.declared.refusal.Refusal.{Refusal}
use Rattle.model.specs.Lists.{unique, Every}
use Rattle.model.specs.Syntax.{Binding, variables, bindings_q}
use Rattle.model.specs.Meaning.{Rows}
use Rattle.catalogue.specs.Layout.{rows_of}
use Rattle.model.specs.Encoding.{query_of, permits_of}
use Rattle.model.specs.Catalogue.{catalogue_of, shape_of}
use Rattle.model.specs.Checks.{guarded_limits, keeper_checks, permit_checks, query_checks, rewritten_bytes, refusal}
use Rattle.grammar.specs.declared.Layout.{Layout}
use Rattle.scans.specs.Flat.{flat_bindings}
use Rattle.copier.specs.Guard.{part}
use Rattle.permitted.specs.Given.{rows_for}
use Rattle.queries.specs.Parts.{query_at, Laid}
use Rattle.plain.specs.Reply.{answer_of}
use Rattle.guarded.specs.declared.Reply.{Reply}

abbrev pub outcome_of : Reply → List ℤ → List ℕ → Outcome
outcome_of r cells rewritten = record { answer = answer_of r.answer cells; count = r.length; rewritten = rewritten }

-- the same of a call that may be refused: a refusal is its number with zero counts
abbrev pub result_of : Result Reply Refusal → List ℤ → List ℕ → Outcome
result_of (Ok r) cells rewritten = outcome_of r cells rewritten
result_of (Err e) cells rewritten = record { answer = refuse (number_of e) cells; count = 0; rewritten = rewritten }

-- the bytes of the rewritten query
abbrev pub bytes_of : List ℕ → List ℕ → List ℕ → List ℕ
bytes_of cb pb qb = rewritten_bytes (shape_of (catalogue_of cb)) (permits_of pb) (query_of qb)

-- the rows that each variable is given
abbrev pub given_rows : List ℕ → List ℤ → List ℕ → List ℕ → List ℕ → Rows
given_rows cb vs pb places masks v r = rows_for cb vs (part pb places) (get_or masks v 0) r

-- what the checks say of the variables that a query binds
pub record Bound (cb qb : List ℕ) : Type 0 where
  pub bindings : flat_bindings qb ≡ bindings_q (query_of qb)
  pub once : unique (variables (flat_bindings qb)) ≡ true
  pub low : Every (λ (b : Binding). b.variable < 8) (flat_bindings qb)
  pub count : length (flat_bindings qb) ≤ 8
  pub rows : (r : ℕ) → rows_of cb r ≤ 1024

-- a call that passed 10 to 32
pub record Checks32 (y : Layout) (cb : List ℕ) (vs : List ℤ) (pb qb z : List ℕ) : Type 0 where
  pub kept : refusal (keeper_checks cb vs) ≡ 0
  pub permits : refusal (permit_checks (shape_of (catalogue_of cb)) pb) ≡ 0
  pub query : refusal (query_checks guarded_limits (shape_of (catalogue_of cb)) qb) ≡ 0
  pub ready : query_at y 32 qb z ≡ query_of qb
  pub laid : Laid y qb
