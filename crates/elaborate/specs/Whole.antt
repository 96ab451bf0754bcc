-- A refusal, or the buffer and the place after what was written.
use Rattle.std.specs.Prelude.{ℕ, true, List, ◌≡◌, Option, Some, None}
use Rattle.quel.specs.Results.{fail, ok, unique_words}
use Rattle.quel.specs.Writing.{Written}
use Rattle.tokens.specs.Table.{Table}
use Rattle.flat.specs.Flat.{binders}
use Rattle.elaborate.specs.Places.{tokens_from, name_in}
use Rattle.elaborate.specs.Tables.{Named}

abbrev pub outcome : Option ℕ → List ℕ → Written
outcome None out = fail
outcome (Some at) out = ok out at

-- what the records of a text's tokens are written by
pub record Ready (text : List ℕ) (t : Table) (ids : List ℕ) : Type 0 where
  pub named : Named (name_in text t.kinds t.starts) ids t.numbers
  pub once : unique_words (binders 0 (tokens_from text t 0)) ≡ true
