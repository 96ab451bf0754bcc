-- What a memo knows of aggregates, and the model's meaning where it does.
use Rattle.std.specs.Prelude.{Bool, cond, List, ℤ}
use Rattle.std.proofs.Math.Option.{none, some}
use Rattle.model.specs.Syntax.{Condition, Term}
use Rattle.model.specs.Meaning.{Assignment, Rows, Value, Known, holds_with, value_with}
use Rattle.numbers.specs.Memo.{knows, recalled}

abbrev pub recall : List ℤ → Known
recall m v = cond (knows m v) (some (recalled m v)) none

abbrev pub holds_by : List ℤ → Condition → Rows → Assignment → Bool
holds_by m c R e = holds_with (recall m) c R e

abbrev pub value_by : List ℤ → Term → Rows → Assignment → Value
value_by m t R e = value_with (recall m) t R e
