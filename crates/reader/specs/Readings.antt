-- What the reader returns, with the buffer afterwards, as the definition's reading.
use Rattle.std.specs.Prelude.{ℕ, List, Result}
use Rattle.model.specs.declared.refusal.Refusal.{Refusal}
use Rattle.quel.specs.ReadText as Q
use Rattle.elaborate.specs.Answers.{answered}

abbrev pub reading_of : Result ℕ Refusal → List ℕ → Q.Reading
reading_of r records = answered r records
