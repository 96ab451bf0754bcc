-- What is returned, with the buffer afterwards, as the definition's reading.
use Rattle.std.specs.Prelude.{ℕ, List, Result, Ok, Err}
use Rattle.model.specs.Refusals.{number_of}
use Rattle.model.specs.declared.refusal.Refusal.{Refusal}
use Rattle.quel.specs.Results.{fail, ok}
use Rattle.quel.specs.ReadText.{Reading, refused, written}
use Rattle.quel.specs.Writing.{Written}
use Rattle.flat.specs.Flat.{flat_text}
use Rattle.names.specs.Entries.{entries}
use Rattle.tokens.specs.Table.{Table}
use Rattle.elaborate.specs.Places.{tokens_from}

-- the bytes of a table's tokens
abbrev pub records_of : List ℕ → Table → List ℕ → Written
records_of text t list = flat_text (entries list) (tokens_from text t 0)

abbrev pub answered : Result ℕ Refusal → List ℕ → Reading
answered (Ok n) records = record { number = 0; count = n; records = records }
answered (Err e) records = record { number = number_of e; count = 0; records = records }

-- bytes, put into a buffer that they may not fit
abbrev pub writing : Written → List ℕ → Reading
writing fail buffer = refused 51 buffer
writing (ok bs n) buffer = written bs buffer
