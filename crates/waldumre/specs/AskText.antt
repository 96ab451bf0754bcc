-- The guarded call by text (document 02, Change 1): the reader, then ask of the records that it wrote.
use Rattle.std.specs.Prelude.{ℕ, zero, suc, List, ℤ, take}
use Rattle.model.specs.Calls.{Outcome, refuse, ask}
use Rattle.quel.specs.ReadText.{Reading, read_text}

-- what the guarded call returns, with the records' buffer afterwards
pub record TextOutcome : Type 0 where
  pub outcome : Outcome
  pub records : List ℕ

-- a refusal of the reader is its number with zero counts; the buffers keep their contents
abbrev pub unless_refused : ℕ → Outcome → List ℕ → List ℤ → Outcome
unless_refused zero o rewritten cells = o
unless_refused (suc n) o rewritten cells = record { answer = refuse (suc n) cells; count = 0; rewritten = rewritten }

-- the records that were read stay written, whatever ask says of them
abbrev pub ask_read : List ℕ → List ℤ → List ℕ → Reading → List ℕ → List ℤ → TextOutcome
ask_read cb vs pb r rewritten cells = record { outcome = unless_refused r.number (ask cb vs pb (take r.count r.records) rewritten cells) rewritten cells; records = r.records }

-- 50 to 52 come before 10
unfoldable pub ask_text : List ℕ → List ℤ → List ℕ → List ℕ → List ℕ → List ℕ → List ℕ → List ℤ → TextOutcome
ask_text cb vs pb bs ns records rewritten cells = ask_read cb vs pb (read_text ns bs records) rewritten cells
