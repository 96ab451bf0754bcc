-- A file that is longer than its buffer: the bytes beyond do not matter, since every longer one is refused by its length.
use Rattle.std.specs.Prelude.{◌≡◌, List, ℕ, take}
use Rattle.program.specs.Output.{output}

abbrev pub CutFiles : Type 0
CutFiles = (catalogue values permits question : List ℕ) → output (take 65 catalogue) (take 32769 values) (take 2049 permits) (take 1025 question) ≡ output catalogue values permits question
