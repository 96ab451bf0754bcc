-- The names of a text's tokens.
use Rattle.std.specs.Prelude.{ℕ}
use Rattle.quel.specs.Results.{Word}
use Rattle.elaborate.specs.declared.marks.Tokens.{Tokens}
use Rattle.elaborate.specs.Places.{name_in}

abbrev pub name_of : Tokens → ℕ → Word
name_of t = name_in t.text.now t.kinds.now t.starts.now
