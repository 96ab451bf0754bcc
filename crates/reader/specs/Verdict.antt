-- Whether a list of tokens is a text of the grammar.
use Rattle.std.specs.Prelude.{Bool, true, false, List}
use Rattle.quel.specs.Results.{Read, fail, ok}
use Rattle.quel.specs.Tokens.{Token}
use Rattle.quel.specs.Reader.{read_tree}

abbrev pub given : {S A : Type 0} → Read S A → Bool
given fail = false
given (ok a r) = true

abbrev pub is_text : List Token → Bool
is_text ts = given (read_tree ts)
