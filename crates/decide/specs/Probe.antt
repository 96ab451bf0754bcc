-- A comparison with the attribute on either side: of values, and of numbers by an operator.
use Rattle.std.specs.Prelude.{ℕ, Bool, cond, ℤ}
use Rattle.model.specs.Meaning.{Value, compare}
use Rattle.numbers.specs.Numbers.{ordered}
use Rattle.decide.specs.declared.probes.Operator.{Operator}
use Rattle.decide.specs.declared.probes.Operator.TheVariants.{Equal, NotEqual, Less, AtMost, Greater, AtLeast}

abbrev pub sided : ℕ → Bool → Value → Value → Bool
sided o mirrored a x = cond mirrored (compare o x a) (compare o a x)

-- the number of an operator
abbrev pub code_of : Operator → ℕ
code_of Equal = 1
code_of NotEqual = 2
code_of Less = 3
code_of AtMost = 4
code_of Greater = 5
code_of AtLeast = 6

abbrev pub holds : Operator → ℤ → ℤ → Bool
holds o a x = ordered (code_of o) a x
