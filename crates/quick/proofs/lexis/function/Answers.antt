use Prim.Native.Nat.{ℕ}
use mathlib.Core.Path.{sym, ap}
use native.Mathlib.Omega.{arith}
use Rattle.quel.specs.Tokens.{reserved}
use Rattle.tokens.specs.Kinds.{kind_spelled}
use Rattle.tokens.specs.Spans.{positional}
use Rattle.quick.proofs.lexis.Standing.{function-here}
use Rattle.quick.proofs.lexis.function.Goals as goal

pub returns-in-13055269 : goal.returns-in-13055269
unfolding kind_spelled positional
returns-in-13055269 c = λ text i j w. function-here text i j c.args.value w 2 (sym (ap (kind_spelled reserved) c.in-13055269.is)) (omega arith) (omega arith)

pub returns-in-30276 : goal.returns-in-30276
unfolding kind_spelled positional
returns-in-30276 c = λ text i j w. function-here text i j c.args.value w 3 (sym (ap (kind_spelled reserved) c.in-30276.is)) (omega arith) (omega arith)

pub returns-in-18126 : goal.returns-in-18126
unfolding kind_spelled positional
returns-in-18126 c = λ text i j w. function-here text i j c.args.value w 4 (sym (ap (kind_spelled reserved) c.in-18126.is)) (omega arith) (omega arith)

pub returns-in-25711 : goal.returns-in-25711
unfolding kind_spelled positional
returns-in-25711 c = λ text i j w. function-here text i j c.args.value w 5 (sym (ap (kind_spelled reserved) c.in-25711.is)) (omega arith) (omega arith)

pub returns-in-25909 : goal.returns-in-25909
unfolding kind_spelled positional
returns-in-25909 c = λ text i j w. function-here text i j c.args.value w 6 (sym (ap (kind_spelled reserved) c.in-25909.is)) (omega arith) (omega arith)
