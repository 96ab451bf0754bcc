use Rattle.std.proofs.Common.{arith}
use Rattle.tokens.proofs.Leading.{number-refused, number-reads}
use Rattle.tokens.proofs.number.Goals as goal

pub returns-then-value-gt-LARGEST : goal.returns-then-value-gt-LARGEST
returns-then-value-gt-LARGEST c = number-refused c.args.s.now c.front-digits.result.value 0 c.requires c.front-digits.ensures.value (omega arith)

pub returns : goal.returns
returns c = number-reads c.args.s.now c.front-digits.result.value _ c.requires c.front-digits.ensures.value c.front-digits.ensures.size (omega arith)
