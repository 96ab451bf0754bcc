use Rattle.std.proofs.Common.{arith, refl, ◌-◌, ◌%◌}
use Rattle.tokens.proofs.Leading.{no-digits, minus-refused, minus-reads}
use Rattle.tokens.proofs.negative.Goals.{then-digits-eq0-via-then-digits-eq0, then-digits-eq0-via-else-digits-eq0+then-value-gt-SMALLEST}
use Rattle.tokens.proofs.negative.Goals as goal

pub returns-then-digits-eq0 : goal.returns-then-digits-eq0
returns-then-digits-eq0 c = elim c.then-digits-eq0.branch [
  | then-digits-eq0-via-then-digits-eq0 w ↦ no-digits c.args.rest.now (omega (arith, c.front-digits.ensures.size))
  | then-digits-eq0-via-else-digits-eq0+then-value-gt-SMALLEST w ↦ minus-refused c.args.rest.now _ c.front-digits.ensures.value w.if-value-gt-SMALLEST.true
]

pub returns : goal.returns
returns c = minus-reads c.args.rest.now _ c.front-digits.ensures.value _ ((4294967296 - c.front-digits.result.value) % 4294967296) refl (omega (arith, c.front-digits.ensures.size)) (omega (arith, c.front-digits.ensures.size)) c.if-value-gt-SMALLEST.false
