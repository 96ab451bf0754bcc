use Rattle.tokens.proofs.Reached.{Reached}
use Rattle.tokens.proofs.Digits.front.Given as goal

abbrev pub invariant-loop-size : goal.invariant-loop-size
invariant-loop-size l = Reached l.s l.self.low l.self.high l.self.base l.start l.size l.value
