use native.Mathlib.Omega.{arith}
use Rattle.quick.proofs.terms.Reading.{five-wide, constant-read}
use Rattle.quick.proofs.terms.number.Goals as goal

pub returns-in_default : goal.returns-in_default
returns-in_default c = record { at_bound = (omega arith, (λ h. absurd (omega (arith, h))), c.requires.2); by_index = λ list. record { reads = λ given S ρ ws k t h. absurd (omega (arith, h)) } }

pub returns : goal.returns
returns c = let made = c.args.made.now in record {
  at_bound = (c.in-Some.ensures.1, (λ h. (c.in-Some.ensures.0, omega arith)), five-wide made _ c.args.s.to 32 c.low.result c.low-2.result c.low-3.result c.low-4.result c.put.ensures c.requires.2);
  by_index = λ list. constant-read c.args.source.now.text.bytes list made _ c.args.s.at c.args.s.to c.in-Some.x.end c.in-Some.x.value c.low.result c.low-2.result c.low-3.result c.low-4.result
      c.low.ensures c.low-2.ensures c.low-3.ensures c.low-4.ensures c.requires.2 c.requires.1 c.in-Some.ensures.3 c.put.ensures;
}
