use native.Mathlib.Omega.{arith}
use mathlib.Core.Path.{refl}
use Rattle.quick.proofs.terms.Reading.{five-wide, value-reads}
use Rattle.quick.proofs.terms.value.Goals as goal

pub returns-in_default : goal.returns-in_default
returns-in_default c = record { at_le_end = (omega arith, (λ h. absurd (omega (arith, h))), c.requires.2); value_at = λ h. absurd (omega (arith, h)) }

pub bounds-source-p : goal.bounds-source-p
bounds-source-p c = omega (arith, c.in-Some.ensures.0)

pub bounds-source-p-2 : goal.bounds-source-p-2
bounds-source-p-2 c = omega (arith, c.in-Some.ensures.0)

pub bounds-source-p-3 : goal.bounds-source-p-3
bounds-source-p-3 c = omega (arith, c.in-Some.ensures.0)

pub bounds-source-p-4 : goal.bounds-source-p-4
bounds-source-p-4 c = omega (arith, c.in-Some.ensures.0)

pub returns : goal.returns
returns c = let made = c.args.made.now in let from = c.args.from in record { at_le_end = (omega arith, (λ h. (refl, omega arith)), five-wide made _ from 32 _ _ _ _ c.put.ensures c.requires.2); value_at = λ h. value-reads c.args.source.now.list.now made _ from c.args.w.end c.args.w.value c.in-Some.p c.requires.2 c.requires.0 (omega (arith, c.in-Some.ensures.0)) c.in-Some.ensures.1 c.put.ensures }
