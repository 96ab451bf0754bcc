use Rattle.std.proofs.Common.{arith, ap, ap₂, ◌∙◌, ◌*ℤ◌, ℤ}
use Rattle.model.specs.Meaning.{ordered}
use Rattle.numbers.specs.Numbers as N
use Rattle.numbers.proofs.Signed.{cross, fits64, op-is}
use Rattle.numbers.proofs.Laws.{is_number, compare-some}
use Rattle.numbers.proofs.compared.Goals as goal

pub returns : goal.returns
unfolding ordered
returns c = let x = c.args.x in let y = c.args.y in let sx = c.requires.0 in let sy = c.requires.1 in
    c.ordered.ensures
    ∙ ap₂ (N.ordered c.args.operator)
    (op-is ◌*ℤ◌ x.numerator y.denominator (fits64 x.numerator (omega (arith, sx.numerator))) (fits64 y.denominator (omega (arith, sy.denominator))) (cross x.numerator y.denominator sx.numerator sy.denominator) ∙ ap (λ (z : ℤ). x.numerator *ℤ z) sy.sign)
    (op-is ◌*ℤ◌ y.numerator x.denominator (fits64 y.numerator (omega (arith, sy.numerator))) (fits64 x.denominator (omega (arith, sx.denominator))) (cross y.numerator x.denominator sy.numerator sx.denominator) ∙ ap (λ (z : ℤ). y.numerator *ℤ z) sx.sign)
    ∙ compare-some c.args.operator x y (is_number x sx c.if-d-le0.false) (is_number y sy c.if-e-le0.false)
