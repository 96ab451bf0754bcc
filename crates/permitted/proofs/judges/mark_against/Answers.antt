use native.Mathlib.Omega.{arith}
use Prim.Native.Nat.{◌+◌, ◌*◌}
use mathlib.Core.Option.{some}
use mathlib.Core.Path.{refl, sym, ap, ◌∙◌}
use lib.IntN.{ℤ, pos, nat_abs}
use lib.ListN.{length, get_or}
use Rattle.model.specs.Meaning.{whole, compare}
use Rattle.model.proofs.Tests.{clash}
use Rattle.numbers.specs.Numbers.{value_of}
use Rattle.numbers.proofs.Laws.{value_none, is_number}
use Rattle.permitted.specs.Marked.{turned, tuple_of}
use Rattle.permitted.proofs.judges.Steps.{marked-same}
use Rattle.permitted.proofs.judges.Terms.{against-nothing, reach, row-place, fits-product, fits-place}
use Rattle.permitted.proofs.judges.mark_against.Goals as goal

pub returns-then-d-le0 : goal.returns-then-d-le0
returns-then-d-le0 c = let x = c.args.x in record { marked = (λ h. marked-same c.mark_if.ensures refl (λ i l. against-nothing c.args.operator c.args.wanted (tuple_of c.args.values.now c.args.walk i c.args.attribute) x (value_none x c.requires.2 c.if-d-le0.true))); marks_unchanged = λ h. clash (sym h) }

pub returns-then-width-a : goal.returns-then-width-a
returns-then-width-a c = record { marked = λ h. clash h; marks_unchanged = λ h. refl }

pub overflow_mul-n : goal.overflow_mul-n
overflow_mul-n c = fits-product _ _ c.requires.1.count c.requires.1.width

pub overflow_add-base : goal.overflow_add-base
overflow_add-base c = fits-place _ _ _ c.requires.1.base c.requires.1.count c.requires.1.width

pub returns-then-values-base : goal.returns-then-values-base
returns-then-values-base c = record { marked = λ h. clash h; marks_unchanged = λ h. refl }

pub mark_passing-requires : goal.mark_passing-requires
mark_passing-requires c = let good = c.well_formed in let walk = c.args.walk in
    (c.requires.0, (λ i h. reach walk.base c.from-a.result walk.width walk.count i (length c.args.values.now) c.if-width-a.false c.if-values-base.false h), omega (arith, c.requires.1.base, c.from-a.ensures, good), c.requires.1.width, c.requires.1.count, omega (arith, ap nat_abs c.test_of-t.ensures.number_value.1, c.requires.2.denominator), omega (arith, ap nat_abs c.test_of-t.ensures.number_value.0, c.requires.2.numerator), c.requires.3)

pub returns : goal.returns
returns c = let values = c.args.values.now in let walk = c.args.walk in let x = c.args.x in record { marked = (λ h. marked-same c.mark_passing.ensures refl (λ i l. c.test_of-t.ensures.a_value c.requires.2 (is_number x c.requires.2 c.if-d-le0.false) (get_or values (walk.base + c.from-a.result + i * walk.width) (pos 0)) ∙ ap (λ (y : ℤ). turned c.args.wanted (compare c.args.operator (some (whole y)) (value_of x))) (row-place values walk c.args.attribute c.from-a.result i c.from-a.ensures))); marks_unchanged = λ h. clash (sym h) }
