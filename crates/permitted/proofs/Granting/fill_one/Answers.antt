use Rattle.std.proofs.Common.{ℕ, subst, arith}
use Rattle.rewriter.specs.Applying.{conditions_by}
use Rattle.catalogue.specs.Layout.{rows_of}
use Rattle.permitted.specs.Given.{rows_for, Stepped}
use Rattle.permitted.proofs.Granting.fill_one.Goals as goal

pub overflow_cast-mask : goal.overflow_cast-mask
overflow_cast-mask c = omega (arith, c.requires.mask, c.mask-mask.ensures.value)

pub returns : goal.returns
returns c =
    let catalogue = c.args.self.now.catalogue.now in let values = c.args.self.now.values.now in let conditions = conditions_by c.args.self.now.applying in let b = c.args.b in
    subst (λ (m : ℕ). Stepped catalogue values conditions b.variable (rows_for catalogue values conditions m b.relation) (rows_of catalogue b.relation) c.args.next c.give.result c.args.walks.now c.give.new.walks)
    c.mask-mask.ensures.value c.give.ensures
