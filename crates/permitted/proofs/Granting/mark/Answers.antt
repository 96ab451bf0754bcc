use native.Mathlib.Omega.{arith}
use mathlib.Core.Path.{refl, ◌∙◌}
use Rattle.rewriter.specs.Applying.{conditions_by}
use Rattle.permitted.proofs.judges.Steps.{bits-on}
use Rattle.permitted.proofs.Lists.{decides-on, decides-end}
use Rattle.permitted.proofs.Granting.mark.Goals as goal

pub loop-k-init : goal.loop-k-init
loop-k-init c = (refl, c.requires.2, λ y h. h)

pub turn-requires : goal.turn-requires
turn-requires c = (c.loop-k-test.true, c.requires.0, omega (arith, c.requires.1, c.loop-k.invariant.0), c.loop-k.invariant.1)

pub loop-k-preserved : goal.loop-k-preserved
loop-k-preserved c = (c.turn.ensures.size ∙ c.loop-k.invariant.0, bits-on c.loop-k.invariant.1 c.turn.ensures, decides-on c.args.self.now.catalogue.now c.args.self.now.values.now (conditions_by c.args.self.now.applying) c.args.relation c.args.mask _ c.loop-k.m c.loop-k.k c.args.marks.now c.loop-k.marks _ c.loop-k-test.true c.loop-k.invariant.2 c.turn.ensures)

pub returns : goal.returns
returns c = decides-end c.args.self.now.catalogue.now c.args.self.now.values.now (conditions_by c.args.self.now.applying) c.args.relation c.args.mask _ c.loop-k.m c.loop-k.k c.args.marks.now c.loop-k.marks c.loop-k-test.false (omega (arith, c.requires.1, c.loop-k.invariant.0)) c.loop-k.invariant.2
