use Rattle.model.specs.Permits.{bit}
use mathlib.Core.Path.{sym, ap, ◌∙◌}
use mathlib.Core.Bool.{not}
use Rattle.guards.proofs.applying.Finds as finds
use Rattle.guards.proofs.applying.as_wanted.Goals as goal

pub returns-then-not-has : goal.returns-then-not-has
returns-then-not-has c = finds.unused (bit c.args.used c.args.attribute) (bit c.args.mask c.args.attribute) c.args.wanted (ap not (sym c.has.ensures) ∙ c.if-not-has.true-raw)

pub returns-then-wanted : goal.returns-then-wanted
returns-then-wanted c = c.has-then-wanted.ensures ∙ finds.used-in (bit c.args.used c.args.attribute) (bit c.args.mask c.args.attribute) c.args.wanted (ap not (sym c.has.ensures) ∙ c.if-not-has.false-raw) c.if-wanted.true

pub returns : goal.returns
returns c = ap not c.has-2.ensures ∙ finds.used-out (bit c.args.used c.args.attribute) (bit c.args.mask c.args.attribute) c.args.wanted (ap not (sym c.has.ensures) ∙ c.if-not-has.false-raw) c.if-wanted.false
