use borrow.Enum.Refused.{opened}
use Rattle.copier.specs.Copied.{number_in}
use Rattle.rewriter.proofs.guard.Copies.{unnamed, some-renamed, attribute-renamed, aggregate-renamed}
use Rattle.rewriter.proofs.guard.renamed.Goals as goal

pub returns-in-Some : goal.returns-in-Some
returns-in-Some c = some-renamed (number_in c.args.q.now c.args.variable c.args.next) _ _ _ c.number.ensures _ c.in-Some.is

pub returns-in-Attribute : goal.returns-in-Attribute
returns-in-Attribute c = attribute-renamed (number_in c.args.q.now c.args.variable c.args.next) _ _ _ c.number-in-Attribute.ensures _ c.in-Attribute.is

pub returns-in-Aggregate : goal.returns-in-Aggregate
returns-in-Aggregate c = aggregate-renamed (number_in c.args.q.now c.args.variable c.args.next) _ _ _ c.number-in-Aggregate.ensures _ _ _ c.in-Aggregate.is

pub returns-in_default : goal.returns-in_default
returns-in_default c = unnamed c.args.item (number_in c.args.q.now c.args.variable c.args.next) (opened c.in_default.in_default-own.keys4)
