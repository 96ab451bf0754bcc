use Rattle.model.proofs.Tests.{not_yes}
use Rattle.scans.proofs.Silent.{uses-nothing}
use Rattle.guards.proofs.uses.usage.Goals as goal

pub returns-then-not-may_use : goal.returns-then-not-may_use
returns-then-not-may_use c = uses-nothing c.args.bytes.now c.byte.result c.byte.ensures (c.may_use.ensures (not_yes c.may_use.result c.if-not-may_use.true-raw))
