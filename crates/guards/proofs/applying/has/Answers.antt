use Rattle.permits.proofs.Loops.{bit_is}
use Rattle.guards.proofs.applying.has.Goals as goal

pub returns : goal.returns
returns c = bit_is c.args.mask c.args.attribute
