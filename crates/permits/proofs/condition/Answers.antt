use Rattle.permits.proofs.Grants.{in-permit}
use Rattle.permits.proofs.condition.Goals as goal

pub returns : goal.returns
returns c = in-permit _ c.args.relation c.enter.new.reach c.args.bytes.now _ c.enter.ensures.reach_after c.condition.ensures.value
