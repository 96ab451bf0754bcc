use Rattle.std.proofs.Common.{arith}
use Rattle.std.proofs.lemmas.Grind.{common_steps}
use Rattle.scans.proofs.Lists.{fresh-none}
use Rattle.scans.proofs.all_fresh.Goals as goal

pub returns : goal.returns
returns c = grind (arith, common_steps, fresh-none)
