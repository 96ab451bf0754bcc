use Rattle.std.proofs.Common.{arith}
use Rattle.std.proofs.lemmas.Grind.{common_steps}
use Rattle.std.proofs.lemmas.List.Edits.{sets-eq}
use Rattle.branches.proofs.write.Goals as goal

pub returns : goal.returns
returns c = rw (sets-eq c.args.row.now c.args.t.now c.args.i c.requires) (grind (arith, common_steps))
