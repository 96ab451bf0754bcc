use native.Mathlib.Omega.{arith}
use mathlib.Core.Path.{refl}
use Rattle.model.proofs.Refusals.{number-positive}
use Rattle.program.proofs.output.Outcomes.{unread_as, unread-none}
use Rattle.program.proofs.output.unread.Goals as goal

pub returns-in-Err : goal.returns-in-Err
returns-in-Err c = unread_as c.args.catalogue.now _ _ c.in-Err.ensures (number-positive _)

pub returns-in-Ok : goal.returns-in-Ok
returns-in-Ok c = unread-none c.args.catalogue.now _ _ c.in-Ok.ensures refl
