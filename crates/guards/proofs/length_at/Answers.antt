use native.Mathlib.Omega.{arith}
use Prim.Native.Nat.{◌+◌, ◌*◌}
use mathlib.Core.Path.{sym, ◌∙◌}
use lib.Seq.{get_or-take}
use Rattle.guards.proofs.length_at.Goals as goal

pub returns : goal.returns
returns c = c.size_at.ensures.value ∙ sym (get_or-take 16 c.args.table.now (2 * c.args.k + 1) 0 (omega (arith, c.requires)))
