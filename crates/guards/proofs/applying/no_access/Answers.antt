use mathlib.Core.Path.{ap, ◌∙◌}
use Prim.Native.Nat.{ℕ}
use lib.ListN.{get_or}
use Rattle.guards.proofs.applying.Finds as finds
use Rattle.guards.proofs.applying.no_access.Goals as goal

pub returns : goal.returns
returns c = let list = c.args.permits.now in
    finds.no-access-is list c.byte.result (c.byte.ensures ∙ ap (λ (i : ℕ). get_or list i 0) c.header.ensures)
