use Prim.Native.Nat.{ℕ, ◌+◌, ◌*◌}
use mathlib.Core.List.{List}
use mathlib.Core.Path.{ap₂}
use lib.ListN.{set}
use Rattle.permitted.proofs.enter.Goals as goal

pub returns : goal.returns
returns c = ap₂ (λ (u : List ℕ) (n : ℕ). set u (8 * n + 5) c.args.key) c.put.ensures c.from.ensures
