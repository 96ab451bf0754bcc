use Prim.Native.Nat.{ℕ}
use native.Mathlib.Omega.{arith}
use Rattle.model.proofs.Lists.{get_or-same}
use Rattle.permitted.proofs.judges.Judging.mark_linked.Goals as goal

pub link-requires : goal.link-requires
link-requires c = (omega arith, get_or-same {A = ℕ} 6220 0)
