use mathlib.Core.Path.{ap}
use Prim.Native.Nat.{ℕ}
use mathlib.Core.List.{List, ◌++◌}
use lib.ListN.{length, replicate, drop}
use Rattle.quick.proofs.Copying.{copied}
use Rattle.quick.proofs.lexis.Bytes.{copied-ended}
use Rattle.quick.proofs.lexis.Text.of.Goals as goal

pub invariant_of-result : goal.invariant_of-result
invariant_of-result c =
    let given = c.args.given.now in
    record { ended = copied-ended _ given (copied given _ c.requires (ap (λ (x : List ℕ). x ++ drop (length given) (replicate 256 0)) c.copy_from_slice.ensures.after)) }

pub returns : goal.returns
returns c =
    let given = c.args.given.now in
    copied given _ c.requires (ap (λ (x : List ℕ). x ++ drop (length given) (replicate 256 0)) c.copy_from_slice.ensures.after)
