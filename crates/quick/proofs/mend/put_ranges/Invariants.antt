use Prim.Native.Nat.{◌%◌}
use mathlib.Core.Path.{◌≡◌}
use lib.ListN.{length}
use Rattle.parts.specs.Table.{number_at}
use Rattle.quick.proofs.mend.Laws.{ToCome}
use Rattle.quick.proofs.mend.put_ranges.Given as goal

abbrev pub invariant-loop-i : goal.invariant-loop-i
invariant-loop-i l = (length l.out ≡ length l.initial.out) × ToCome (λ i. number_at l.symbols i % 256) l.symbols l.n l.initial.out l.out l.i l.at
