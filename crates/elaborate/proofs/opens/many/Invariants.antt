use mathlib.Core.List.{[]}
use mathlib.Core.Path.{◌≡◌}
use lib.Seq.{sets}
use Rattle.quel.specs.Writing.{often}
use Rattle.elaborate.proofs.opens.many.Given as goal

abbrev pub invariant-loop-i : goal.invariant-loop-i
invariant-loop-i l = l.out ≡ sets l.initial.out l.at (often l.i l.b [])
