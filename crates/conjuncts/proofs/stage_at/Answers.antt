use native.Mathlib.Omega.{arith}
use native.Mathlib.Nat.{le_refl}
use mathlib.Core.Path.{refl, sym}
use lib.ListN.{drop}
use Rattle.conjuncts.proofs.Stages.{all_settled}
use Rattle.conjuncts.proofs.stage_at.Goals as goal

pub returns-then-ranges-eq0 : goal.returns-then-ranges-eq0
returns-then-ranges-eq0 c = let q = c.args.q.now in let place = c.args.place in record { upper_bound = omega arith; stable = (all_settled 0 c.args.ranges c.args.level q (drop place q) (drop place c.args.z.now) (sym c.if-ranges-eq0.true)).condition }

pub returns-then-byte-variable : goal.returns-then-byte-variable
returns-then-byte-variable c = let q = c.args.q.now in let place = c.args.place in let ranges = c.args.ranges in record { upper_bound = le_refl _; stable = (all_settled ranges ranges c.args.level q (drop place q) (drop place c.args.z.now) refl).condition }
