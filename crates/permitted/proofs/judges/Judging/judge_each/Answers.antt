use lib.Dec.{eqb}
use native.Mathlib.Omega.{arith}
use Prim.Native.Nat.{ℕ}
use mathlib.Core.Bool.{not}
use lib.ListN.{length-replicate}
use Rattle.decide.proofs.seeks.Filling.{nothing}
use Rattle.model.proofs.Lists.{get_or-same}
use Rattle.permitted.proofs.judges.Conditions.{end_low, compiled-marks}
use Rattle.permitted.proofs.judges.Judging.judge_each.Goals as goal

pub mark_rows-requires : goal.mark_rows-requires
mark_rows-requires c = (omega (arith, c.compile-start.ensures.lower_bound.1), c.requires.1, c.requires.2, (nothing _ _ _ _ (get_or-same {A = ℕ} 1 0)).faithful)

pub compile-start-requires : goal.compile-start-requires
compile-start-requires c = let wanted = eqb c.args.task.end 0 in
    (omega (arith, length-replicate {A = ℕ} 768 0), omega arith, omega arith, omega arith, end_low wanted c.end_of-met.result c.end_of-met.ensures, end_low (not wanted) c.end_of-unmet.result c.end_of-unmet.ensures, omega arith, c.requires.0)

pub returns-then-byte-eq22 : goal.returns-then-byte-eq22
returns-then-byte-eq22 c = compiled-marks c.compile-start.result _ _ _ _ c.args.q.now c.args.z.now c.args.self.now.walks.now c.args.self.now.values.now c.args.self.now.memo.now c.args.task.level c.args.self.now.walk (eqb c.args.task.end 0) _ c.args.marks.now _ c.compile-start.ensures.compiled c.end_of-met.ensures c.end_of-unmet.ensures c.mark_linked.ensures

pub returns : goal.returns
returns c = compiled-marks c.compile-start.result _ _ _ _ c.args.q.now c.args.z.now c.args.self.now.walks.now c.args.self.now.values.now c.args.self.now.memo.now c.args.task.level c.args.self.now.walk (eqb c.args.task.end 0) _ c.args.marks.now _ c.compile-start.ensures.compiled c.end_of-met.ensures c.end_of-unmet.ensures c.mark_rows.ensures
