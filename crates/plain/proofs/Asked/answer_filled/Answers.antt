use native.Mathlib.Omega.{arith}
use lib.ListN.{length, replicate, length-replicate}
use Rattle.plain.proofs.Memo.{filled-trusted}
use Rattle.plain.proofs.Asked.answer_filled.Goals as goal

pub remember-requires : goal.remember-requires
remember-requires c = omega (arith, length-replicate 256 (length c.args.self.now.values.now))

pub answer_by-requires : goal.answer_by-requires
answer_by-requires c = let a = c.args.self.now in let passed = c.requires in let values = a.values.now in
    filled-trusted a.layout a.level a.q.now a.z.now passed.by a.walks.now values _ (replicate 256 (length values)) passed.answerable c.remember.ensures.memo_after
