use Prim.Native.Nat.{ℕ}
use lib.ListN.{length-replicate}
use native.Mathlib.Omega.{arith}
use Rattle.decide.proofs.seeks.Filling.{nothing}
use Rattle.model.proofs.Lists.{get_or-same}
use Rattle.aggregates.proofs.Taking.{taken-planned}
use Rattle.aggregates.proofs.gather.Goals as goal

pub plan-requires : goal.plan-requires
plan-requires c = (omega (arith, length-replicate {A = ℕ} 768 0), omega arith, omega arith, c.requires.1, get_or-same {A = ℕ} 768 0)

pub returns-then-asks : goal.returns-then-asks
returns-then-asks c = let vs = c.args.values.now in record { accumulates = taken-planned _ c.args.q.now c.args.z.now c.args.walks.now vs c.args.memo.now c.args.column.level c.args.env.now c.args.column.variable c.args.column.attribute _ (c.plan.ensures c.args.walks.now vs) c.take_linked.ensures.accumulates; count_bound = c.take_linked.ensures.count_bound; env_unchanged = c.take_linked.ensures.env_unchanged }

pub take-requires : goal.take-requires
take-requires c = (c.requires.0, (nothing _ _ _ _ (get_or-same {A = ℕ} 1 0)).faithful, c.requires.2)

pub returns : goal.returns
returns c = let vs = c.args.values.now in record { accumulates = taken-planned _ c.args.q.now c.args.z.now c.args.walks.now vs c.args.memo.now c.args.column.level c.args.env.now c.args.column.variable c.args.column.attribute _ (c.plan.ensures c.args.walks.now vs) c.take.ensures.accumulates; count_bound = c.take.ensures.count_bound; env_unchanged = c.take.ensures.env_unchanged }
