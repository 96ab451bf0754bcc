use native.Mathlib.Omega.{arith}
use mathlib.Core.Path.{sym, subst}
use lib.ListN.{length, replicate}
use Rattle.walks.proofs.Assigned.{none-bound}
use Rattle.odometer.specs.declared.Plan.{Plan}
use Rattle.odometer.specs.Plan.{code_in, chains_in}
use Rattle.decide.specs.Keys.{Faithful}
use Rattle.plain.proofs.Answers.{bounded, answered}
use Rattle.plain.proofs.Tables.{no_rows}
use Rattle.plain.proofs.Asked.answer_in.Goals as goal

pub run-state-requires : goal.run-state-requires
run-state-requires c = let a = c.args.self.now in let f = c.args.front in let after = c.furnish.new.work in
    let clear = c.requires.cleared in let plan = c.plan-plan.result in let made = c.plan-plan.ensures in (
      (none-bound a.values.now).places,
      bounded a.layout a.level f (length after) plan a.columns a.ranges clear.branches (omega (arith, clear.room, c.furnish.auto.work)) made,
      no_rows a.layout a.level f a.q.now a.z.now a.walks.now a.values.now c.args.memo.now c.args.work.now clear plan _ _ after made c.furnish.ensures,
      subst (λ (p : Plan). Faithful (code_in after) a.walks.now a.values.now (chains_in p after)) (sym made) c.furnish.ensures.faithful,
    )

pub returns : goal.returns
returns c = let a = c.args.self.now in let values = a.values.now in
    answered a.layout a.level c.args.front a.q.now a.z.now a.walks.now values c.args.memo.now (replicate 256 (length values)) c.requires.trusted (none-bound values) _ c.furnish.ensures.planned c.plan-plan.result c.run-state.result _ _ _ c.plan-plan.ensures c.run-state.ensures c.filled.ensures
