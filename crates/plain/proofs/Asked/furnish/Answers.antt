use native.Mathlib.Omega.{arith}
use mathlib.Core.Path.{ap, ◌∙◌}
use mathlib.Core.List.{List}
use Prim.Native.Nat.{ℕ, ◌-◌}
use lib.ListN.{take, get_or}
use lib.Seq.{length-take-le}
use Rattle.plain.proofs.Tables.{part-clear, furnished-alone, furnished-linked}
use Rattle.plain.proofs.Asked.furnish.Goals as goal

pub plan-requires : goal.plan-requires
plan-requires c = let a = c.args.self.now in let parts = c.split_at_mut-code.ensures in
    (omega (arith, parts.front_len), omega (arith, a.ranges), omega (arith, a.condition), omega (arith, a.levels), λ i. ap (λ (t : List ℕ). get_or t i 0) parts.front ∙ part-clear 0 768 c.args.work.now c.requires.clear i)

pub link-requires : goal.link-requires
link-requires c =
    (omega (arith, c.args.self.now.ranges), λ i. ap (λ (t : List ℕ). get_or (take (c.args.front - 768) t) i 0) c.split_at_mut-code.ensures.back ∙ part-clear 768 (c.args.front - 768) c.args.work.now c.requires.clear i)

pub returns-then-front-eq-BRANCHES : goal.returns-then-front-eq-BRANCHES
returns-then-front-eq-BRANCHES c = let a = c.args.self.now in let parts = c.split_at_mut-code.ensures in
    furnished-alone a.layout a.level c.args.front a.q.now a.z.now a.walks.now a.values.now c.args.memo.now c.args.work.now c.requires _ _ (c.plan.auto.t ∙ parts.front_len) (c.plan.ensures a.walks.now a.values.now) parts.back

pub returns : goal.returns
returns c = let a = c.args.self.now in let parts = c.split_at_mut-code.ensures in let back = c.split_at_mut-code.result.1.now in
    furnished-linked a.layout a.level c.args.front a.q.now a.z.now a.walks.now a.values.now c.args.memo.now c.args.work.now c.requires _ back _ (c.plan.auto.t ∙ parts.front_len) (c.plan.ensures a.walks.now a.values.now) parts.back
    (c.link.auto.chains ∙ length-take-le (c.args.front - 768) back (omega (arith, parts.back_len, c.requires.room))) c.link.ensures
