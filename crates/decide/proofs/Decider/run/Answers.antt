use mathlib.Core.Path.{refl, sym, ap, ◌∙◌}
use native.Mathlib.Omega.{arith}
use lib.ListN.{length}
use Rattle.branches.proofs.Running.{runs-1}
use Rattle.decide.proofs.Following.{follow-stuck, follow-on}
use Rattle.decide.proofs.Searching as S
use Rattle.decide.proofs.Decider.run.Goals as goal

pub loop-at-init : goal.loop-at-init
loop-at-init c = (refl, refl, omega arith, refl)

pub returns-then-size_at-eq256 : goal.returns-then-size_at-eq256
returns-then-size_at-eq256 c = record { env_value = c.loop-at.invariant.0; upper_bound = (c.loop-at.invariant.2, λ h. sym c.size_at.ensures.value ∙ c.if-size_at-eq256.true); env_unchanged = c.loop-at.invariant.1 }

pub branch-met-requires : goal.branch-met-requires
branch-met-requires c = (omega (arith, c.requires.0, c.loop-at.invariant.3), omega (arith, c.requires.1, c.loop-at.invariant.2), λ e. c.if-size_at-eq256.false (c.size_at.ensures.value ∙ e))

pub returns-then-at-to : goal.returns-then-at-to
returns-then-at-to c =
    let s = c.args.self.now in
    let e = S.way_next s.t.now s.q.now s.z.now s.walks.now s.values.now s.memo.now c.loop-at.env c.loop-at.at c.way-to.result c.branch-met.result c.way-to.ensures.value c.branch-met.ensures.value in
    record { env_value = runs-1 s.t.now s.q.now s.z.now s.walks.now s.values.now s.memo.now _ ∙ follow-stuck s.t.now s.q.now s.z.now s.walks.now s.values.now s.memo.now c.args.env.now c.loop-at.at c.args.start c.way-to.result c.loop-at.env c.loop-at.invariant.1 c.loop-at-test.true e c.loop-at.invariant.0 c.if-at-to.true; upper_bound = (omega (arith, c.loop-at-test.true, c.loop-at.invariant.2), λ h. absurd (omega arith)); env_unchanged = c.branch-met.ensures.env_unchanged ∙ c.loop-at.invariant.1 }

pub loop-at-preserved : goal.loop-at-preserved
loop-at-preserved c =
    let s = c.args.self.now in
    let e = S.way_next s.t.now s.q.now s.z.now s.walks.now s.values.now s.memo.now c.loop-at.env c.loop-at.at c.way-to.result c.branch-met.result c.way-to.ensures.value c.branch-met.ensures.value in
    (follow-on s.t.now s.q.now s.z.now s.walks.now s.values.now s.memo.now c.args.env.now c.loop-at.at c.args.start c.way-to.result c.loop-at.env c.loop-at.invariant.1 c.loop-at-test.true e c.loop-at.invariant.0 c.if-at-to.false, c.branch-met.ensures.env_unchanged ∙ c.loop-at.invariant.1, omega (arith, c.if-at-to.false, c.loop-at.invariant.2), ap length (c.branch-met.ensures.env_unchanged ∙ c.loop-at.invariant.1))

pub returns : goal.returns
returns c = record { env_value = c.loop-at.invariant.0; upper_bound = (c.loop-at.invariant.2, λ h. absurd (omega (arith, c.loop-at-test.false, h))); env_unchanged = c.loop-at.invariant.1 }
