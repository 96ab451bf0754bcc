use native.Mathlib.Omega.{arith}
use Prim.Native.Nat.{ℕ, ◌+◌, ◌*◌}
use mathlib.Core.List.{List}
use mathlib.Core.Bool.{cond}
use mathlib.Core.Path.{refl, sym, ap, ◌∙◌}
use lib.ListN.{length, set, length-set, length-replicate}
use lib.Seq.{set-set}
use Rattle.permitted.proofs.judges.Steps.{byte-is, marked-none, row-marked}
use Rattle.permitted.proofs.judges.Judging.mark_rows.Goals as goal

pub loop-i-init : goal.loop-i-init
loop-i-init c = (refl, length-replicate 256 (length c.args.self.now.values.now), marked-none _ c.args.marks.now)

pub loop-i-preserved : goal.loop-i-preserved
loop-i-preserved c =
    let a = c.args.self.now in
    let vs = a.values.now in
    let i = c.loop-i.i in
    let place : ℕ = a.walk.base + i * a.walk.width in
    let met = c.leads-met.result in
    let same = c.leads-met.ensures.env_unchanged in (
      ap (λ (u : List ℕ). set u 0 (length vs)) same ∙ set-set c.loop-i.env 0 place (length vs) ∙ c.loop-i.invariant.0,
      ap length same ∙ length-set c.loop-i.env 0 place ∙ c.loop-i.invariant.1,
      row-marked c.args.t.now c.args.start c.args.q.now c.args.z.now a.walks.now vs a.memo.now c.loop-i.env _ a.walk c.args.marks.now c.loop-i.marks i place c.from.result met
          (omega (arith, c.loop-i.invariant.1)) (omega (arith, c.requires.1, c.loop-i-test.true)) c.loop-i.invariant.0 refl refl c.leads-met.ensures.value
          (c.from.ensures ∙ byte-is met ∙ ap (λ (k : ℕ). cond met 1 k) (sym c.if-marks-i-ne0.false)) c.loop-i.invariant.2,
    )
