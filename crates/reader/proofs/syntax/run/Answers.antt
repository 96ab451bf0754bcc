use Rattle.std.proofs.Common.{Some, refl, subst, sym, ap, ◌∙◌, ◌&&◌, eqb, arith}
use Rattle.reader.specs.declared.syntax.Move.{Move}
use Rattle.reader.proofs.syntax.Turns.{ran-start, Takes, stops-none, stops-low, ran-to, ran-aggregate, ran-open, ran-back, ran-end}
use Rattle.reader.proofs.syntax.run.Goals.{After-next, in-To, in-Aggregate, in-Open, in-Back+else-depth-eq0}
use Rattle.reader.proofs.syntax.run.Goals as goal

pub loop-kind-init : goal.loop-kind-init
loop-kind-init c = record { ran = ran-start _ _; kept = refl }

pub returns-in_default : goal.returns-in_default
returns-in_default c = stops-none _ _ _ _ _ c.loop-kind.invariant.ran c.loop-kind-test.true _ c.from.ensures (c.in_default.ensures.value, c.in_default.ensures.small)

pub returns-then-depth-eq0 : goal.returns-then-depth-eq0
returns-then-depth-eq0 c =
    let ran = c.loop-kind.invariant.ran in
    let step = subst (λ (x : Move). Takes _ _ _ _ _ ran c.loop-kind-test.true _ c.from.ensures (Some x)) c.in-Back.is (c.in-Some.ensures.value, c.in-Some.ensures.small) in
    stops-low _ _ _ _ _ ran c.loop-kind-test.true _ c.from.ensures step c.if-depth-eq0.true

pub loop-kind-preserved : goal.loop-kind-preserved
loop-kind-preserved c =
    let ran = c.loop-kind.invariant.ran in
    let l = c.loop-kind-test.true in
    let kept = c.match-step.auto.stack ∙ c.loop-kind.invariant.kept in
    let Goes : Move → Type 0 = λ (x : Move). Takes _ _ _ _ _ ran l _ c.from.ensures (Some x) in
    let taken : Goes c.in-Some.step = (c.in-Some.ensures.value, c.in-Some.ensures.small) in
    elim c.match-step.branch [
      | in-To w ↦ record { ran = rw (w.stack-is, w.mode-is, w.depth-is) (ran-to _ _ _ _ _ ran l _ c.from.ensures w.in-To.m (subst Goes w.in-To.is taken)); kept = kept }
      | in-Aggregate w ↦ record { ran = rw (w.stack-is, w.mode-is, w.depth-is) (ran-aggregate _ _ _ _ _ ran l _ c.from.ensures w.in-Aggregate.m (omega (arith, ran.deep, c.loop-kind.invariant.kept, l, c.requires)) (subst Goes w.in-Aggregate.is taken)); kept = kept }
      | in-Open w ↦ record { ran = rw (w.stack-is, w.mode-is, w.depth-is) (ran-open _ _ _ _ _ ran l _ c.from.ensures w.in-Open.m (omega (arith, ran.deep, c.loop-kind.invariant.kept, l, c.requires)) (subst Goes w.in-Open.is taken)); kept = kept }
      | in-Back+else-depth-eq0 w ↦ record { ran = rw (w.stack-is, w.mode-is, w.depth-is) (ran-back _ _ _ _ _ ran l _ c.from.ensures (subst Goes w.in-Back.is taken) w.if-depth-eq0.false); kept = kept }
    ]

pub returns-then-may_end : goal.returns-then-may_end
returns-then-may_end c = ran-end _ _ _ _ _ c.loop-kind.invariant.ran c.loop-kind-test.false _ (ap (λ b. b && eqb c.loop-kind.depth 0) (sym c.if-may_end.true ∙ c.may_end.ensures))

pub returns-else-may_end : goal.returns-else-may_end
returns-else-may_end c = ran-end _ _ _ _ _ c.loop-kind.invariant.ran c.loop-kind-test.false _ (c.if-may_end.false ∙ ap (λ b. b && eqb c.loop-kind.depth 0) (sym c.if-may_end.false ∙ c.may_end.ensures))
