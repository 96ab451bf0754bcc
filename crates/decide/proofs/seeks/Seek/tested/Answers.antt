use Rattle.std.proofs.Common.{ℕ, refl, sym, ap, ◌∙◌, arith}
use Rattle.walks.specs.Assigned.{assigned}
use Rattle.decide.specs.Cursor.{meets}
use Rattle.decide.proofs.seeks.Steps.{left_is, right_is}
use Rattle.decide.proofs.seeks.Cursors.{tested-rows}
use Rattle.decide.proofs.seeks.Seek.tested.Goals as goal

pub returns-then-a-v : goal.returns-then-a-v
returns-then-a-v c =
    let s = c.args.self.now in let start = c.args.start in let v = s.variable in
    let alone = c.fails_alone.ensures c.if-not-fails_alone.false in
    λ ws cs. tested-rows s.t.now start v ws s.values.now s.memo.now s.env.now cs c.of.result c.onward_from-next.result alone.0 alone.1.1.1 c.onward_from-next.ensures
    (λ q z us row. left_is s.t.now q z us s.values.now s.memo.now start v (assigned s.values.now s.env.now) row _ _ _ _ c.size_at-operator.ensures.value alone.1.0 alone.1.1.0 c.size_at-a.ensures.value c.size_at-b.ensures.value (omega (arith, c.from-v.ensures, c.well_formed)) _ _ (c.if-a-v.true ∙ c.from-v.ensures) (λ e. c.if-b-v.false (e ∙ sym c.from-v.ensures)) refl c.size_at-c.ensures.value c.side-x.ensures.value
    ∙ sym (ap (λ (k : ℕ). meets c.of.result (row k)) c.of.ensures.given ∙ c.of.ensures.met _))

pub returns : goal.returns
returns c =
    let s = c.args.self.now in let start = c.args.start in let v = s.variable in
    let alone = c.fails_alone.ensures c.if-not-fails_alone.false in
    λ ws cs. tested-rows s.t.now start v ws s.values.now s.memo.now s.env.now cs c.of-2.result c.onward_from-next.result alone.0 alone.1.1.1 c.onward_from-next.ensures
    (λ q z us row. right_is s.t.now q z us s.values.now s.memo.now start v (assigned s.values.now s.env.now) row _ _ _ _ c.size_at-operator.ensures.value alone.1.0 alone.1.1.0 c.size_at-a.ensures.value c.size_at-b.ensures.value (omega (arith, c.from-v.ensures, c.well_formed)) _ _ (λ e. c.if-a-v.false (e ∙ sym c.from-v.ensures)) (c.if-b-v-2.false ∙ c.from-v.ensures) refl c.size_at-c-2.ensures.value c.side-x-2.ensures.value
    ∙ sym (ap (λ (k : ℕ). meets c.of-2.result (row k)) c.of-2.ensures.given ∙ c.of-2.ensures.met _))
