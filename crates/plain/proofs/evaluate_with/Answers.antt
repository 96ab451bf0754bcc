use native.Mathlib.Omega.{arith}
use mathlib.Core.Path.{refl, sym, ap, ◌∙◌, subst}
use Rattle.std.specs.Prelude.{Result}
use Rattle.std.proofs.lemmas.Result.{err_from_is_err_and}
use Rattle.grammar.specs.declared.Layout.{Layout}
use Rattle.model.specs.declared.refusal.Refusal.{Refusal}
use Rattle.model.specs.Refusals.{code_of}
use Rattle.model.proofs.Refusals.{number-positive}
use Rattle.queries.specs.Parts.{Ready}
use Rattle.plain.proofs.Answers.{refused-first, catalogue-passes, refused-second, answerable, accepted}
use Rattle.plain.proofs.evaluate_with.Goals as goal

pub returns-in_err-check : goal.returns-in_err-check
returns-in_err-check c = let p = err_from_is_err_and c.from_residual.result c.from_residual.ensures.1 in rw (p.1, p.2) (refused-first c.args.catalogue.now c.args.values.now c.args.query.now c.args.answer.now _ (sym (ap code_of c.in_err-check.was) ∙ c.check.ensures) (number-positive _))

pub check-requires-2 : goal.check-requires-2
check-requires-2 c = let pre = c.requires in (catalogue-passes c.args.catalogue.now c.args.values.now c.args.query.now c.args.answer.now _ (sym (ap code_of c.in_ok-check.was) ∙ c.check.ensures) refl, pre, omega arith)

pub returns-in_err-layout : goal.returns-in_err-layout
returns-in_err-layout c = let p = err_from_is_err_and c.from_residual-in_err-layout.result c.from_residual-in_err-layout.ensures.1 in rw (p.1, p.2) (refused-second c.args.catalogue.now c.args.values.now c.args.query.now c.args.answer.now _ (sym (ap code_of c.in_ok-check.was) ∙ c.check.ensures) refl _ (sym (ap code_of c.in_err-layout.was) ∙ c.check-2.ensures.result_value) (number-positive _))

pub answer_all-requires : goal.answer_all-requires
answer_all-requires c =
    let query = c.args.query.now in
    let h = subst (λ (r : Result Layout Refusal). Ready r 64 query c.check-2.new.z) c.in_ok-layout.was c.check-2.ensures.ready in
    answerable c.args.catalogue.now c.args.values.now query c.args.answer.now _ (sym (ap code_of c.in_ok-check.was) ∙ c.check.ensures) refl c.in_ok-layout.layout c.check-2.new.z (sym (ap code_of c.in_ok-layout.was) ∙ c.check-2.ensures.result_value) h.0 h.1

pub returns : goal.returns
returns c = accepted c.args.catalogue.now c.args.values.now c.args.query.now c.args.answer.now _ (sym (ap code_of c.in_ok-check.was) ∙ c.check.ensures) refl c.in_ok-layout.layout c.check-2.new.z (sym (ap code_of c.in_ok-layout.was) ∙ c.check-2.ensures.result_value) _ _ c.answer_all.ensures
