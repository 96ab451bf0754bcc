use mathlib.Core.Path.{sym, ap, subst, ◌∙◌}
use native.Mathlib.Omega.{arith}
use Rattle.std.specs.Prelude.{Result}
use Rattle.std.proofs.lemmas.Result.{err_from_is_err_and}
use Rattle.grammar.specs.declared.Layout.{Layout}
use Rattle.model.specs.declared.refusal.Refusal.{Refusal}
use Rattle.model.specs.Refusals.{code_of}
use Rattle.model.proofs.Refusals.{number-positive}
use Rattle.queries.specs.Parts.{Ready}
use Rattle.guarded.proofs.Numbers.{refused-kept, refused-permits, refused-query, catalogue-passes}
use Rattle.guarded.proofs.ask_with.Goals as goal

pub returns-in_err-check : goal.returns-in_err-check
returns-in_err-check c = let p = err_from_is_err_and c.from_residual.result c.from_residual.ensures.1 in rw (p.1, p.2) (refused-kept c.args.catalogue.now c.args.values.now c.args.permits.now c.args.query.now c.args.rewritten.now c.args.answer.now _ (sym (ap code_of c.in_err-check.was) ∙ c.check.ensures) (number-positive _))

pub check-requires-2 : goal.check-requires-2
check-requires-2 c = catalogue-passes c.args.catalogue.now c.args.values.now c.args.permits.now c.args.query.now c.args.rewritten.now c.args.answer.now (sym c.check.ensures ∙ ap code_of c.in_ok-check.was)

pub returns-in_err-check-2 : goal.returns-in_err-check-2
returns-in_err-check-2 c = let p = err_from_is_err_and c.from_residual-in_err-check-2.result c.from_residual-in_err-check-2.ensures.1 in rw (p.1, p.2) (refused-permits c.args.catalogue.now c.args.values.now c.args.permits.now c.args.query.now c.args.rewritten.now c.args.answer.now (sym c.check.ensures ∙ ap code_of c.in_ok-check.was) _ (sym (ap code_of c.in_err-check-2.was) ∙ c.check-2.ensures) (number-positive _))

pub check-requires-3 : goal.check-requires-3
check-requires-3 c = let pre = c.requires in (catalogue-passes c.args.catalogue.now c.args.values.now c.args.permits.now c.args.query.now c.args.rewritten.now c.args.answer.now (sym c.check.ensures ∙ ap code_of c.in_ok-check.was), (λ h. omega (arith, pre)), omega arith)

pub returns-in_err-layout : goal.returns-in_err-layout
returns-in_err-layout c = let p = err_from_is_err_and c.from_residual-in_err-layout.result c.from_residual-in_err-layout.ensures.1 in rw (p.1, p.2) (refused-query c.args.catalogue.now c.args.values.now c.args.permits.now c.args.query.now c.args.rewritten.now c.args.answer.now (sym c.check.ensures ∙ ap code_of c.in_ok-check.was) (sym c.check-2.ensures ∙ ap code_of c.in_ok-check-2.was) _ (sym (ap code_of c.in_err-layout.was) ∙ c.check-3.ensures.result_value) (number-positive _))

pub answer_query-requires : goal.answer_query-requires
answer_query-requires c =
    let ready = subst (λ (r : Result Layout Refusal). Ready r 32 c.args.query.now c.check-3.new.z) c.in_ok-layout.was c.check-3.ensures.ready in
    record { kept = (sym c.check.ensures ∙ ap code_of c.in_ok-check.was); permits = (sym c.check-2.ensures ∙ ap code_of c.in_ok-check-2.was); query = sym c.check-3.ensures.result_value ∙ ap code_of c.in_ok-layout.was; ready = ready.1; laid = ready.0 }
