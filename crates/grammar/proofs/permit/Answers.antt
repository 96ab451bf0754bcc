use native.Mathlib.Omega.{arith}
use mathlib.Core.Path.{sym, ap, ◌∙◌}
use Rattle.grammar.specs.Sizes.{condition_size, after}
use Rattle.grammar.proofs.Listed.{no-permit, permit-found}
use Rattle.grammar.proofs.Bounds.{condition-within, part-within}
use Rattle.grammar.proofs.permit.Goals as goal

pub returns-in_default : goal.returns-in_default
returns-in_default c = no-permit c.args.q.now (sym c.permit_record.ensures ∙ c.in_default.is)

pub returns-in_err-n : goal.returns-in_err-n
returns-in_err-n c = c.from_residual.ensures ∙ ap (after c.record_length-start.result) (sym c.in_err-n.was) ∙ permit-found c.args.q.now c.permit_record.result c.permit_record.ensures _ _ c.in-Permit.is c.byte.result c.record_length-start.result c.byte.ensures c.record_length-start.ensures.value c.tail.result.now c.condition.result c.tail.ensures c.condition.ensures

pub overflow_add-result : goal.overflow_add-result
overflow_add-result c = omega (arith, c.record_length-start.ensures.lower_bound, part-within condition_size c.args.q.now c.tail.result.now c.record_length-start.result c.in_ok-n.n c.condition.result c.tail.ensures c.condition.ensures c.in_ok-n.was condition-within)

pub returns : goal.returns
returns c = ap (after c.record_length-start.result) (sym c.in_ok-n.was) ∙ permit-found c.args.q.now c.permit_record.result c.permit_record.ensures _ _ c.in-Permit.is c.byte.result c.record_length-start.result c.byte.ensures c.record_length-start.ensures.value c.tail.result.now c.condition.result c.tail.ensures c.condition.ensures
