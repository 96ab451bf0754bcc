use native.Mathlib.Omega.{arith}
use mathlib.Core.Path.{refl, ap, ◌∙◌}
use mathlib.Core.List.{[]}
use lib.ListN.{length, drop}
use Rattle.conditions.specs.Reach.{shape_in, scope_of}
use Rattle.conditions.specs.Answers.{bytes_of}
use Rattle.conditions.proofs.Steps.{condition-ends}
use Rattle.conditions.proofs.Past.{condition-past}
use Rattle.queries.proofs.Remainder.{rest-short, rest-unrun, run_inside, rest-none, rest-unread, rest-longer, rest-whole}
use Rattle.queries.proofs.rest.Goals as goal

pub returns-then-q-first : goal.returns-then-q-first
returns-then-q-first c = record { rest = rest-short (shape_in c.args.catalogue.now) c.args.limit c.args.level (scope_of c.args.reach.now) c.args.q.now c.args.ranges c.args.z.now [] c.if-q-first.true; z_unchanged = refl }

pub returns-in_err-run : goal.returns-in_err-run
returns-in_err-run c = record { rest = rw c.from_residual.ensures (rest-unrun (shape_in c.args.catalogue.now) c.args.limit c.args.level (scope_of c.args.reach.now) c.args.q.now c.args.ranges c.args.z.now [] c.targets.result _ c.targets.ensures.leads c.targets.ensures.targets_found c.in_err-run.was); z_unchanged = c.targets.ensures.z_unchanged }

pub returns-then-run-eq0 : goal.returns-then-run-eq0
returns-then-run-eq0 c = record { rest = rest-none (shape_in c.args.catalogue.now) c.args.limit c.args.level (scope_of c.args.reach.now) c.args.q.now c.args.ranges c.args.z.now [] c.targets.result _ c.targets.ensures.leads c.targets.ensures.targets_found _ _ _ c.in_ok-run.was c.if-run-eq0.true; z_unchanged = c.targets.ensures.z_unchanged }

pub returns-in_err-last : goal.returns-in_err-last
returns-in_err-last c = let q = c.args.q.now in let level = c.args.level in record { rest = rw c.from_residual-in_err-last.ensures (rest-unread (shape_in c.args.catalogue.now) c.args.limit level (scope_of c.args.reach.now) q c.args.ranges c.args.z.now [] c.targets.result _ c.targets.ensures.leads c.targets.ensures.targets_found _ _ _ c.in_ok-run.was c.condition.result c.condition.ensures.value c.in_err-last.was); z_unchanged = ap (drop (length q)) c.condition.ensures.z_after ∙ condition-past level q _ _ ∙ c.targets.ensures.z_unchanged }

pub overflow_add-condition : goal.overflow_add-condition
overflow_add-condition c = let good = c.well_formed in let q = c.args.q.now in
    omega (arith, ap bytes_of c.in_ok-last.was, condition-ends q _ (run_inside (shape_in c.args.catalogue.now) c.args.limit c.args.level (scope_of c.args.reach.now) q c.args.ranges c.args.z.now [] c.targets.result _ c.targets.ensures.leads c.targets.ensures.targets_found _ _ _ c.in_ok-run.was) _ _ _ _ c.condition.result c.condition.ensures.value, good)

pub returns-then-condition-last : goal.returns-then-condition-last
returns-then-condition-last c = let q = c.args.q.now in let level = c.args.level in record { rest = rest-longer (shape_in c.args.catalogue.now) c.args.limit level (scope_of c.args.reach.now) q c.args.ranges c.args.z.now [] c.targets.result _ c.targets.ensures.leads c.targets.ensures.targets_found _ _ _ c.in_ok-run.was c.condition.result c.condition.ensures.value _ _ c.in_ok-last.was c.if-condition-last.true; z_unchanged = ap (drop (length q)) c.condition.ensures.z_after ∙ condition-past level q _ _ ∙ c.targets.ensures.z_unchanged }

pub returns : goal.returns
returns c = let q = c.args.q.now in let level = c.args.level in record { rest = rest-whole (shape_in c.args.catalogue.now) c.args.limit level (scope_of c.args.reach.now) q c.args.ranges c.args.z.now _ c.targets.result _ c.targets.ensures.leads c.targets.ensures.targets_found _ _ _ c.in_ok-run.was c.condition.result c.condition.ensures.value _ _ c.in_ok-last.was c.if-q-first.false c.if-run-eq0.false c.if-condition-last.false c.condition.ensures.z_after; z_unchanged = ap (drop (length q)) c.condition.ensures.z_after ∙ condition-past level q _ _ ∙ c.targets.ensures.z_unchanged }
