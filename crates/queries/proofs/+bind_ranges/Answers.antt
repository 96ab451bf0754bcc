use native.Mathlib.Omega.{arith}
use mathlib.Core.Path.{refl}
use Rattle.model.specs.Scope.{known_binding}
use Rattle.conditions.specs.Reach.{scope_of, shape_in}
use Rattle.queries.proofs.Steps.{none_left, other-here, range-here, none-known, more-known, none-bound, more-bound}
use Rattle.queries.proofs.+bind_ranges.Goals as goal

pub returns-then-left-eq0 : goal.returns-then-left-eq0
returns-then-left-eq0 t c = let e = none_left c.args.left c.args.q.now c.if-left-eq0.true in record { count_value = none-known (known_binding (shape_in c.args.catalogue.now) c.args.limit) _ e; reach_after = none-bound _ (scope_of c.args.reach.now) e; count_le_left = omega arith }

pub returns-in_default : goal.returns-in_default
returns-in_default t c = let e = other-here c.args.left c.args.q.now c.if-left-eq0.false c.head_record.result c.head_record.ensures c.in_default.is in record { count_value = none-known (known_binding (shape_in c.args.catalogue.now) c.args.limit) _ e; reach_after = none-bound _ (scope_of c.args.reach.now) e; count_le_left = omega arith }

pub returns : goal.returns
returns t c = let e = range-here c.args.left c.args.q.now c.if-left-eq0.false c.head_record.result c.head_record.ensures _ _ c.in-Range.is _ _ c.record_length.ensures.value c.tail-rest.ensures in record { count_value = more-known (known_binding (shape_in c.args.catalogue.now) c.args.limit) _ _ _ e _ _ _ _ c.bind_ranges-others.ensures.count_value.0 c.enter-known.ensures.value c.bind_ranges-others.ensures.count_value.1 refl; reach_after = more-bound _ _ _ _ e c.args.reach.now c.bind_ranges-others.new.reach _ c.bind_ranges-others.ensures.reach_after (omega (arith, c.requires, c.bind_ranges-others.auto.reach, c.in-Range.known_told-1-own.given.0)) c.enter-known.ensures.reach_after; count_le_left = omega (arith, c.bind_ranges-others.ensures.count_le_left, c.if-left-eq0.false) }
