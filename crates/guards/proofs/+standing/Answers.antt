use mathlib.Core.Path.{refl}
use native.Mathlib.Omega.{arith}
use Rattle.model.specs.Permits.{bit}
use Rattle.guards.proofs.Steps.{pow_step, pow-few, pow_pos, standing-none, standing-empty, standing-next}
use Rattle.guards.proofs.+standing.Goals as goal

pub returns-then-left-eq0 : goal.returns-then-left-eq0
returns-then-left-eq0 t c = record { value = standing-none (λ a. bit c.args.used a) c.args.relation c.args.left c.args.permits.now c.if-left-eq0.true; mask_bound = omega (arith, pow_pos c.args.left) }

pub returns-then-permits-eq0 : goal.returns-then-permits-eq0
returns-then-permits-eq0 t c = record { value = standing-empty (λ a. bit c.args.used a) c.args.relation c.args.left c.args.permits.now c.if-permits-eq0.true; mask_bound = omega (arith, pow_pos c.args.left) }

pub overflow_mul-result : goal.overflow_mul-result
overflow_mul-result t c = let left = c.args.left in
    record { fits = omega (arith, c.standing-rest.ensures.mask_bound, pow_step left c.if-left-eq0.false, pow-few left c.requires, c.one_if-first.ensures.1) }

pub overflow_add-result : goal.overflow_add-result
overflow_add-result t c = let left = c.args.left in
    record { fits = omega (arith, c.standing-rest.ensures.mask_bound, pow_step left c.if-left-eq0.false, pow-few left c.requires, c.one_if-first.ensures.1) }

pub returns : goal.returns
returns t c = let args = c.args in record { value = standing-next (λ a. bit args.used a) args.relation args.left args.permits.now _ _ _ _ _ _ _ c.if-left-eq0.false c.if-permits-eq0.false c.applies.ensures c.one_if-first.ensures.0 c.bars-bars.ensures c.size.ensures.value c.tail.ensures c.standing-rest.ensures.value refl; mask_bound = omega (arith, c.standing-rest.ensures.mask_bound, pow_step args.left c.if-left-eq0.false, pow-few args.left c.requires, c.one_if-first.ensures.1) }
