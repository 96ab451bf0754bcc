use native.Mathlib.Omega.{arith}
use Prim.Native.Nat.{ℕ, ◌+◌, ◌*◌}
use mathlib.Core.List.{List}
use mathlib.Core.Path.{◌≡◌, refl, sym, ap, ◌∙◌, subst}
use lib.ListN.{length, get_or, set, length-set, length-take}
use Rattle.catalogue.specs.Layout.{tuple_at}
use Rattle.rows.specs.Buffer.{added_all}
use Rattle.rows.specs.Chains.{Linked}
use Rattle.walks.specs.Walks.{place_at}
use Rattle.walks.specs.declared.Walk.{Walk}
use Rattle.walks.specs.Assigned.{assigned}
use Rattle.evaluator.proofs.Steps.{places-start, places-on, places-back, places-length}
use Rattle.decide.specs.Cursor.{Ready}
use Rattle.decide.specs.Keys.{Faithful}
use Rattle.odometer.specs.declared.Plan.{Plan}
use Rattle.odometer.specs.Plan.{Bounds, code_in, chains_in, table_in, front_of, rows_below}
use Rattle.odometer.proofs.Steps.{stage-start, first-fails, second-fails, both_hold, unmet, onward, stopped-before, run-no, run_row, run-rows, each_start, each-skip, each-full, each-row, inner, held, each_all, bounds-held, listed-held}
use Rattle.odometer.proofs.Parts.{code_same, chains-same, runs_same, faithful-same, listed_same}
use Rattle.odometer.proofs.+each_row.Goals as goal

pub overflow_mul-d : goal.overflow_mul-d
overflow_mul-d t c = omega (arith, c.requires.1.ranges)

pub overflow_add-d : goal.overflow_add-d
overflow_add-d t c = omega (arith, c.requires.1.ranges)

pub slice_bounds-t-end : goal.slice_bounds-t-end
slice_bounds-t-end t c = let work = c.args.work.now in
    omega (arith, length-take 768 work, c.requires.1.branches, c.requires.1.room)

pub slice_bounds-chains-count : goal.slice_bounds-chains-count
slice_bounds-chains-count t c = omega (arith, c.requires.1.branches)

pub slice_bounds-chains-start : goal.slice_bounds-chains-start
slice_bounds-chains-start t c = omega (arith, c.requires.1.branches)

pub slice_bounds-chains-end : goal.slice_bounds-chains-end
slice_bounds-chains-end t c = omega (arith, c.requires.1.room)

pub overflow_mul-d-2 : goal.overflow_mul-d-2
overflow_mul-d-2 t c = omega (arith, c.requires.1.ranges)

pub overflow_add-d-2 : goal.overflow_add-d-2
overflow_add-d-2 t c = omega (arith, c.requires.1.ranges)

pub overflow_mul-d-3 : goal.overflow_mul-d-3
overflow_mul-d-3 t c = omega (arith, c.requires.1.ranges)

pub overflow_add-d-3 : goal.overflow_add-d-3
overflow_add-d-3 t c = omega (arith, c.requires.1.ranges)

pub prepare-cursor-requires : goal.prepare-cursor-requires
prepare-cursor-requires t c = (c.requires.0, c.size_at-start.ensures.upper_bound)

pub overflow_sub-inner : goal.overflow_sub-inner
overflow_sub-inner t c = omega (arith, c.requires.5)

pub overflow_add-inner : goal.overflow_add-inner
overflow_add-inner t c = omega (arith, c.requires.1.ranges)

pub offset_bounds-env-variable : goal.offset_bounds-env-variable
offset_bounds-env-variable t c = omega (arith, c.byte-variable.type_inv)

pub bounds-env-variable : goal.bounds-env-variable
bounds-env-variable t c = omega (arith, c.requires.0, c.byte-variable.type_inv)

pub loop-rows-init : goal.loop-rows-init
loop-rows-init t c = let answer = c.args.answer.now in let env = c.args.env.now in let memo = c.args.memo.now in let q = c.args.q.now in let values = c.args.values.now in let walks = c.args.walks.now in let work = c.args.work.now in let z = c.args.z.now in let plan = c.args.plan in
    (places-start env c.byte-variable.result (get_or env c.byte-variable.result 0) refl, each_start (inner plan) (code_in work) q z walks values memo env c.byte-variable.result (place_at walks c.walk_of-walk.result) (record { rows = plan.rows; full = plan.full; cells = answer }), omega arith, refl, refl, c.requires.2, refl, (λ h. absurd (omega arith)), refl, refl)

pub slice_bounds-chains-count-in-loop-rows : goal.slice_bounds-chains-count-in-loop-rows
slice_bounds-chains-count-in-loop-rows t c = omega (arith, c.requires.1.branches)

pub slice_bounds-chains-start-in-loop-rows : goal.slice_bounds-chains-start-in-loop-rows
slice_bounds-chains-start-in-loop-rows t c = omega (arith, c.requires.1.branches)

pub slice_bounds-chains-end-in-loop-rows : goal.slice_bounds-chains-end-in-loop-rows
slice_bounds-chains-end-in-loop-rows t c = omega (arith, c.requires.1.room, c.loop-rows.invariant.6)

pub next_row-j-requires : goal.next_row-j-requires
next_row-j-requires t c = let values = c.args.values.now in let walks = c.args.walks.now in let work = c.args.work.now in let plan = c.args.plan in
    (c.loop-rows.invariant.2, subst (λ (l : List ℕ). Ready c.prepare-cursor.result values walks c.walk_of-walk.result l) (sym (chains-same plan work c.loop-rows.work c.requires.1.branches c.loop-rows.invariant.8)) (subst (λ (w : Walk). Ready c.prepare-cursor.result values walks w (chains_in plan work)) (sym c.walk_of-walk.ensures.value) (c.prepare-cursor.ensures walks c.requires.3).ready), c.loop-rows.invariant.7)

pub overflow_cast-env : goal.overflow_cast-env
overflow_cast-env t c = omega (arith, c.byte-variable.type_inv)

pub offset_bounds-env-variable-then-n-j : goal.offset_bounds-env-variable-then-n-j
offset_bounds-env-variable-then-n-j t c = omega (arith, c.byte-variable.type_inv)

pub bounds-env-variable-then-n-j : goal.bounds-env-variable-then-n-j
bounds-env-variable-then-n-j t c = omega (arith, c.requires.0, c.byte-variable.type_inv, c.loop-rows.invariant.3)

pub returns-then-n-j : goal.returns-then-n-j
returns-then-n-j t c = let answer = c.args.answer.now in let env = c.args.env.now in let memo = c.args.memo.now in let q = c.args.q.now in let values = c.args.values.now in let walks = c.args.walks.now in let work = c.args.work.now in let z = c.args.z.now in let plan = c.args.plan in record { answer_after = each_all plan c.loop-rows.inner (code_in work) q z walks values memo env c.byte-variable.result c.walk_of-walk.result (record { rows = plan.rows; full = plan.full; cells = answer }) c.next_row-j.result (record { rows = c.loop-rows.inner.rows; full = c.loop-rows.inner.full; cells = c.loop-rows.answer }) c.loop-rows.invariant.9 c.byte-variable.ensures c.walk_of-walk.ensures.value (omega (arith, c.if-n-j.true, c.next_row-j.ensures.lower_bound.1)) (each-skip c.loop-rows.inner (code_in work) q z walks values memo env c.byte-variable.result (place_at walks c.walk_of-walk.result) (record { rows = plan.rows; full = plan.full; cells = answer }) c.loop-rows.i c.next_row-j.result (record { rows = c.loop-rows.inner.rows; full = c.loop-rows.inner.full; cells = c.loop-rows.answer }) c.next_row-j.ensures.lower_bound.0 (λ j a b. unmet c.prepare-cursor.result c.loop-rows.inner.depth (code_in work) q z walks values memo env (chains_in plan work) c.byte-variable.result c.size_at-start.result (2 * plan.depth + 2) (c.prepare-cursor.ensures walks c.requires.3) c.size_at-start.ensures.value (omega (arith, ap (λ (p : Plan). p.depth) c.loop-rows.invariant.9)) (tuple_at values ((place_at walks c.walk_of-walk.result) j)) (c.next_row-j.ensures.by_index j a b)) c.loop-rows.invariant.1); env_unchanged = c.loop-rows.invariant.0; linked = (subst (λ (p : Plan). Linked p.columns c.loop-rows.inner.rows c.loop-rows.answer (table_in p c.loop-rows.work)) c.loop-rows.invariant.9 c.loop-rows.invariant.5, c.loop-rows.invariant.8) }

pub overflow_add-i : goal.overflow_add-i
overflow_add-i t c = omega (arith, c.walk_of-walk.ensures.fits.count, c.if-n-j.false)

pub loop-rows-smaller-then-full : goal.loop-rows-smaller-then-full
loop-rows-smaller-then-full t c = omega (arith, c.next_row-j.ensures.lower_bound.0, c.if-n-j.false)

pub loop-rows-preserved-then-full : goal.loop-rows-preserved-then-full
loop-rows-preserved-then-full t c = let answer = c.args.answer.now in let env = c.args.env.now in let memo = c.args.memo.now in let q = c.args.q.now in let values = c.args.values.now in let walks = c.args.walks.now in let work = c.args.work.now in let z = c.args.z.now in let plan = c.args.plan in
    (c.loop-rows.invariant.0, each-full c.loop-rows.inner (code_in work) q z walks values memo env c.byte-variable.result (place_at walks c.walk_of-walk.result) (record { rows = plan.rows; full = plan.full; cells = answer }) c.next_row-j.result (record { rows = c.loop-rows.inner.rows; full = c.loop-rows.inner.full; cells = c.loop-rows.answer }) (each-skip c.loop-rows.inner (code_in work) q z walks values memo env c.byte-variable.result (place_at walks c.walk_of-walk.result) (record { rows = plan.rows; full = plan.full; cells = answer }) c.loop-rows.i c.next_row-j.result (record { rows = c.loop-rows.inner.rows; full = c.loop-rows.inner.full; cells = c.loop-rows.answer }) c.next_row-j.ensures.lower_bound.0 (λ j a b. unmet c.prepare-cursor.result c.loop-rows.inner.depth (code_in work) q z walks values memo env (chains_in plan work) c.byte-variable.result c.size_at-start.result (2 * plan.depth + 2) (c.prepare-cursor.ensures walks c.requires.3) c.size_at-start.ensures.value (omega (arith, ap (λ (p : Plan). p.depth) c.loop-rows.invariant.9)) (tuple_at values ((place_at walks c.walk_of-walk.result) j)) (c.next_row-j.ensures.by_index j a b)) c.loop-rows.invariant.1) c.if-full.true, omega (arith, c.if-n-j.false), c.loop-rows.invariant.3, c.loop-rows.invariant.4, c.loop-rows.invariant.5, c.loop-rows.invariant.6, stopped-before c.prepare-cursor.result values (place_at walks c.walk_of-walk.result) c.next_row-j.result (c.next_row-j.ensures.result_value (omega (arith, c.if-n-j.false))), c.loop-rows.invariant.8, c.loop-rows.invariant.9)

pub place-requires : goal.place-requires
place-requires t c = (c.walk_of-walk.ensures.fits, omega (arith, c.walk_of-walk.ensures.fits.count, c.if-n-j.false))

pub overflow_cast-env-in-loop-rows : goal.overflow_cast-env-in-loop-rows
overflow_cast-env-in-loop-rows t c = omega (arith, c.byte-variable.type_inv)

pub offset_bounds-env-variable-in-loop-rows : goal.offset_bounds-env-variable-in-loop-rows
offset_bounds-env-variable-in-loop-rows t c = omega (arith, c.byte-variable.type_inv)

pub bounds-env-variable-in-loop-rows : goal.bounds-env-variable-in-loop-rows
bounds-env-variable-in-loop-rows t c = omega (arith, c.requires.0, c.byte-variable.type_inv, c.loop-rows.invariant.3)

pub slice_bounds-t-end-in-loop-rows : goal.slice_bounds-t-end-in-loop-rows
slice_bounds-t-end-in-loop-rows t c = let work = c.args.work.now in
    omega (arith, length-take 768 c.loop-rows.work, c.requires.1.branches, c.requires.1.room, c.loop-rows.invariant.6)

pub leads-requires : goal.leads-requires
leads-requires t c = let env = c.args.env.now in let values = c.args.values.now in let walks = c.args.walks.now in let work = c.args.work.now in let plan = c.args.plan in
    (omega (arith, length-set c.loop-rows.env c.byte-variable.result c.place.result, c.requires.0, c.loop-rows.invariant.3), omega (arith, (c.prepare-cursor.ensures walks c.requires.3).low, c.size_at-start.ensures.upper_bound), faithful-same plan work c.loop-rows.work c.requires.1.branches c.loop-rows.invariant.8 walks values c.requires.3)

pub loop-rows-smaller-then-not-leads : goal.loop-rows-smaller-then-not-leads
loop-rows-smaller-then-not-leads t c = omega (arith, c.next_row-j.ensures.lower_bound.0, c.if-n-j.false)

pub loop-rows-preserved-then-not-leads : goal.loop-rows-preserved-then-not-leads
loop-rows-preserved-then-not-leads t c = let answer = c.args.answer.now in let env = c.args.env.now in let memo = c.args.memo.now in let q = c.args.q.now in let values = c.args.values.now in let walks = c.args.walks.now in let work = c.args.work.now in let z = c.args.z.now in let plan = c.args.plan in
    (places-back c.loop-rows.env env _ c.byte-variable.result (get_or env c.byte-variable.result 0) c.place.result c.loop-rows.invariant.0 refl _ c.leads.ensures.env_unchanged, each-row c.loop-rows.inner (code_in work) q z walks values memo env c.byte-variable.result (place_at walks c.walk_of-walk.result) (record { rows = plan.rows; full = plan.full; cells = answer }) c.next_row-j.result c.place.result (record { rows = c.loop-rows.inner.rows; full = c.loop-rows.inner.full; cells = c.loop-rows.answer }) (record { rows = c.loop-rows.inner.rows; full = c.loop-rows.inner.full; cells = c.loop-rows.answer }) _ (each-skip c.loop-rows.inner (code_in work) q z walks values memo env c.byte-variable.result (place_at walks c.walk_of-walk.result) (record { rows = plan.rows; full = plan.full; cells = answer }) c.loop-rows.i c.next_row-j.result (record { rows = c.loop-rows.inner.rows; full = c.loop-rows.inner.full; cells = c.loop-rows.answer }) c.next_row-j.ensures.lower_bound.0 (λ j a b. unmet c.prepare-cursor.result c.loop-rows.inner.depth (code_in work) q z walks values memo env (chains_in plan work) c.byte-variable.result c.size_at-start.result (2 * plan.depth + 2) (c.prepare-cursor.ensures walks c.requires.3) c.size_at-start.ensures.value (omega (arith, ap (λ (p : Plan). p.depth) c.loop-rows.invariant.9)) (tuple_at values ((place_at walks c.walk_of-walk.result) j)) (c.next_row-j.ensures.by_index j a b)) c.loop-rows.invariant.1) c.place.ensures (omega (arith, c.requires.0, c.byte-variable.type_inv)) (places-on c.loop-rows.env env _ c.byte-variable.result (get_or env c.byte-variable.result 0) c.place.result c.loop-rows.invariant.0 refl) (run-no c.loop-rows.inner (code_in work) q z walks values memo (set c.loop-rows.env c.byte-variable.result c.place.result) (record { rows = c.loop-rows.inner.rows; full = c.loop-rows.inner.full; cells = c.loop-rows.answer }) (first-fails (code_in work) q z walks values memo (set c.loop-rows.env c.byte-variable.result c.place.result) c.loop-rows.inner.depth c.prepare-cursor.result.next (onward c.prepare-cursor.result c.loop-rows.inner.depth (code_in work) q z walks values memo env (chains_in plan work) c.byte-variable.result c.size_at-start.result (2 * plan.depth + 2) (c.prepare-cursor.ensures walks c.requires.3) c.size_at-start.ensures.value (omega (arith, ap (λ (p : Plan). p.depth) c.loop-rows.invariant.9)) (set c.loop-rows.env c.byte-variable.result c.place.result) c.place.result ((place_at walks c.walk_of-walk.result) c.next_row-j.result) (omega (arith, c.requires.0, c.byte-variable.type_inv)) (places-on c.loop-rows.env env _ c.byte-variable.result (get_or env c.byte-variable.result 0) c.place.result c.loop-rows.invariant.0 refl) c.place.ensures (c.next_row-j.ensures.result_value (omega (arith, c.if-n-j.false)))) c.leads.result (c.leads.ensures.value ∙ runs_same plan work c.loop-rows.work c.requires.1.branches c.loop-rows.invariant.8 q z walks values memo c.prepare-cursor.result.next (assigned values (set c.loop-rows.env c.byte-variable.result c.place.result))) c.if-not-leads.true-raw)), omega (arith, c.if-n-j.false), places-length c.loop-rows.env env _ c.byte-variable.result (get_or env c.byte-variable.result 0) c.place.result c.loop-rows.invariant.0 refl _ c.leads.ensures.env_unchanged c.loop-rows.invariant.3, c.loop-rows.invariant.4, c.loop-rows.invariant.5, c.loop-rows.invariant.6, stopped-before c.prepare-cursor.result values (place_at walks c.walk_of-walk.result) c.next_row-j.result (c.next_row-j.ensures.result_value (omega (arith, c.if-n-j.false))), c.loop-rows.invariant.8, c.loop-rows.invariant.9)

pub leads-requires-in-loop-rows : goal.leads-requires-in-loop-rows
leads-requires-in-loop-rows t c = let env = c.args.env.now in let values = c.args.values.now in let walks = c.args.walks.now in let work = c.args.work.now in let plan = c.args.plan in
    (omega (arith, ap length c.leads.ensures.env_unchanged, length-set c.loop-rows.env c.byte-variable.result c.place.result, c.requires.0, c.loop-rows.invariant.3), c.size_at-second.ensures.upper_bound, faithful-same plan work c.loop-rows.work c.requires.1.branches c.loop-rows.invariant.8 walks values c.requires.3)

pub loop-rows-smaller-then-not-leads-2 : goal.loop-rows-smaller-then-not-leads-2
loop-rows-smaller-then-not-leads-2 t c = omega (arith, c.next_row-j.ensures.lower_bound.0, c.if-n-j.false)

pub loop-rows-preserved-then-not-leads-2 : goal.loop-rows-preserved-then-not-leads-2
loop-rows-preserved-then-not-leads-2 t c = let answer = c.args.answer.now in let env = c.args.env.now in let memo = c.args.memo.now in let q = c.args.q.now in let values = c.args.values.now in let walks = c.args.walks.now in let work = c.args.work.now in let z = c.args.z.now in let plan = c.args.plan in
    (places-back c.loop-rows.env env _ c.byte-variable.result (get_or env c.byte-variable.result 0) c.place.result c.loop-rows.invariant.0 refl _ (c.leads-in-loop-rows.ensures.env_unchanged ∙ c.leads.ensures.env_unchanged), each-row c.loop-rows.inner (code_in work) q z walks values memo env c.byte-variable.result (place_at walks c.walk_of-walk.result) (record { rows = plan.rows; full = plan.full; cells = answer }) c.next_row-j.result c.place.result (record { rows = c.loop-rows.inner.rows; full = c.loop-rows.inner.full; cells = c.loop-rows.answer }) (record { rows = c.loop-rows.inner.rows; full = c.loop-rows.inner.full; cells = c.loop-rows.answer }) _ (each-skip c.loop-rows.inner (code_in work) q z walks values memo env c.byte-variable.result (place_at walks c.walk_of-walk.result) (record { rows = plan.rows; full = plan.full; cells = answer }) c.loop-rows.i c.next_row-j.result (record { rows = c.loop-rows.inner.rows; full = c.loop-rows.inner.full; cells = c.loop-rows.answer }) c.next_row-j.ensures.lower_bound.0 (λ j a b. unmet c.prepare-cursor.result c.loop-rows.inner.depth (code_in work) q z walks values memo env (chains_in plan work) c.byte-variable.result c.size_at-start.result (2 * plan.depth + 2) (c.prepare-cursor.ensures walks c.requires.3) c.size_at-start.ensures.value (omega (arith, ap (λ (p : Plan). p.depth) c.loop-rows.invariant.9)) (tuple_at values ((place_at walks c.walk_of-walk.result) j)) (c.next_row-j.ensures.by_index j a b)) c.loop-rows.invariant.1) c.place.ensures (omega (arith, c.requires.0, c.byte-variable.type_inv)) (places-on c.loop-rows.env env _ c.byte-variable.result (get_or env c.byte-variable.result 0) c.place.result c.loop-rows.invariant.0 refl) (run-no c.loop-rows.inner (code_in work) q z walks values memo (set c.loop-rows.env c.byte-variable.result c.place.result) (record { rows = c.loop-rows.inner.rows; full = c.loop-rows.inner.full; cells = c.loop-rows.answer }) (second-fails (code_in work) q z walks values memo (set c.loop-rows.env c.byte-variable.result c.place.result) c.loop-rows.inner.depth c.prepare-cursor.result.next (onward c.prepare-cursor.result c.loop-rows.inner.depth (code_in work) q z walks values memo env (chains_in plan work) c.byte-variable.result c.size_at-start.result (2 * plan.depth + 2) (c.prepare-cursor.ensures walks c.requires.3) c.size_at-start.ensures.value (omega (arith, ap (λ (p : Plan). p.depth) c.loop-rows.invariant.9)) (set c.loop-rows.env c.byte-variable.result c.place.result) c.place.result ((place_at walks c.walk_of-walk.result) c.next_row-j.result) (omega (arith, c.requires.0, c.byte-variable.type_inv)) (places-on c.loop-rows.env env _ c.byte-variable.result (get_or env c.byte-variable.result 0) c.place.result c.loop-rows.invariant.0 refl) c.place.ensures (c.next_row-j.ensures.result_value (omega (arith, c.if-n-j.false)))) c.leads.result (c.leads.ensures.value ∙ runs_same plan work c.loop-rows.work c.requires.1.branches c.loop-rows.invariant.8 q z walks values memo c.prepare-cursor.result.next (assigned values (set c.loop-rows.env c.byte-variable.result c.place.result))) c.if-not-leads.false-raw c.size_at-second.result (stage-start (code_in work) q z walks values memo (2 * c.loop-rows.inner.depth + 1) (2 * plan.depth + 3) c.size_at-second.result (assigned values (set c.loop-rows.env c.byte-variable.result c.place.result)) c.size_at-second.ensures.value (omega (arith, ap (λ (p : Plan). p.depth) c.loop-rows.invariant.9))) c.leads-in-loop-rows.result c.leads.new.env c.leads.ensures.env_unchanged (c.leads-in-loop-rows.ensures.value ∙ runs_same plan work c.loop-rows.work c.requires.1.branches c.loop-rows.invariant.8 q z walks values memo c.size_at-second.result (assigned values c.leads.new.env)) c.if-not-leads-2.true-raw)), omega (arith, c.if-n-j.false), places-length c.loop-rows.env env _ c.byte-variable.result (get_or env c.byte-variable.result 0) c.place.result c.loop-rows.invariant.0 refl _ (c.leads-in-loop-rows.ensures.env_unchanged ∙ c.leads.ensures.env_unchanged) c.loop-rows.invariant.3, c.loop-rows.invariant.4, c.loop-rows.invariant.5, c.loop-rows.invariant.6, stopped-before c.prepare-cursor.result values (place_at walks c.walk_of-walk.result) c.next_row-j.result (c.next_row-j.ensures.result_value (omega (arith, c.if-n-j.false))), c.loop-rows.invariant.8, c.loop-rows.invariant.9)

pub write-filled-requires : goal.write-filled-requires
write-filled-requires t c = let env = c.args.env.now in let memo = c.args.memo.now in let q = c.args.q.now in let work = c.args.work.now in let z = c.args.z.now in let plan = c.args.plan in
    (omega (arith, ap length (c.leads-in-loop-rows.ensures.env_unchanged ∙ c.leads.ensures.env_unchanged), length-set c.loop-rows.env c.byte-variable.result c.place.result, c.requires.0, c.loop-rows.invariant.3), bounds-held plan c.loop-rows.inner (length c.loop-rows.work) c.loop-rows.invariant.9 (subst (λ (n : ℕ). Bounds plan n) (sym c.loop-rows.invariant.6) c.requires.1) c.requires.5, c.loop-rows.invariant.5, listed-held plan c.loop-rows.inner (length c.loop-rows.work) c.loop-rows.invariant.9 c.loop-rows.work q z memo (listed_same plan work c.loop-rows.work c.requires.1.branches c.loop-rows.invariant.8 q z memo c.requires.4))

pub loop-rows-smaller-then-left-eq0 : goal.loop-rows-smaller-then-left-eq0
loop-rows-smaller-then-left-eq0 t c = omega (arith, c.next_row-j.ensures.lower_bound.0, c.if-n-j.false)

pub loop-rows-preserved-then-left-eq0 : goal.loop-rows-preserved-then-left-eq0
loop-rows-preserved-then-left-eq0 t c = let answer = c.args.answer.now in let env = c.args.env.now in let memo = c.args.memo.now in let q = c.args.q.now in let values = c.args.values.now in let walks = c.args.walks.now in let work = c.args.work.now in let z = c.args.z.now in let plan = c.args.plan in
    (places-back c.loop-rows.env env _ c.byte-variable.result (get_or env c.byte-variable.result 0) c.place.result c.loop-rows.invariant.0 refl _ (c.write-filled.ensures.env_unchanged ∙ c.leads-in-loop-rows.ensures.env_unchanged ∙ c.leads.ensures.env_unchanged), each-row c.loop-rows.inner (code_in work) q z walks values memo env c.byte-variable.result (place_at walks c.walk_of-walk.result) (record { rows = plan.rows; full = plan.full; cells = answer }) c.next_row-j.result c.place.result (record { rows = c.loop-rows.inner.rows; full = c.loop-rows.inner.full; cells = c.loop-rows.answer }) _ _ (each-skip c.loop-rows.inner (code_in work) q z walks values memo env c.byte-variable.result (place_at walks c.walk_of-walk.result) (record { rows = plan.rows; full = plan.full; cells = answer }) c.loop-rows.i c.next_row-j.result (record { rows = c.loop-rows.inner.rows; full = c.loop-rows.inner.full; cells = c.loop-rows.answer }) c.next_row-j.ensures.lower_bound.0 (λ j a b. unmet c.prepare-cursor.result c.loop-rows.inner.depth (code_in work) q z walks values memo env (chains_in plan work) c.byte-variable.result c.size_at-start.result (2 * plan.depth + 2) (c.prepare-cursor.ensures walks c.requires.3) c.size_at-start.ensures.value (omega (arith, ap (λ (p : Plan). p.depth) c.loop-rows.invariant.9)) (tuple_at values ((place_at walks c.walk_of-walk.result) j)) (c.next_row-j.ensures.by_index j a b)) c.loop-rows.invariant.1) c.place.ensures (omega (arith, c.requires.0, c.byte-variable.type_inv)) (places-on c.loop-rows.env env _ c.byte-variable.result (get_or env c.byte-variable.result 0) c.place.result c.loop-rows.invariant.0 refl) (run_row c.loop-rows.inner (code_in work) q z walks values memo (set c.loop-rows.env c.byte-variable.result c.place.result) (record { rows = c.loop-rows.inner.rows; full = c.loop-rows.inner.full; cells = c.loop-rows.answer }) _ _ (both_hold (code_in work) q z walks values memo (set c.loop-rows.env c.byte-variable.result c.place.result) c.loop-rows.inner.depth c.prepare-cursor.result.next (onward c.prepare-cursor.result c.loop-rows.inner.depth (code_in work) q z walks values memo env (chains_in plan work) c.byte-variable.result c.size_at-start.result (2 * plan.depth + 2) (c.prepare-cursor.ensures walks c.requires.3) c.size_at-start.ensures.value (omega (arith, ap (λ (p : Plan). p.depth) c.loop-rows.invariant.9)) (set c.loop-rows.env c.byte-variable.result c.place.result) c.place.result ((place_at walks c.walk_of-walk.result) c.next_row-j.result) (omega (arith, c.requires.0, c.byte-variable.type_inv)) (places-on c.loop-rows.env env _ c.byte-variable.result (get_or env c.byte-variable.result 0) c.place.result c.loop-rows.invariant.0 refl) c.place.ensures (c.next_row-j.ensures.result_value (omega (arith, c.if-n-j.false)))) c.leads.result (c.leads.ensures.value ∙ runs_same plan work c.loop-rows.work c.requires.1.branches c.loop-rows.invariant.8 q z walks values memo c.prepare-cursor.result.next (assigned values (set c.loop-rows.env c.byte-variable.result c.place.result))) c.if-not-leads.false-raw c.size_at-second.result (stage-start (code_in work) q z walks values memo (2 * c.loop-rows.inner.depth + 1) (2 * plan.depth + 3) c.size_at-second.result (assigned values (set c.loop-rows.env c.byte-variable.result c.place.result)) c.size_at-second.ensures.value (omega (arith, ap (λ (p : Plan). p.depth) c.loop-rows.invariant.9))) c.leads-in-loop-rows.result c.leads.new.env c.leads.ensures.env_unchanged (c.leads-in-loop-rows.ensures.value ∙ runs_same plan work c.loop-rows.work c.requires.1.branches c.loop-rows.invariant.8 q z walks values memo c.size_at-second.result (assigned values c.leads.new.env)) c.if-not-leads-2.false-raw) (ap (λ (p : Plan). p.left) c.loop-rows.invariant.9 ∙ c.if-left-eq0.true) (c.leads-in-loop-rows.ensures.env_unchanged ∙ c.leads.ensures.env_unchanged) c.write-filled.ensures.answer_after), omega (arith, c.if-n-j.false), places-length c.loop-rows.env env _ c.byte-variable.result (get_or env c.byte-variable.result 0) c.place.result c.loop-rows.invariant.0 refl _ (c.write-filled.ensures.env_unchanged ∙ c.leads-in-loop-rows.ensures.env_unchanged ∙ c.leads.ensures.env_unchanged) c.loop-rows.invariant.3, c.write-filled.auto.answer ∙ c.loop-rows.invariant.4, c.write-filled.ensures.linked.0, c.write-filled.auto.work ∙ c.loop-rows.invariant.6, stopped-before c.prepare-cursor.result values (place_at walks c.walk_of-walk.result) c.next_row-j.result (c.next_row-j.ensures.result_value (omega (arith, c.if-n-j.false))), subst (λ (p : Plan). front_of p c.write-filled.new.work ≡ front_of p c.loop-rows.work) c.loop-rows.invariant.9 c.write-filled.ensures.linked.1 ∙ c.loop-rows.invariant.8, ap (λ (p : Plan). held p c.write-filled.result.rows c.write-filled.result.full) c.loop-rows.invariant.9)

pub each_row-filled-requires : goal.each_row-filled-requires
each_row-filled-requires t c = let env = c.args.env.now in let memo = c.args.memo.now in let q = c.args.q.now in let values = c.args.values.now in let walks = c.args.walks.now in let work = c.args.work.now in let z = c.args.z.now in let plan = c.args.plan in
    (omega (arith, c.decreases, ap (λ (p : Plan). p.left) c.loop-rows.invariant.9, c.requires.5), (omega (arith, ap length (c.leads-in-loop-rows.ensures.env_unchanged ∙ c.leads.ensures.env_unchanged), length-set c.loop-rows.env c.byte-variable.result c.place.result, c.requires.0, c.loop-rows.invariant.3), bounds-held plan c.loop-rows.inner (length c.loop-rows.work) c.loop-rows.invariant.9 (subst (λ (n : ℕ). Bounds plan n) (sym c.loop-rows.invariant.6) c.requires.1) c.requires.5, c.loop-rows.invariant.5, subst (λ (p : Plan). Faithful (code_in c.loop-rows.work) walks values (chains_in p c.loop-rows.work)) (sym c.loop-rows.invariant.9) (faithful-same plan work c.loop-rows.work c.requires.1.branches c.loop-rows.invariant.8 walks values c.requires.3), listed-held plan c.loop-rows.inner (length c.loop-rows.work) c.loop-rows.invariant.9 c.loop-rows.work q z memo (listed_same plan work c.loop-rows.work c.requires.1.branches c.loop-rows.invariant.8 q z memo c.requires.4), omega (arith, c.if-left-eq0.false, ap (λ (p : Plan). p.left) c.loop-rows.invariant.9)))

pub loop-rows-smaller : goal.loop-rows-smaller
loop-rows-smaller t c = omega (arith, c.next_row-j.ensures.lower_bound.0, c.if-n-j.false)

pub loop-rows-preserved : goal.loop-rows-preserved
loop-rows-preserved t c = let answer = c.args.answer.now in let env = c.args.env.now in let memo = c.args.memo.now in let q = c.args.q.now in let values = c.args.values.now in let walks = c.args.walks.now in let work = c.args.work.now in let z = c.args.z.now in let plan = c.args.plan in
    (places-back c.loop-rows.env env _ c.byte-variable.result (get_or env c.byte-variable.result 0) c.place.result c.loop-rows.invariant.0 refl _ (c.each_row-filled.ensures.env_unchanged ∙ c.leads-in-loop-rows.ensures.env_unchanged ∙ c.leads.ensures.env_unchanged), each-row c.loop-rows.inner (code_in work) q z walks values memo env c.byte-variable.result (place_at walks c.walk_of-walk.result) (record { rows = plan.rows; full = plan.full; cells = answer }) c.next_row-j.result c.place.result (record { rows = c.loop-rows.inner.rows; full = c.loop-rows.inner.full; cells = c.loop-rows.answer }) _ _ (each-skip c.loop-rows.inner (code_in work) q z walks values memo env c.byte-variable.result (place_at walks c.walk_of-walk.result) (record { rows = plan.rows; full = plan.full; cells = answer }) c.loop-rows.i c.next_row-j.result (record { rows = c.loop-rows.inner.rows; full = c.loop-rows.inner.full; cells = c.loop-rows.answer }) c.next_row-j.ensures.lower_bound.0 (λ j a b. unmet c.prepare-cursor.result c.loop-rows.inner.depth (code_in work) q z walks values memo env (chains_in plan work) c.byte-variable.result c.size_at-start.result (2 * plan.depth + 2) (c.prepare-cursor.ensures walks c.requires.3) c.size_at-start.ensures.value (omega (arith, ap (λ (p : Plan). p.depth) c.loop-rows.invariant.9)) (tuple_at values ((place_at walks c.walk_of-walk.result) j)) (c.next_row-j.ensures.by_index j a b)) c.loop-rows.invariant.1) c.place.ensures (omega (arith, c.requires.0, c.byte-variable.type_inv)) (places-on c.loop-rows.env env _ c.byte-variable.result (get_or env c.byte-variable.result 0) c.place.result c.loop-rows.invariant.0 refl) (run-rows c.loop-rows.inner (code_in work) q z walks values memo (set c.loop-rows.env c.byte-variable.result c.place.result) (record { rows = c.loop-rows.inner.rows; full = c.loop-rows.inner.full; cells = c.loop-rows.answer }) _ _ (both_hold (code_in work) q z walks values memo (set c.loop-rows.env c.byte-variable.result c.place.result) c.loop-rows.inner.depth c.prepare-cursor.result.next (onward c.prepare-cursor.result c.loop-rows.inner.depth (code_in work) q z walks values memo env (chains_in plan work) c.byte-variable.result c.size_at-start.result (2 * plan.depth + 2) (c.prepare-cursor.ensures walks c.requires.3) c.size_at-start.ensures.value (omega (arith, ap (λ (p : Plan). p.depth) c.loop-rows.invariant.9)) (set c.loop-rows.env c.byte-variable.result c.place.result) c.place.result ((place_at walks c.walk_of-walk.result) c.next_row-j.result) (omega (arith, c.requires.0, c.byte-variable.type_inv)) (places-on c.loop-rows.env env _ c.byte-variable.result (get_or env c.byte-variable.result 0) c.place.result c.loop-rows.invariant.0 refl) c.place.ensures (c.next_row-j.ensures.result_value (omega (arith, c.if-n-j.false)))) c.leads.result (c.leads.ensures.value ∙ runs_same plan work c.loop-rows.work c.requires.1.branches c.loop-rows.invariant.8 q z walks values memo c.prepare-cursor.result.next (assigned values (set c.loop-rows.env c.byte-variable.result c.place.result))) c.if-not-leads.false-raw c.size_at-second.result (stage-start (code_in work) q z walks values memo (2 * c.loop-rows.inner.depth + 1) (2 * plan.depth + 3) c.size_at-second.result (assigned values (set c.loop-rows.env c.byte-variable.result c.place.result)) c.size_at-second.ensures.value (omega (arith, ap (λ (p : Plan). p.depth) c.loop-rows.invariant.9))) c.leads-in-loop-rows.result c.leads.new.env c.leads.ensures.env_unchanged (c.leads-in-loop-rows.ensures.value ∙ runs_same plan work c.loop-rows.work c.requires.1.branches c.loop-rows.invariant.8 q z walks values memo c.size_at-second.result (assigned values c.leads.new.env)) c.if-not-leads-2.false-raw) (λ h. c.if-left-eq0.false (sym (ap (λ (p : Plan). p.left) c.loop-rows.invariant.9) ∙ h)) (c.leads-in-loop-rows.ensures.env_unchanged ∙ c.leads.ensures.env_unchanged) (c.each_row-filled.ensures.answer_after ∙ ap (λ (l : List ℕ). added_all (record { rows = c.loop-rows.inner.rows; full = c.loop-rows.inner.full; cells = c.loop-rows.answer }) (rows_below c.loop-rows.inner l q z walks values memo (assigned values c.leads-in-loop-rows.new.env))) (code_same plan work c.loop-rows.work c.requires.1.branches c.loop-rows.invariant.8))), omega (arith, c.if-n-j.false), places-length c.loop-rows.env env _ c.byte-variable.result (get_or env c.byte-variable.result 0) c.place.result c.loop-rows.invariant.0 refl _ (c.each_row-filled.ensures.env_unchanged ∙ c.leads-in-loop-rows.ensures.env_unchanged ∙ c.leads.ensures.env_unchanged) c.loop-rows.invariant.3, c.each_row-filled.auto.answer ∙ c.loop-rows.invariant.4, c.each_row-filled.ensures.linked.0, c.each_row-filled.auto.work ∙ c.loop-rows.invariant.6, stopped-before c.prepare-cursor.result values (place_at walks c.walk_of-walk.result) c.next_row-j.result (c.next_row-j.ensures.result_value (omega (arith, c.if-n-j.false))), subst (λ (p : Plan). front_of p c.each_row-filled.new.work ≡ front_of p c.loop-rows.work) c.loop-rows.invariant.9 c.each_row-filled.ensures.linked.1 ∙ c.loop-rows.invariant.8, ap (λ (p : Plan). held p c.each_row-filled.result.rows c.each_row-filled.result.full) c.loop-rows.invariant.9)
