use native.Mathlib.Omega.{arith}
use Prim.Native.Nat.{ℕ, ◌+◌, ◌-◌, ◌*◌}
use mathlib.Core.List.{List}
use mathlib.Core.Path.{refl, sym, ap, ◌∙◌, subst}
use lib.ListN.{length, length-take}
use borrow.Rule.Slice.PartMut.{same_len_mid}
use Rattle.rows.specs.Buffer.{added_all, start}
use Rattle.rows.specs.Chains.{Linked}
use Rattle.walks.specs.Assigned.{assigned}
use Rattle.odometer.specs.Plan.{code_in, Listed, rows_below}
use Rattle.odometer.proofs.Listing.{marked, targets-listed, rows-marked}
use Rattle.odometer.proofs.Parts.{sixteen-long, code-still, faithful-still, list-is, table-still}
use Rattle.odometer.proofs.Steps.{stage-start, first-fails, second-fails, both_hold, run-no, run_row, run-rows}
use Rattle.odometer.proofs.run.Goals as goal

pub slice_bounds-t-end : goal.slice_bounds-t-end
slice_bounds-t-end c = let work = c.args.work.now in
    omega (arith, length-take 768 work, c.requires.1.branches, c.requires.1.room)

pub returns-then-not-leads : goal.returns-then-not-leads
returns-then-not-leads c = let answer = c.args.answer.now in let env = c.args.env.now in let memo = c.args.memo.now in let q = c.args.q.now in let values = c.args.values.now in let walks = c.args.walks.now in let work = c.args.work.now in let z = c.args.z.now in let plan = c.args.plan in
    run-no plan (code_in work) q z walks values memo env (start answer) (first-fails (code_in work) q z walks values memo env plan.depth c.size_at-first.result (stage-start (code_in work) q z walks values memo (2 * plan.depth) (2 * plan.depth) c.size_at-first.result (assigned values env) c.size_at-first.ensures.value refl) c.leads.result c.leads.ensures.value c.if-not-leads.true-raw)

pub returns-then-not-leads-2 : goal.returns-then-not-leads-2
returns-then-not-leads-2 c = let answer = c.args.answer.now in let env = c.args.env.now in let memo = c.args.memo.now in let q = c.args.q.now in let values = c.args.values.now in let walks = c.args.walks.now in let work = c.args.work.now in let z = c.args.z.now in let plan = c.args.plan in
    run-no plan (code_in work) q z walks values memo env (start answer) (second-fails (code_in work) q z walks values memo env plan.depth c.size_at-first.result (stage-start (code_in work) q z walks values memo (2 * plan.depth) (2 * plan.depth) c.size_at-first.result (assigned values env) c.size_at-first.ensures.value refl) c.leads.result c.leads.ensures.value c.if-not-leads.false-raw c.size_at-second.result (stage-start (code_in work) q z walks values memo (2 * plan.depth + 1) (2 * plan.depth + 1) c.size_at-second.result (assigned values env) c.size_at-second.ensures.value refl) c.leads-2.result c.leads.new.env c.leads.ensures.env_unchanged c.leads-2.ensures.value c.if-not-leads-2.true-raw)

pub only-requires : goal.only-requires
only-requires c = (omega (arith, c.requires.0, ap length (c.leads-2.ensures.env_unchanged ∙ c.leads.ensures.env_unchanged)), c.requires.1.columns)

pub returns-then-left-eq0 : goal.returns-then-left-eq0
returns-then-left-eq0 c = let answer = c.args.answer.now in let env = c.args.env.now in let memo = c.args.memo.now in let q = c.args.q.now in let values = c.args.values.now in let walks = c.args.walks.now in let work = c.args.work.now in let z = c.args.z.now in let plan = c.args.plan in
    run_row plan (code_in work) q z walks values memo env (start answer) _ _ (both_hold (code_in work) q z walks values memo env plan.depth c.size_at-first.result (stage-start (code_in work) q z walks values memo (2 * plan.depth) (2 * plan.depth) c.size_at-first.result (assigned values env) c.size_at-first.ensures.value refl) c.leads.result c.leads.ensures.value c.if-not-leads.false-raw c.size_at-second.result (stage-start (code_in work) q z walks values memo (2 * plan.depth + 1) (2 * plan.depth + 1) c.size_at-second.result (assigned values env) c.size_at-second.ensures.value refl) c.leads-2.result c.leads.new.env c.leads.ensures.env_unchanged c.leads-2.ensures.value c.if-not-leads-2.false-raw) c.if-left-eq0.true (c.leads-2.ensures.env_unchanged ∙ c.leads.ensures.env_unchanged) c.only.ensures.answer_after

pub overflow_add-behind : goal.overflow_add-behind
overflow_add-behind c = omega (arith, c.requires.1.room, c.well_formed.1.1.0)

pub offset_bounds-work-front : goal.offset_bounds-work-front
offset_bounds-work-front c = omega (arith, c.requires.1.room, c.well_formed.1.1.0)

pub slice_bounds-list_targets-end : goal.slice_bounds-list_targets-end
slice_bounds-list_targets-end c = omega (arith, c.requires.1.room)

pub list_targets-listed-requires : goal.list_targets-listed-requires
list_targets-listed-requires c = let work = c.args.work.now in let plan = c.args.plan in
    (omega (arith, c.requires.1.columns, sixteen-long plan.front work c.requires.1.room), omega (arith, c.requires.1.columns))

pub each_row-requires : goal.each_row-requires
each_row-requires c = let answer = c.args.answer.now in let memo = c.args.memo.now in let q = c.args.q.now in let values = c.args.values.now in let walks = c.args.walks.now in let work = c.args.work.now in let z = c.args.z.now in let plan = c.args.plan in
    (omega (arith, c.requires.0, ap length (c.leads-2.ensures.env_unchanged ∙ c.leads.ensures.env_unchanged)), record { columns = c.requires.1.columns; ranges = c.requires.1.ranges; branches = c.requires.1.branches; room = omega (arith, c.requires.1.room, same_len_mid plan.front (plan.front + 16 - plan.front) work c.list_targets-listed.new.list c.list_targets-listed.auto.list) }, subst (λ (l : List ℕ). Linked plan.columns 0 answer l) (sym (table-still plan work c.list_targets-listed.new.list c.requires.1.branches c.requires.1.room (plan.front + 16 - plan.front) (omega arith) (c.list_targets-listed.auto.list ∙ sixteen-long plan.front work c.requires.1.room))) c.requires.2, faithful-still plan work c.list_targets-listed.new.list c.requires.1.branches c.requires.1.room (plan.front + 16 - plan.front) (omega arith) (c.list_targets-listed.auto.list ∙ sixteen-long plan.front work c.requires.1.room) walks values c.requires.3, subst (λ (l : List ℕ). Listed l (marked plan c.list_targets-listed.result) q z memo) (sym (list-is plan work c.list_targets-listed.new.list c.requires.1.branches c.requires.1.room (plan.front + 16 - plan.front) (omega arith) (c.list_targets-listed.auto.list ∙ sixteen-long plan.front work c.requires.1.room))) (targets-listed plan c.list_targets-listed.result q z _ _ c.list_targets-listed.new.list memo c.tail-x.ensures c.tail_sizes-y.ensures c.list_targets-listed.ensures.e_value), omega (arith, c.if-left-eq0.false))

pub returns : goal.returns
returns c = let answer = c.args.answer.now in let env = c.args.env.now in let memo = c.args.memo.now in let q = c.args.q.now in let values = c.args.values.now in let walks = c.args.walks.now in let work = c.args.work.now in let z = c.args.z.now in let plan = c.args.plan in
    run-rows plan (code_in work) q z walks values memo env (start answer) _ _ (both_hold (code_in work) q z walks values memo env plan.depth c.size_at-first.result (stage-start (code_in work) q z walks values memo (2 * plan.depth) (2 * plan.depth) c.size_at-first.result (assigned values env) c.size_at-first.ensures.value refl) c.leads.result c.leads.ensures.value c.if-not-leads.false-raw c.size_at-second.result (stage-start (code_in work) q z walks values memo (2 * plan.depth + 1) (2 * plan.depth + 1) c.size_at-second.result (assigned values env) c.size_at-second.ensures.value refl) c.leads-2.result c.leads.new.env c.leads.ensures.env_unchanged c.leads-2.ensures.value c.if-not-leads-2.false-raw) c.if-left-eq0.false (c.leads-2.ensures.env_unchanged ∙ c.leads.ensures.env_unchanged) (c.each_row.ensures.answer_after ∙ ap (added_all (start answer)) (rows-marked plan c.list_targets-listed.result _ q z walks values memo (assigned values c.leads-2.new.env) ∙ ap (λ (l : List ℕ). rows_below plan l q z walks values memo (assigned values c.leads-2.new.env)) (code-still plan work c.list_targets-listed.new.list c.requires.1.branches c.requires.1.room (plan.front + 16 - plan.front) (omega arith) (c.list_targets-listed.auto.list ∙ sixteen-long plan.front work c.requires.1.room))))
