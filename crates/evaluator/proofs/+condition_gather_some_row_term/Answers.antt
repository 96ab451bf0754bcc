use lib.IntN.{pos}
use borrow.Author.Rules.{rules}
use native.Mathlib.Omega.{arith}
use Prim.Native.Nat.{ℕ, ◌+◌, ◌-◌}
use Rattle.model.specs.Meaning.{aggregate}
use mathlib.Core.Path.{refl, sym, ap, ◌∙◌, subst}
use mir.Syntax.{w32}
use mir.Facts.{to_z-of_z}
use lib.ListN.{length, get_or}
use Rattle.model.proofs.Search.{none-start, none-next}
use Rattle.numbers.specs.declared.Accumulator.{Accumulator}
use Rattle.numbers.specs.Numbers.{Accumulates}
use Rattle.catalogue.specs.Layout.{tuple_at}
use Rattle.walks.specs.Walks.{place_at, kept}
use Rattle.walks.proofs.Loops.{walked-hit, walked_none}
use Rattle.evaluator.specs.Evaluation.{holds_on, values_on}
use Rattle.evaluator.proofs.Steps.{holds-zero, value-zero, true-is, false-is, not_is, and_no, and_yes, or_yes, or_no, compare-is, some_is, aggregate-is, known_is, constant-is, attribute-is, no-condition, no-term, places-start, places-back, places-length, on_row, taken-all, taken_start, taken-few, taken-hit, taken-miss}
use Rattle.numbers.proofs.Laws.{nothing-taken}
use Rattle.numbers.proofs.Laws.{ends}
use Prim.Native.Nat.{ℕ}
use Rattle.evaluator.proofs.+condition_gather_some_row_term.Goals as goal
use Rattle.evaluator.proofs.+condition_gather_some_row_term.Goals.{gather-then-condition, gather-else-condition}

pub condition-returns-then-level-eq0 : goal.condition-returns-then-level-eq0
condition-returns-then-level-eq0 t c = record { value = holds-zero c.args.walks.now c.args.values.now c.args.memo.now c.args.env.now c.args.q.now c.args.z.now c.args.level c.if-level-eq0.true; env_unchanged = search rules }

pub condition-returns-then-not-condition : goal.condition-returns-then-not-condition
condition-returns-then-not-condition t c = record { value = and_no c.args.walks.now c.args.values.now c.args.memo.now c.args.env.now c.args.q.now c.args.z.now c.args.level _ _ _ c.if-level-eq0.false c.byte.ensures c.record_length-a.ensures.value c.condition_record.ensures _ _ c.tail-x.ensures c.tail_sizes-y.ensures _ c.in-And.is c.condition-in-And.ensures.value c.if-not-condition.true-raw; env_unchanged = c.condition-in-And.ensures.env_unchanged }

pub condition-returns-then-condition : goal.condition-returns-then-condition
condition-returns-then-condition t c = record { value = or_yes c.args.walks.now c.args.values.now c.args.memo.now c.args.env.now c.args.q.now c.args.z.now c.args.level _ _ _ c.if-level-eq0.false c.byte.ensures c.record_length-a.ensures.value c.condition_record.ensures _ _ c.tail-x.ensures c.tail_sizes-y.ensures _ c.in-Or.is c.condition-in-Or.ensures.value c.if-condition.true; env_unchanged = c.condition-in-Or.ensures.env_unchanged }

pub condition-term-right-requires : goal.condition-term-right-requires
condition-term-right-requires t c = (omega (arith, c.decreases, c.if-level-eq0.false), omega (arith, c.requires, ap length c.term-left.ensures.env_unchanged))

pub condition-returns-in-True : goal.condition-returns-in-True
condition-returns-in-True t c = record { value = true-is c.args.walks.now c.args.values.now c.args.memo.now c.args.env.now c.args.q.now c.args.z.now c.args.level _ _ _ c.if-level-eq0.false c.byte.ensures c.record_length-a.ensures.value c.condition_record.ensures c.in-True.is; env_unchanged = search rules }

pub condition-returns-in-Not : goal.condition-returns-in-Not
condition-returns-in-Not t c = record { value = not_is c.args.walks.now c.args.values.now c.args.memo.now c.args.env.now c.args.q.now c.args.z.now c.args.level _ _ _ c.if-level-eq0.false c.byte.ensures c.record_length-a.ensures.value c.condition_record.ensures _ _ c.tail-x.ensures c.tail_sizes-y.ensures _ c.in-Not.is c.condition.ensures.value; env_unchanged = c.condition.ensures.env_unchanged }

pub condition-returns-else-not-condition : goal.condition-returns-else-not-condition
condition-returns-else-not-condition t c = record { value = and_yes c.args.walks.now c.args.values.now c.args.memo.now c.args.env.now c.args.q.now c.args.z.now c.args.level _ _ _ c.if-level-eq0.false c.byte.ensures c.record_length-a.ensures.value c.condition_record.ensures _ _ c.tail-x.ensures c.tail_sizes-y.ensures _ _ _ _ c.size_at.ensures.value refl c.tail-u.ensures c.tail_sizes-v.ensures _ _ _ c.in-And.is c.condition-in-And.ensures.value c.if-not-condition.false-raw c.condition-in-And.ensures.env_unchanged c.condition-in-And-2.ensures.value; env_unchanged = c.condition-in-And-2.ensures.env_unchanged ∙ c.condition-in-And.ensures.env_unchanged }

pub condition-returns-else-condition : goal.condition-returns-else-condition
condition-returns-else-condition t c = record { value = or_no c.args.walks.now c.args.values.now c.args.memo.now c.args.env.now c.args.q.now c.args.z.now c.args.level _ _ _ c.if-level-eq0.false c.byte.ensures c.record_length-a.ensures.value c.condition_record.ensures _ _ c.tail-x.ensures c.tail_sizes-y.ensures _ _ _ _ c.size_at-in-Or.ensures.value refl c.tail-u-in-Or.ensures c.tail_sizes-v-in-Or.ensures _ _ _ c.in-Or.is c.condition-in-Or.ensures.value c.if-condition.false c.condition-in-Or.ensures.env_unchanged c.condition-in-Or-2.ensures.value; env_unchanged = c.condition-in-Or-2.ensures.env_unchanged ∙ c.condition-in-Or.ensures.env_unchanged }

pub condition-returns-in-Compare : goal.condition-returns-in-Compare
condition-returns-in-Compare t c = record { value = compare-is c.args.walks.now c.args.values.now c.args.memo.now c.args.env.now c.args.q.now c.args.z.now c.args.level _ _ _ c.if-level-eq0.false c.byte.ensures c.record_length-a.ensures.value c.condition_record.ensures _ _ c.tail-x.ensures c.tail_sizes-y.ensures _ _ _ _ c.size_at-in-Compare.ensures.value refl c.tail-u-in-Compare.ensures c.tail_sizes-v-in-Compare.ensures _ _ _ _ _ c.in-Compare.is c.term-left.ensures.result_value c.term-left.ensures.env_unchanged c.term-right.ensures.result_value (rw c.from.ensures at c.compared.ensures); env_unchanged = c.term-right.ensures.env_unchanged ∙ c.term-left.ensures.env_unchanged }

pub condition-returns-in-Some : goal.condition-returns-in-Some
condition-returns-in-Some t c = record { value = some_is c.args.walks.now c.args.values.now c.args.memo.now c.args.env.now c.args.q.now c.args.z.now c.args.level _ _ _ c.if-level-eq0.false c.byte.ensures c.record_length-a.ensures.value c.condition_record.ensures _ _ c.tail-x.ensures c.tail_sizes-y.ensures _ _ _ _ c.in-Some.is c.some_row.ensures.tried_value; env_unchanged = c.some_row.ensures.env_unchanged }

pub condition-returns-in-False : goal.condition-returns-in-False
condition-returns-in-False t c = record { value = false-is c.args.walks.now c.args.values.now c.args.memo.now c.args.env.now c.args.q.now c.args.z.now c.args.level _ _ _ c.if-level-eq0.false c.byte.ensures c.record_length-a.ensures.value c.condition_record.ensures c.in-False.is; env_unchanged = search rules }

pub condition-returns-in-Other : goal.condition-returns-in-Other
condition-returns-in-Other t c = record { value = no-condition c.args.walks.now c.args.values.now c.args.memo.now c.args.env.now c.args.q.now c.args.z.now c.args.level _ _ _ c.if-level-eq0.false c.byte.ensures c.record_length-a.ensures.value c.condition_record.ensures c.in-Other.is; env_unchanged = search rules }

pub gather-loop-i-init : goal.gather-loop-i-init
gather-loop-i-init t c = let env = c.args.env.now in let vs = c.args.values.now in let walks = c.args.walks.now in let variable = c.args.column.variable in
    (places-start env variable c.place-old.result c.place-old.ensures, taken_start (place_at walks c.walk_of-walk.result) vs (holds_on c.args.column.level c.args.q.now c.args.z.now walks vs c.args.memo.now env variable) c.args.column.attribute _ nothing-taken, omega arith, refl)

pub gather-place-row-requires : goal.gather-place-row-requires
gather-place-row-requires t c = (c.walk_of-walk.ensures.fits, omega (arith, c.walk_of-walk.ensures.fits.count, c.loop-i-test.true))

pub gather-add-taken-requires : goal.gather-add-taken-requires
gather-add-taken-requires t c = let vs = c.args.values.now in let walks = c.args.walks.now in
    (c.loop-i.invariant.1.bounded, omega (arith, taken-few (place_at walks c.walk_of-walk.result) vs (holds_on c.args.column.level c.args.q.now c.args.z.now walks vs c.args.memo.now c.args.env.now c.args.column.variable) c.args.column.attribute c.loop-i.i c.loop-i.taken c.loop-i.invariant.1 c.loop-i.i (omega arith), c.loop-i-test.true, c.walk_of-walk.ensures.fits.count))

pub gather-loop-i-preserved : goal.gather-loop-i-preserved
gather-loop-i-preserved t c = let good = c.well_formed in let pre = c.requires in let env = c.args.env.now in let memo = c.args.memo.now in let q = c.args.q.now in let vs = c.args.values.now in let walks = c.args.walks.now in let z = c.args.z.now in let attribute = c.args.column.attribute in let level = c.args.column.level in let variable = c.args.column.variable in
    (places-back c.loop-i.env env _ variable c.place-old.result c.place-row.result c.loop-i.invariant.0 c.set_place.ensures _ c.condition.ensures.env_unchanged, elim c.if-condition.branch [ gather-then-condition w ↦ subst (λ (u : Accumulator). Accumulates u (kept vs (holds_on level q z walks vs memo env variable) attribute (place_at walks c.walk_of-walk.result) (c.loop-i.i + 1))) (sym w.taken-is) (taken-hit (place_at walks c.walk_of-walk.result) vs (holds_on level q z walks vs memo env variable) attribute c.loop-i.i c.loop-i.taken c.loop-i.invariant.1 _ _ ((ap (λ (p : ℕ). (holds_on level q z walks vs memo env variable) (tuple_at vs p)) (sym c.place-row.ensures) ∙ on_row c.loop-i.env env _ variable c.place-old.result c.place-row.result c.loop-i.invariant.0 c.set_place.ensures level q z walks vs memo _ (omega (arith, pre, good)) c.condition.ensures.value) ∙ w.if-condition.true) (to_z-of_z {w = w32} (record { sfits = w.value.type_inv }) ∙ w.value.ensures ∙ ap (λ (k : ℕ). get_or vs (k + attribute) (pos 0)) c.place-row.ensures) w.add-taken.ensures.value w.add-taken.ensures.bounded) | gather-else-condition w ↦ taken-miss (place_at walks c.walk_of-walk.result) vs (holds_on level q z walks vs memo env variable) attribute c.loop-i.i c.loop-i.taken c.loop-i.invariant.1 _ ((ap (λ (p : ℕ). (holds_on level q z walks vs memo env variable) (tuple_at vs p)) (sym c.place-row.ensures) ∙ on_row c.loop-i.env env _ variable c.place-old.result c.place-row.result c.loop-i.invariant.0 c.set_place.ensures level q z walks vs memo _ (omega (arith, pre, good)) c.condition.ensures.value) ∙ w.if-condition.false) w.taken-is ], omega (arith, c.loop-i-test.true), places-length c.loop-i.env env _ variable c.place-old.result c.place-row.result c.loop-i.invariant.0 c.set_place.ensures _ c.condition.ensures.env_unchanged c.loop-i.invariant.3)

pub gather-returns : goal.gather-returns
gather-returns t c = let env = c.args.env.now in let memo = c.args.memo.now in let q = c.args.q.now in let vs = c.args.values.now in let walks = c.args.walks.now in let z = c.args.z.now in let attribute = c.args.column.attribute in let level = c.args.column.level in let variable = c.args.column.variable in record { accumulates = subst (Accumulates c.loop-i.taken) (taken-all level q z walks vs memo env variable attribute c.loop-i.i c.walk_of-walk.result c.walk_of-walk.ensures.value (omega (arith, c.loop-i-test.false, c.loop-i.invariant.2))) c.loop-i.invariant.1; count_bound = omega (arith, taken-few (place_at walks c.walk_of-walk.result) vs (holds_on level q z walks vs memo env variable) attribute c.loop-i.i c.loop-i.taken c.loop-i.invariant.1 c.loop-i.i (omega arith), c.loop-i.invariant.2, c.walk_of-walk.ensures.fits.count); env_unchanged = c.set_place-2.ensures ∙ c.loop-i.invariant.0 }

pub some_row-loop-i-init : goal.some_row-loop-i-init
some_row-loop-i-init t c = let env = c.args.env.now in let vs = c.args.values.now in let walks = c.args.walks.now in let variable = c.args.asked.variable in
    (places-start env variable c.place-old.result c.place-old.ensures, none-start (λ j. holds_on c.args.asked.level c.args.q.now c.args.z.now walks vs c.args.memo.now env variable (tuple_at vs (place_at walks c.walk_of-walk.result j))), omega arith, refl)

pub some_row-place-requires : goal.some_row-place-requires
some_row-place-requires t c = (c.walk_of-walk.ensures.fits, omega (arith, c.walk_of-walk.ensures.fits.count, c.loop-i-test.true))

pub some_row-returns-then-condition : goal.some_row-returns-then-condition
some_row-returns-then-condition t c = let good = c.well_formed in let pre = c.requires in let env = c.args.env.now in let memo = c.args.memo.now in let q = c.args.q.now in let vs = c.args.values.now in let walks = c.args.walks.now in let z = c.args.z.now in let level = c.args.asked.level in let variable = c.args.asked.variable in record { tried_value = sym (walked-hit (holds_on level q z walks vs memo env variable) walks vs variable c.walk_of-walk.result c.walk_of-walk.ensures.value c.loop-i.i c.loop-i-test.true c.loop-i.invariant.1 ((ap (λ (p : ℕ). (holds_on level q z walks vs memo env variable) (tuple_at vs p)) (sym c.place.ensures) ∙ on_row c.loop-i.env env _ variable c.place-old.result c.place.result c.loop-i.invariant.0 c.set_place.ensures level q z walks vs memo _ (omega (arith, pre, good)) c.condition.ensures.value) ∙ c.if-condition.true)); env_unchanged = c.set_place-then-condition.ensures ∙ places-back c.loop-i.env env _ variable c.place-old.result c.place.result c.loop-i.invariant.0 c.set_place.ensures _ c.condition.ensures.env_unchanged }

pub some_row-loop-i-preserved : goal.some_row-loop-i-preserved
some_row-loop-i-preserved t c = let good = c.well_formed in let pre = c.requires in let env = c.args.env.now in let memo = c.args.memo.now in let q = c.args.q.now in let vs = c.args.values.now in let walks = c.args.walks.now in let z = c.args.z.now in let level = c.args.asked.level in let variable = c.args.asked.variable in
    (places-back c.loop-i.env env _ variable c.place-old.result c.place.result c.loop-i.invariant.0 c.set_place.ensures _ c.condition.ensures.env_unchanged, none-next (λ j. holds_on level q z walks vs memo env variable (tuple_at vs (place_at walks c.walk_of-walk.result j))) c.loop-i.i c.loop-i.invariant.1 ((ap (λ (p : ℕ). (holds_on level q z walks vs memo env variable) (tuple_at vs p)) (sym c.place.ensures) ∙ on_row c.loop-i.env env _ variable c.place-old.result c.place.result c.loop-i.invariant.0 c.set_place.ensures level q z walks vs memo _ (omega (arith, pre, good)) c.condition.ensures.value) ∙ c.if-condition.false), omega (arith, c.loop-i-test.true), places-length c.loop-i.env env _ variable c.place-old.result c.place.result c.loop-i.invariant.0 c.set_place.ensures _ c.condition.ensures.env_unchanged c.loop-i.invariant.3)

pub some_row-returns : goal.some_row-returns
some_row-returns t c = let vs = c.args.values.now in let walks = c.args.walks.now in let variable = c.args.asked.variable in record { tried_value = sym (walked_none (holds_on c.args.asked.level c.args.q.now c.args.z.now walks vs c.args.memo.now c.args.env.now variable) walks vs variable c.walk_of-walk.result c.walk_of-walk.ensures.value (λ j k. c.loop-i.invariant.1 j (omega (arith, c.loop-i-test.false)))); env_unchanged = c.set_place-2.ensures ∙ c.loop-i.invariant.0 }

pub term-returns-then-level-eq0 : goal.term-returns-then-level-eq0
term-returns-then-level-eq0 t c = record { result_value = c.whole.ensures.result_value ∙ (value-zero c.args.walks.now c.args.values.now c.args.memo.now c.args.env.now c.args.q.now c.args.z.now c.args.level c.if-level-eq0.true); small = c.whole.ensures.small; env_unchanged = search rules }

pub term-recall-requires : goal.term-recall-requires
term-recall-requires t c = sym c.knows.ensures ∙ c.if-knows.true

pub term-returns-then-knows : goal.term-returns-then-knows
term-returns-then-knows t c = record { result_value = c.recall.ensures.result_value ∙ (known_is c.args.walks.now c.args.values.now c.args.memo.now c.args.env.now c.args.q.now c.args.z.now c.args.level _ _ _ c.if-level-eq0.false c.byte.ensures c.record_length-at.ensures.value c.term_record.ensures _ _ _ _ _ _ c.in-Aggregate.is c.knows.ensures c.if-knows.true refl); small = c.recall.ensures.small; env_unchanged = search rules }

pub term-returns-in-Constant : goal.term-returns-in-Constant
term-returns-in-Constant t c = record { result_value = c.whole-in-Constant.ensures.result_value ∙ (constant-is c.args.walks.now c.args.values.now c.args.memo.now c.args.env.now c.args.q.now c.args.z.now c.args.level _ _ _ _ _ _ c.if-level-eq0.false c.term_record.ensures c.in-Constant.is (to_z-of_z {w = w32} (record { sfits = c.constant.type_inv }) ∙ c.constant.ensures.value)); small = c.whole-in-Constant.ensures.small; env_unchanged = search rules }

pub term-returns-in-Attribute : goal.term-returns-in-Attribute
term-returns-in-Attribute t c = record { result_value = c.whole-in-Attribute.ensures.result_value ∙ (attribute-is c.args.walks.now c.args.values.now c.args.memo.now c.args.env.now c.args.q.now c.args.z.now c.args.level _ _ _ _ _ c.if-level-eq0.false c.term_record.ensures c.in-Attribute.is (omega (arith, c.requires, c.in-Attribute.known_told-in-Attribute-1-own.given)) c.place-row.ensures (to_z-of_z {w = w32} (record { sfits = c.value.type_inv }) ∙ (rw c.from.ensures at c.value.ensures))); small = c.whole-in-Attribute.ensures.small; env_unchanged = search rules }

pub term-returns-else-knows : goal.term-returns-else-knows
term-returns-else-knows t c = record { result_value = ends _ _ c.finish.result _ c.gather-taken.ensures.accumulates c.finish.ensures.result_value ∙ (aggregate-is c.args.walks.now c.args.values.now c.args.memo.now c.args.env.now c.args.q.now c.args.z.now c.args.level _ _ _ c.if-level-eq0.false c.byte.ensures c.record_length-at.ensures.value c.term_record.ensures _ _ c.tail-x.ensures c.tail_sizes-y.ensures _ _ _ _ _ _ c.in-Aggregate.is c.knows.ensures c.if-knows.false (ap (λ (k : ℕ). aggregate c.in-Aggregate.function (values_on (c.args.level - 1) c.tail-x.result.now c.tail_sizes-y.result.now c.args.walks.now c.args.values.now c.args.memo.now c.args.env.now c.in-Aggregate.variable k)) c.from-in-Aggregate.ensures)); small = c.finish.ensures.small; env_unchanged = c.gather-taken.ensures.env_unchanged }

pub term-returns-in-Other : goal.term-returns-in-Other
term-returns-in-Other t c = record { result_value = c.whole-in-Other.ensures.result_value ∙ (no-term c.args.walks.now c.args.values.now c.args.memo.now c.args.env.now c.args.q.now c.args.z.now c.args.level _ c.if-level-eq0.false c.term_record.ensures c.in-Other.is); small = c.whole-in-Other.ensures.small; env_unchanged = search rules }
