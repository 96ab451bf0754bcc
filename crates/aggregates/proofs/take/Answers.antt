use Rattle.model.proofs.Lists.{get_or-same}
use Rattle.aggregates.proofs.Taking.{meets, row-no, row-yes, taken-over, take_next, ready_for, take_all}
use Rattle.decide.proofs.seeks.Filling.{nothing}
use Rattle.decide.specs.Cursor.{stops}
use Rattle.evaluator.proofs.Steps.{places-start, places-on, places-back, places-length, taken_start, taken-few}
use Rattle.walks.specs.Walks.{place_at}
use Rattle.catalogue.specs.Layout.{tuple_at}
use lib.ListN.{get_or, set, length-set, replicate}
use Prim.Native.Nat.{ℕ, ◌+◌, ◌-◌}
use native.Mathlib.Omega.{arith}
use mathlib.Core.Path.{◌≡◌, refl, ap, ◌∙◌}
use mir.Facts.{to_z-of_z}
use mir.Syntax.{w32}
use Rattle.numbers.proofs.Laws.{nothing-taken}
use Rattle.aggregates.proofs.take.Goals as goal

pub prepare-cursor-requires : goal.prepare-cursor-requires
prepare-cursor-requires c =
    (c.requires.0, c.size_at-start.ensures.upper_bound)

pub loop-rows-init : goal.loop-rows-init
loop-rows-init c =
    let env = c.args.env.now in let ws = c.args.walks.now in let vs = c.args.values.now in let variable = c.args.column.variable in let attribute = c.args.column.attribute in let walk = c.walk_of-walk.result in let own = c.from-own.result in let old = get_or env own 0 in
    let made = c.prepare-cursor.ensures ws (nothing c.args.t.now ws vs (replicate 1 0) (get_or-same {A = ℕ} 1 0)).faithful in
    (places-start env own old refl, taken_start (place_at ws walk) vs (meets c.args.t.now c.args.q.now c.args.z.now ws vs c.args.memo.now env variable) attribute _ nothing-taken, omega arith, refl, λ h. absurd (omega arith))

pub next_row-j-requires : goal.next_row-j-requires
next_row-j-requires c =
    let env = c.args.env.now in let ws = c.args.walks.now in let vs = c.args.values.now in let variable = c.args.column.variable in let attribute = c.args.column.attribute in let walk = c.walk_of-walk.result in let own = c.from-own.result in let old = get_or env own 0 in
    let made = c.prepare-cursor.ensures ws (nothing c.args.t.now ws vs (replicate 1 0) (get_or-same {A = ℕ} 1 0)).faithful in
    (c.loop-rows.invariant.2, ready_for c.args.t.now c.args.q.now c.args.z.now ws vs c.args.memo.now env variable attribute (place_at ws walk) c.prepare-cursor.result c.size_at-start.result (replicate 1 0) c.size_at-start.ensures.value made walk c.walk_of-walk.ensures.value, c.loop-rows.invariant.4)

pub returns-then-n-j : goal.returns-then-n-j
returns-then-n-j c =
    let env = c.args.env.now in let ws = c.args.walks.now in let vs = c.args.values.now in let variable = c.args.column.variable in let attribute = c.args.column.attribute in let walk = c.walk_of-walk.result in let own = c.from-own.result in let old = get_or env own 0 in
    let made = c.prepare-cursor.ensures ws (nothing c.args.t.now ws vs (replicate 1 0) (get_or-same {A = ℕ} 1 0)).faithful in
    record { accumulates = take_all c.args.t.now c.args.q.now c.args.z.now ws vs c.args.memo.now env variable attribute c.next_row-j.result walk _ c.walk_of-walk.ensures.value (omega (arith, c.if-n-j.true, c.next_row-j.ensures.lower_bound.1)) (taken-over c.args.t.now c.args.q.now c.args.z.now ws vs c.args.memo.now env variable attribute (place_at ws walk) c.prepare-cursor.result c.size_at-start.result (replicate 1 0) c.size_at-start.ensures.value made c.loop-rows.i c.next_row-j.result c.loop-rows.taken c.next_row-j.ensures.lower_bound.0 c.next_row-j.ensures.by_index c.loop-rows.invariant.1); count_bound = omega (arith, taken-few (place_at ws walk) vs (meets c.args.t.now c.args.q.now c.args.z.now ws vs c.args.memo.now env variable) attribute c.next_row-j.result c.loop-rows.taken (taken-over c.args.t.now c.args.q.now c.args.z.now ws vs c.args.memo.now env variable attribute (place_at ws walk) c.prepare-cursor.result c.size_at-start.result (replicate 1 0) c.size_at-start.ensures.value made c.loop-rows.i c.next_row-j.result c.loop-rows.taken c.next_row-j.ensures.lower_bound.0 c.next_row-j.ensures.by_index c.loop-rows.invariant.1) c.next_row-j.result (omega arith), c.next_row-j.ensures.lower_bound.1, c.walk_of-walk.ensures.fits.count); env_unchanged = c.loop-rows.invariant.0 }

pub both-requires : goal.both-requires
both-requires c =
    let env = c.args.env.now in let ws = c.args.walks.now in let vs = c.args.values.now in let variable = c.args.column.variable in let attribute = c.args.column.attribute in let walk = c.walk_of-walk.result in let own = c.from-own.result in let old = get_or env own 0 in
    let made = c.prepare-cursor.ensures ws (nothing c.args.t.now ws vs (replicate 1 0) (get_or-same {A = ℕ} 1 0)).faithful in
    (omega (arith, c.requires.0, c.loop-rows.invariant.3, length-set c.loop-rows.env own c.place-row.result), omega (arith, made.low, c.size_at-start.ensures.upper_bound), c.requires.1)

pub loop-rows-smaller-then-not-both : goal.loop-rows-smaller-then-not-both
loop-rows-smaller-then-not-both c =
    omega (arith, c.next_row-j.ensures.lower_bound.0, c.if-n-j.false)

pub loop-rows-preserved-then-not-both : goal.loop-rows-preserved-then-not-both
loop-rows-preserved-then-not-both c =
    let env = c.args.env.now in let ws = c.args.walks.now in let vs = c.args.values.now in let variable = c.args.column.variable in let attribute = c.args.column.attribute in let walk = c.walk_of-walk.result in let own = c.from-own.result in let old = get_or env own 0 in
    let made = c.prepare-cursor.ensures ws (nothing c.args.t.now ws vs (replicate 1 0) (get_or-same {A = ℕ} 1 0)).faithful in
    (places-back c.loop-rows.env env _ own old c.place-row.result c.loop-rows.invariant.0 refl _ c.both.ensures.env_unchanged, take_next c.args.t.now c.args.q.now c.args.z.now ws vs c.args.memo.now env variable attribute (place_at ws walk) c.prepare-cursor.result c.size_at-start.result (replicate 1 0) c.size_at-start.ensures.value made _ c.next_row-j.result c.place-row.result c.loop-rows.taken _ (c.next_row-j.ensures.result_value c.if-n-j.false) c.place-row.ensures (places-on c.loop-rows.env env _ own old c.place-row.result c.loop-rows.invariant.0 refl ∙ ap (λ (v : ℕ). set env v c.place-row.result) c.from-own.ensures) (omega (arith, c.requires.0, c.requires.2)) (taken-over c.args.t.now c.args.q.now c.args.z.now ws vs c.args.memo.now env variable attribute (place_at ws walk) c.prepare-cursor.result c.size_at-start.result (replicate 1 0) c.size_at-start.ensures.value made c.loop-rows.i c.next_row-j.result c.loop-rows.taken c.next_row-j.ensures.lower_bound.0 c.next_row-j.ensures.by_index c.loop-rows.invariant.1) (row-no c.args.t.now c.args.q.now c.args.z.now ws vs c.args.memo.now (set c.loop-rows.env own c.place-row.result) c.prepare-cursor.result.next c.both.result c.loop-rows.taken c.both.ensures.value c.if-not-both.true-raw _) c.loop-rows.invariant.1.bounded, omega (arith, c.if-n-j.false), places-length c.loop-rows.env env _ own old c.place-row.result c.loop-rows.invariant.0 refl _ c.both.ensures.env_unchanged c.loop-rows.invariant.3, λ h. (let e : c.next_row-j.result + 1 - 1 ≡ c.next_row-j.result = omega arith in ap (λ (i : ℕ). stops c.prepare-cursor.result (tuple_at vs (place_at ws walk i))) e) ∙ c.next_row-j.ensures.result_value c.if-n-j.false)

pub add-taken-requires : goal.add-taken-requires
add-taken-requires c =
    let env = c.args.env.now in let ws = c.args.walks.now in let vs = c.args.values.now in let variable = c.args.column.variable in let attribute = c.args.column.attribute in let walk = c.walk_of-walk.result in let own = c.from-own.result in let old = get_or env own 0 in
    let made = c.prepare-cursor.ensures ws (nothing c.args.t.now ws vs (replicate 1 0) (get_or-same {A = ℕ} 1 0)).faithful in
    (c.loop-rows.invariant.1.bounded, omega (arith, taken-few (place_at ws walk) vs (meets c.args.t.now c.args.q.now c.args.z.now ws vs c.args.memo.now env variable) attribute c.next_row-j.result c.loop-rows.taken (taken-over c.args.t.now c.args.q.now c.args.z.now ws vs c.args.memo.now env variable attribute (place_at ws walk) c.prepare-cursor.result c.size_at-start.result (replicate 1 0) c.size_at-start.ensures.value made c.loop-rows.i c.next_row-j.result c.loop-rows.taken c.next_row-j.ensures.lower_bound.0 c.next_row-j.ensures.by_index c.loop-rows.invariant.1) c.next_row-j.result (omega arith), c.if-n-j.false, c.walk_of-walk.ensures.fits.count))

pub loop-rows-smaller : goal.loop-rows-smaller
loop-rows-smaller c =
    omega (arith, c.next_row-j.ensures.lower_bound.0, c.if-n-j.false)

pub loop-rows-preserved : goal.loop-rows-preserved
loop-rows-preserved c =
    let env = c.args.env.now in let ws = c.args.walks.now in let vs = c.args.values.now in let variable = c.args.column.variable in let attribute = c.args.column.attribute in let walk = c.walk_of-walk.result in let own = c.from-own.result in let old = get_or env own 0 in
    let made = c.prepare-cursor.ensures ws (nothing c.args.t.now ws vs (replicate 1 0) (get_or-same {A = ℕ} 1 0)).faithful in
    (places-back c.loop-rows.env env _ own old c.place-row.result c.loop-rows.invariant.0 refl _ c.both.ensures.env_unchanged, take_next c.args.t.now c.args.q.now c.args.z.now ws vs c.args.memo.now env variable attribute (place_at ws walk) c.prepare-cursor.result c.size_at-start.result (replicate 1 0) c.size_at-start.ensures.value made _ c.next_row-j.result c.place-row.result c.loop-rows.taken _ (c.next_row-j.ensures.result_value c.if-n-j.false) c.place-row.ensures (places-on c.loop-rows.env env _ own old c.place-row.result c.loop-rows.invariant.0 refl ∙ ap (λ (v : ℕ). set env v c.place-row.result) c.from-own.ensures) (omega (arith, c.requires.0, c.requires.2)) (taken-over c.args.t.now c.args.q.now c.args.z.now ws vs c.args.memo.now env variable attribute (place_at ws walk) c.prepare-cursor.result c.size_at-start.result (replicate 1 0) c.size_at-start.ensures.value made c.loop-rows.i c.next_row-j.result c.loop-rows.taken c.next_row-j.ensures.lower_bound.0 c.next_row-j.ensures.by_index c.loop-rows.invariant.1) (row-yes c.args.t.now c.args.q.now c.args.z.now ws vs c.args.memo.now (set c.loop-rows.env own c.place-row.result) c.prepare-cursor.result.next c.both.result c.loop-rows.taken c.both.ensures.value c.add-taken.result _ _ c.if-not-both.false-raw (to_z-of_z {w = w32} (record { sfits = c.value.type_inv }) ∙ c.value.ensures) c.add-taken.ensures.value) c.add-taken.ensures.bounded, omega (arith, c.if-n-j.false), places-length c.loop-rows.env env _ own old c.place-row.result c.loop-rows.invariant.0 refl _ c.both.ensures.env_unchanged c.loop-rows.invariant.3, λ h. (let e : c.next_row-j.result + 1 - 1 ≡ c.next_row-j.result = omega arith in ap (λ (i : ℕ). stops c.prepare-cursor.result (tuple_at vs (place_at ws walk i))) e) ∙ c.next_row-j.ensures.result_value c.if-n-j.false)
