use Rattle.decide.proofs.Following.{follow-stuck, follow-on, follow-end}
use Rattle.decide.proofs.Searching as S
use Rattle.evaluator.proofs.Steps.{places-start, places-on, places-back, places-length}
use Rattle.walks.specs.Walks.{place_at}
use Rattle.model.specs.Search.{Search}
use Rattle.model.proofs.Search.{none-start, none-next}
use Rattle.walks.proofs.Loops.{Failed, walked-hit, walked_none}
use Rattle.catalogue.specs.Layout.{tuple_at}
use lib.ListN.{length, get_or, set, length-set}
use native.Mathlib.Omega.{arith}
use mathlib.Core.Path.{◌≡◌, refl, sym, ap, ◌∙◌, subst}
use Rattle.decide.specs.Cursor.{stops}
use Prim.Native.Nat.{◌+◌, ◌-◌}
use Prim.Native.Nat.{ℕ}
use Rattle.decide.proofs.Decider.+first_row_holds_some_row.Goals as goal

pub first_row-loop-rows-init : goal.first_row-loop-rows-init
first_row-loop-rows-init t c =
    let s = c.args.self.now in let env = c.args.env.now in let start = c.args.start in let variable = c.args.variable in let walk = c.walk_of-walk.result in let own = c.from-own.result in let old = get_or env own 0 in
    (places-start env own old refl, none-start (λ j. S.asks s.t.now s.q.now s.z.now s.walks.now s.values.now s.memo.now start variable env (tuple_at s.values.now (place_at s.walks.now walk j))), omega arith, refl, λ h. absurd (omega arith))

pub first_row-next_row-j-requires : goal.first_row-next_row-j-requires
first_row-next_row-j-requires t c =
    let s = c.args.self.now in let env = c.args.env.now in let start = c.args.start in let variable = c.args.variable in let walk = c.walk_of-walk.result in let own = c.from-own.result in let old = get_or env own 0 in
    (c.loop-rows.invariant.2, S.ready_for s.t.now s.q.now s.z.now s.walks.now s.values.now s.memo.now start variable env c.prepare-cursor.result s.chains.now (c.prepare-cursor.ensures s.walks.now s.faithful) (place_at s.walks.now walk) walk c.walk_of-walk.ensures.value, c.loop-rows.invariant.4)

pub first_row-bounds-env-own-then-n-j : goal.first_row-bounds-env-own-then-n-j
first_row-bounds-env-own-then-n-j t c =
    omega (arith, c.requires.0, c.ranges.variable, c.from-own.ensures, c.loop-rows.invariant.3)

pub first_row-returns-then-n-j : goal.first_row-returns-then-n-j
first_row-returns-then-n-j t c =
    let s = c.args.self.now in let env = c.args.env.now in let start = c.args.start in let variable = c.args.variable in let walk = c.walk_of-walk.result in let own = c.from-own.result in let old = get_or env own 0 in
    record { value = (sym (walked_none (S.asks s.t.now s.q.now s.z.now s.walks.now s.values.now s.memo.now start variable env) s.walks.now s.values.now variable walk c.walk_of-walk.ensures.value (let e : c.next_row-j.result ≡ walk.count = omega (arith, c.if-n-j.true, c.next_row-j.ensures.lower_bound.1) in subst (Failed (place_at s.walks.now walk) s.values.now (S.asks s.t.now s.q.now s.z.now s.walks.now s.values.now s.memo.now start variable env)) e (S.over s.t.now s.q.now s.z.now s.walks.now s.values.now s.memo.now start variable env c.prepare-cursor.result s.chains.now (c.prepare-cursor.ensures s.walks.now s.faithful) (place_at s.walks.now walk) c.loop-rows.i c.next_row-j.result c.next_row-j.ensures.by_index c.loop-rows.invariant.1)))); env_unchanged = c.loop-rows.invariant.0 }

pub first_row-holds-requires : goal.first_row-holds-requires
first_row-holds-requires t c =
    let s = c.args.self.now in let env = c.args.env.now in let start = c.args.start in let variable = c.args.variable in let walk = c.walk_of-walk.result in let own = c.from-own.result in let old = get_or env own 0 in
    (omega (arith, c.decreases, (c.prepare-cursor.ensures s.walks.now s.faithful).low), (omega (arith, c.requires.0, c.loop-rows.invariant.3, length-set c.loop-rows.env own c.place.result), omega (arith, c.requires.1, (c.prepare-cursor.ensures s.walks.now s.faithful).low)))

pub first_row-returns-then-holds : goal.first_row-returns-then-holds
first_row-returns-then-holds t c =
    let s = c.args.self.now in let env = c.args.env.now in let start = c.args.start in let variable = c.args.variable in let walk = c.walk_of-walk.result in let own = c.from-own.result in let old = get_or env own 0 in
    record { value = (sym (walked-hit (S.asks s.t.now s.q.now s.z.now s.walks.now s.values.now s.memo.now start variable env) s.walks.now s.values.now variable walk c.walk_of-walk.ensures.value c.next_row-j.result c.if-n-j.false (S.over s.t.now s.q.now s.z.now s.walks.now s.values.now s.memo.now start variable env c.prepare-cursor.result s.chains.now (c.prepare-cursor.ensures s.walks.now s.faithful) (place_at s.walks.now walk) c.loop-rows.i c.next_row-j.result c.next_row-j.ensures.by_index c.loop-rows.invariant.1) (S.tried s.t.now s.q.now s.z.now s.walks.now s.values.now s.memo.now start variable env c.prepare-cursor.result s.chains.now (c.prepare-cursor.ensures s.walks.now s.faithful) (place_at s.walks.now walk) _ c.place.result c.next_row-j.result c.holds.result (c.next_row-j.ensures.result_value c.if-n-j.false) c.place.ensures (places-on c.loop-rows.env env _ own old c.place.result c.loop-rows.invariant.0 refl ∙ ap (λ (v : ℕ). set env v c.place.result) c.from-own.ensures) (omega (arith, c.requires.0, c.ranges.variable)) c.holds.ensures.value ∙ c.if-holds.true))); env_unchanged = places-back c.loop-rows.env env _ own old c.place.result c.loop-rows.invariant.0 refl _ c.holds.ensures.env_unchanged }

pub first_row-loop-rows-smaller : goal.first_row-loop-rows-smaller
first_row-loop-rows-smaller t c =
    omega (arith, c.next_row-j.ensures.lower_bound.0, c.if-n-j.false)

pub first_row-loop-rows-preserved : goal.first_row-loop-rows-preserved
first_row-loop-rows-preserved t c =
    let s = c.args.self.now in let env = c.args.env.now in let start = c.args.start in let variable = c.args.variable in let walk = c.walk_of-walk.result in let own = c.from-own.result in let old = get_or env own 0 in
    (places-back c.loop-rows.env env _ own old c.place.result c.loop-rows.invariant.0 refl _ c.holds.ensures.env_unchanged, none-next (λ j. S.asks s.t.now s.q.now s.z.now s.walks.now s.values.now s.memo.now start variable env (tuple_at s.values.now (place_at s.walks.now walk j))) c.next_row-j.result (S.over s.t.now s.q.now s.z.now s.walks.now s.values.now s.memo.now start variable env c.prepare-cursor.result s.chains.now (c.prepare-cursor.ensures s.walks.now s.faithful) (place_at s.walks.now walk) c.loop-rows.i c.next_row-j.result c.next_row-j.ensures.by_index c.loop-rows.invariant.1) (S.tried s.t.now s.q.now s.z.now s.walks.now s.values.now s.memo.now start variable env c.prepare-cursor.result s.chains.now (c.prepare-cursor.ensures s.walks.now s.faithful) (place_at s.walks.now walk) _ c.place.result c.next_row-j.result c.holds.result (c.next_row-j.ensures.result_value c.if-n-j.false) c.place.ensures (places-on c.loop-rows.env env _ own old c.place.result c.loop-rows.invariant.0 refl ∙ ap (λ (v : ℕ). set env v c.place.result) c.from-own.ensures) (omega (arith, c.requires.0, c.ranges.variable)) c.holds.ensures.value ∙ c.if-holds.false), omega (arith, c.if-n-j.false), places-length c.loop-rows.env env _ own old c.place.result c.loop-rows.invariant.0 refl _ c.holds.ensures.env_unchanged c.loop-rows.invariant.3, λ h. (let e : c.next_row-j.result + 1 - 1 ≡ c.next_row-j.result = omega arith in ap (λ (i : ℕ). stops c.prepare-cursor.result (tuple_at s.values.now (place_at s.walks.now walk i))) e) ∙ c.next_row-j.ensures.result_value c.if-n-j.false)

pub holds-loop-start-init : goal.holds-loop-start-init
holds-loop-start-init t c = (refl, refl, omega arith, refl)

pub holds-run-at-requires : goal.holds-run-at-requires
holds-run-at-requires t c = (omega (arith, c.requires.0, c.loop-start.invariant.3), omega (arith, c.requires.1, c.loop-start.invariant.2))

pub holds-returns-then-at-lt2 : goal.holds-returns-then-at-lt2
holds-returns-then-at-lt2 t c = let env = c.args.env.now in let memo = c.args.self.now.memo.now in let q = c.args.self.now.q.now in let values = c.args.self.now.values.now in let walks = c.args.self.now.walks.now in let z = c.args.self.now.z.now in let start = c.args.start in record { value = follow-end c.args.self.now.t.now q z walks values memo env c.run-at.result start c.if-at-lt2.true (S.moved c.args.self.now.t.now q z walks values memo env c.loop-start.env c.run-at.result c.loop-start.from start c.loop-start.invariant.1 c.run-at.ensures.env_value c.loop-start.invariant.0); env_unchanged = c.run-at.ensures.env_unchanged ∙ c.loop-start.invariant.1 }

pub holds-some_row-found-requires : goal.holds-some_row-found-requires
holds-some_row-found-requires t c = (omega (arith, c.decreases, c.run-at.ensures.upper_bound.0, c.loop-start.invariant.2), (omega (arith, c.requires.0, c.loop-start.invariant.3, ap length c.run-at.ensures.env_unchanged), omega (arith, c.requires.1, c.run-at.ensures.upper_bound.0, c.loop-start.invariant.2), c.run-at.ensures.upper_bound.1 (omega (arith, c.if-at-lt2.false))))

pub holds-way-to-requires : goal.holds-way-to-requires
holds-way-to-requires t c = omega (arith, c.requires.1, c.run-at.ensures.upper_bound.0, c.loop-start.invariant.2)

pub holds-returns-then-at-to : goal.holds-returns-then-at-to
holds-returns-then-at-to t c = let env = c.args.env.now in let memo = c.args.self.now.memo.now in let q = c.args.self.now.q.now in let values = c.args.self.now.values.now in let walks = c.args.self.now.walks.now in let z = c.args.self.now.z.now in let start = c.args.start in record { value = follow-stuck c.args.self.now.t.now q z walks values memo env c.run-at.result start c.way-to.result _ (c.run-at.ensures.env_unchanged ∙ c.loop-start.invariant.1) (omega (arith, c.if-at-lt2.false)) (S.way_next c.args.self.now.t.now q z walks values memo c.run-at.new.env c.run-at.result c.way-to.result c.some_row-found.result c.way-to.ensures.value c.some_row-found.ensures.value) (S.moved c.args.self.now.t.now q z walks values memo env c.loop-start.env c.run-at.result c.loop-start.from start c.loop-start.invariant.1 c.run-at.ensures.env_value c.loop-start.invariant.0) c.if-at-to.true; env_unchanged = c.some_row-found.ensures.env_unchanged ∙ (c.run-at.ensures.env_unchanged ∙ c.loop-start.invariant.1) }

pub holds-loop-start-smaller : goal.holds-loop-start-smaller
holds-loop-start-smaller t c = omega (arith, c.if-at-to.false, c.run-at.ensures.upper_bound.0)

pub holds-loop-start-preserved : goal.holds-loop-start-preserved
holds-loop-start-preserved t c = let env = c.args.env.now in let memo = c.args.self.now.memo.now in let q = c.args.self.now.q.now in let values = c.args.self.now.values.now in let walks = c.args.self.now.walks.now in let z = c.args.self.now.z.now in let start = c.args.start in
    (follow-on c.args.self.now.t.now q z walks values memo env c.run-at.result start c.way-to.result _ (c.run-at.ensures.env_unchanged ∙ c.loop-start.invariant.1) (omega (arith, c.if-at-lt2.false)) (S.way_next c.args.self.now.t.now q z walks values memo c.run-at.new.env c.run-at.result c.way-to.result c.some_row-found.result c.way-to.ensures.value c.some_row-found.ensures.value) (S.moved c.args.self.now.t.now q z walks values memo env c.loop-start.env c.run-at.result c.loop-start.from start c.loop-start.invariant.1 c.run-at.ensures.env_value c.loop-start.invariant.0) (omega (arith, c.if-at-to.false)), c.some_row-found.ensures.env_unchanged ∙ (c.run-at.ensures.env_unchanged ∙ c.loop-start.invariant.1), omega (arith, c.if-at-to.false, c.run-at.ensures.upper_bound.0, c.loop-start.invariant.2), ap length (c.some_row-found.ensures.env_unchanged ∙ (c.run-at.ensures.env_unchanged ∙ c.loop-start.invariant.1)))

pub some_row-returns-then-i-inner-clause-value : goal.some_row-returns-then-i-inner-clause-value
some_row-returns-then-i-inner-clause-value t c = let s = c.args.self.now in S.some-stuck s.t.now s.q.now s.z.now s.walks.now s.values.now s.memo.now c.size_at-inner.result 0 c.args.env.now c.args.i c.requires.2 c.size_at-inner.ensures.value c.if-i-inner.true

pub some_row-returns-in_default-clause-value : goal.some_row-returns-in_default-clause-value
some_row-returns-in_default-clause-value t c = let s = c.args.self.now in S.some-high s.t.now s.q.now s.z.now s.walks.now s.values.now s.memo.now c.size_at-inner.result 0 c.args.env.now c.args.i c.requires.2 c.size_at-inner.ensures.value c.size_at.result c.size_at.ensures.value (omega (arith, c.if-i-inner.false)) (omega (arith, c.in_default.ensures))

pub some_row-returns-clause-value : goal.some_row-returns-clause-value
some_row-returns-clause-value t c = let s = c.args.self.now in S.some_is s.t.now s.q.now s.z.now s.walks.now s.values.now s.memo.now c.size_at-inner.result c.in-Ok.variable c.args.env.now c.args.i c.requires.2 c.size_at-inner.ensures.value _ (c.in-Ok.ensures.1 ∙ c.size_at.ensures.value) (omega (arith, c.if-i-inner.false)) (omega (arith, c.in-Ok.ensures)) (ap (λ (r : Search). r.found) c.first_row.ensures.value)
