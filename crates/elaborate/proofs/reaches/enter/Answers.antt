use native.Mathlib.Omega.{arith}
use mathlib.Core.Path.{refl}
use Prim.Native.Nat.{◌+◌}
use Rattle.elaborate.specs.Lookup.{ids_in}
use Rattle.elaborate.proofs.reaches.Laws.{enter-some, enter-head, enter-none, binds-none, small-after, above_kept}
use Rattle.elaborate.proofs.reaches.enter.Goals as goal

pub push-requires : goal.push-requires
push-requires c = (c.requires.0, c.requires.2, omega (arith, c.id_at-x.ensures.value, c.requires.4 (c.args.i + 1)), c.requires.6)

pub push-requires-in-Aggregate : goal.push-requires-in-Aggregate
push-requires-in-Aggregate c = (c.requires.0, c.requires.2, omega (arith, c.id_at-x-in-Aggregate.ensures.value, c.requires.4 (c.args.i + 2)), c.requires.6)

pub returns-in-Some : goal.returns-in-Some
returns-in-Some c = let known = c.args.known.now in let r = c.args.r in record { by_index = λ w σ sm st. enter-some w (ids_in c.args.lookup.now.table.now) c.args.frames.now r.depth r.crossing known σ _ _ _ _ c.requires.0 st c.push.ensures sm c.requires.5 c.args.i _ _ c.args.item c.pack.ensures.result_value.0 c.pack.ensures.result_value.1 c.pack.ensures.result_value.2 c.pack.ensures.result_value.3 c.id_at-x.ensures.value c.in-Some.is; depth_value = (refl, c.requires.2, small-after _ _ _ _ _ known _ _ c.push.ensures c.requires.6 c.pack.ensures.upper_bound, above_kept _ _ _ _ _ known _ _ c.push.ensures) }

pub returns-in-Aggregate : goal.returns-in-Aggregate
returns-in-Aggregate c = let known = c.args.known.now in let r = c.args.r in record { by_index = λ w σ sm st. enter-head w (ids_in c.args.lookup.now.table.now) c.args.frames.now r.depth r.crossing known σ _ _ _ _ c.requires.0 st c.push-in-Aggregate.ensures sm c.requires.5 c.args.i _ _ c.args.item c.pack-in-Aggregate.ensures.result_value.0 c.pack-in-Aggregate.ensures.result_value.1 c.pack-in-Aggregate.ensures.result_value.2 c.pack-in-Aggregate.ensures.result_value.3 _ _ c.id_at-x-in-Aggregate.ensures.value c.in-Aggregate.is; depth_value = (refl, omega (arith, c.requires.1), small-after _ _ _ _ _ known _ _ c.push-in-Aggregate.ensures c.requires.6 c.pack-in-Aggregate.ensures.upper_bound, above_kept _ _ _ _ _ known _ _ c.push-in-Aggregate.ensures) }

pub returns-in_default : goal.returns-in_default
returns-in_default c = let known = c.args.known.now in let item = c.args.item in let r = c.args.r in record { by_index = λ w σ sm st. enter-none w (ids_in c.args.lookup.now.table.now) c.args.frames.now r.depth r.crossing known σ _ _ _ _ c.requires.0 st c.push-in_default.ensures _ _ item refl c.entry-e.ensures (binds-none item c.in_default.not-Some c.in_default.not-Aggregate); depth_value = (refl, c.requires.2, small-after _ _ _ _ _ known _ _ c.push-in_default.ensures c.requires.6 (omega (arith, c.entry-e.ensures, c.requires.6 0)), above_kept _ _ _ _ _ known _ _ c.push-in_default.ensures) }
