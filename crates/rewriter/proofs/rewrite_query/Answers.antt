use mathlib.Core.Path.{refl}
use Rattle.rewriter.specs.Rewritten.{masks_in, part_in}
use Rattle.rewriter.proofs.Sequences.{ranges-room, targets-room, openings-room, condition-room, guards-room, query-done, query-whole}
use Rattle.rewriter.proofs.rewrite_query.Goals as goal

pub ranges-at-requires : goal.ranges-at-requires
ranges-at-requires c = ranges-room _ _ _ _ _ _ _ _ _ _ (query-whole (masks_in c.args.table.now) (part_in c.args.permits.now c.args.table.now) c.args.layout c.args.level c.args.q.now c.args.z.now _ _ refl refl _ _ refl refl) c.requires

pub targets-w-requires : goal.targets-w-requires
targets-w-requires c = targets-room _ _ _ _ _ _ _ _ _ _ (query-whole (masks_in c.args.table.now) (part_in c.args.permits.now c.args.table.now) c.args.layout c.args.level c.args.q.now c.args.z.now _ _ c.from-head.ensures.bytes c.from-head.ensures.sizes _ _ refl refl) c.requires c.args.out.now _ _ (c.ranges-at.ensures.value, c.ranges-at.ensures.out_after)

pub open_ranges-at-requires : goal.open_ranges-at-requires
open_ranges-at-requires c = openings-room _ _ _ _ _ _ _ _ _ _ (query-whole (masks_in c.args.table.now) (part_in c.args.permits.now c.args.table.now) c.args.layout c.args.level c.args.q.now c.args.z.now _ _ c.from-head.ensures.bytes c.from-head.ensures.sizes _ _ refl refl) c.requires c.args.out.now _ _ (c.ranges-at.ensures.value, c.ranges-at.ensures.out_after) _ _ _ (c.targets-w.ensures.after, c.targets-w.ensures.out_after)

pub condition-x-requires : goal.condition-x-requires
condition-x-requires c = condition-room _ _ _ _ _ _ _ _ _ _ (query-whole (masks_in c.args.table.now) (part_in c.args.permits.now c.args.table.now) c.args.layout c.args.level c.args.q.now c.args.z.now _ _ c.from-head.ensures.bytes c.from-head.ensures.sizes _ _ c.from-tail.ensures.bytes c.from-tail.ensures.sizes) c.requires c.args.out.now _ _ (c.ranges-at.ensures.value, c.ranges-at.ensures.out_after) _ _ _ (c.targets-w.ensures.after, c.targets-w.ensures.out_after) _ _ (c.open_ranges-at.ensures.value, c.open_ranges-at.ensures.out_after)

pub guard_ranges-requires : goal.guard_ranges-requires
guard_ranges-requires c = guards-room _ _ _ _ _ _ _ _ _ _ (query-whole (masks_in c.args.table.now) (part_in c.args.permits.now c.args.table.now) c.args.layout c.args.level c.args.q.now c.args.z.now _ _ c.from-head.ensures.bytes c.from-head.ensures.sizes _ _ c.from-tail.ensures.bytes c.from-tail.ensures.sizes) c.requires c.args.out.now _ _ (c.ranges-at.ensures.value, c.ranges-at.ensures.out_after) _ _ _ (c.targets-w.ensures.after, c.targets-w.ensures.out_after) _ _ (c.open_ranges-at.ensures.value, c.open_ranges-at.ensures.out_after) _ _ _ (c.condition-x.ensures.after, c.condition-x.ensures.out_after)

pub returns : goal.returns
returns c = let h = query-done _ _ _ _ _ _ _ _ _ _ (query-whole (masks_in c.args.table.now) (part_in c.args.permits.now c.args.table.now) c.args.layout c.args.level c.args.q.now c.args.z.now _ _ c.from-head.ensures.bytes c.from-head.ensures.sizes _ _ c.from-tail.ensures.bytes c.from-tail.ensures.sizes) c.requires c.args.out.now _ _ (c.ranges-at.ensures.value, c.ranges-at.ensures.out_after) _ _ _ (c.targets-w.ensures.after, c.targets-w.ensures.out_after) _ _ (c.open_ranges-at.ensures.value, c.open_ranges-at.ensures.out_after) _ _ _ (c.condition-x.ensures.after, c.condition-x.ensures.out_after) _ _ _ (c.guard_ranges.ensures.after, c.guard_ranges.ensures.out_after) in record { value = h.0; out_after = h.1 }
