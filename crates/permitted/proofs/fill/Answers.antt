use Rattle.std.proofs.Common.{List, length, refl, sym, ap, subst, ◌∙◌, arith}
use Rattle.model.specs.Syntax.{Binding}
use Rattle.rewriter.specs.Rewritten.{masks_in, part_in}
use Rattle.scans.specs.Flat.{flat_bindings, bindings_left}
use Rattle.permitted.specs.Given.{most_in}
use Rattle.permitted.proofs.Table.{Filling, filling-start, filling-on, filling-end, asked, room-enough, most-low}
use Rattle.permitted.proofs.fill.Goals as goal

pub loop-b-init : goal.loop-b-init
loop-b-init c = let bs = flat_bindings c.args.query.now in let walks = c.args.walks.now in let catalogue = c.args.catalogue.now in let values = c.args.values.now in let list = part_in c.args.permits.now c.args.table.now in let masks = masks_in c.args.table.now in
    let e = ap bindings_left c.into_iter-b-iterator.ensures.into_iter_gives ∙ c.of-b-items.ensures in
    (refl, subst (λ (l : List Binding). Filling catalogue values list masks (most_in walks) bs l 64 walks) (sym e) (filling-start catalogue values list masks (most_in walks) bs walks c.requires.4 (room-enough (length walks) (length bs) c.requires.2 c.requires.3.0)))

pub fill_one-next-requires : goal.fill_one-next-requires
fill_one-next-requires c = let walks = c.args.walks.now in
    let a = asked c.args.catalogue.now c.args.values.now (part_in c.args.permits.now c.args.table.now) (masks_in c.args.table.now) (most_in walks) (flat_bindings c.args.query.now) _ _ _ c.loop-b.next c.loop-b.walks c.requires.1 c.in-Some.ensures.steps c.loop-b.invariant.1 in
    record {
      low = a.0.0;
      rows = most-low _ (length walks) a.0.1 c.requires.3.1;
      mask = c.requires.5 _;
      room = record { list = omega (arith, a.1.0, a.0.1); table = omega (arith, c.loop-b.invariant.0, c.requires.3.1) };
      keyed = a.1.1;
    }

pub loop-b-preserved : goal.loop-b-preserved
loop-b-preserved c =
    (c.fill_one-next.auto.walks ∙ c.loop-b.invariant.0, filling-on c.args.catalogue.now c.args.values.now (part_in c.args.permits.now c.args.table.now) (masks_in c.args.table.now) (most_in c.args.walks.now) (flat_bindings c.args.query.now) _ _ _ c.loop-b.next c.fill_one-next.result c.loop-b.walks _ c.requires.0 c.requires.1 c.in-Some.ensures.steps c.loop-b.invariant.1 c.fill_one-next.ensures)

pub returns : goal.returns
returns c = let catalogue = c.args.catalogue.now in let list = part_in c.args.permits.now c.args.table.now in let masks = masks_in c.args.table.now in let bs = flat_bindings c.args.query.now in let values = c.args.values.now in let walks = c.args.walks.now in
    filling-end catalogue values list masks (most_in walks) bs c.loop-b.next c.loop-b.walks (subst (λ (l : List Binding). Filling catalogue values list masks (most_in walks) bs l c.loop-b.next c.loop-b.walks) c.in-None.ensures.steps.0 c.loop-b.invariant.1)
