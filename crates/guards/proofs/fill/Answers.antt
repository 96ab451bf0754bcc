use Rattle.rewriter.specs.Rewritten.{places_in}
use mathlib.Core.Path.{sym, ap, subst, ◌∙◌}
use Rattle.scans.specs.Flat.{flat_bindings}
use Rattle.guards.specs.Filled.{masked}
use Rattle.guards.proofs.Parts.{placed-parts}
use Rattle.guards.specs.Counted.{Short, tally_all}
use Rattle.guards.proofs.Counts.{filled-short}
use Rattle.guards.proofs.Steps.{outcome-refused, outcome-passed}
use Rattle.guards.proofs.fill.Goals as goal

pub enter_all-t-requires : goal.enter_all-t-requires
enter_all-t-requires c = (c.requires.0, subst Short (sym (placed-parts c.args.permits.now c.args.table.now _ c.fill_places.ensures).0) (filled-short c.args.permits.now c.requires.1 (places_in c.args.table.now) c.requires.2))

pub returns-then-not-t : goal.returns-then-not-t
returns-then-not-t c = let catalogue = c.args.catalogue.now in let list = c.args.permits.now in let query = c.args.query.now in
    let p = placed-parts list c.args.table.now _ c.fill_places.ensures in record { value = outcome-refused query list catalogue _ c.enter_all-t.result (c.enter_all-t.ensures.value ∙ ap (tally_all query list catalogue) (sym c.enter_all-t.ensures.table_after.1)) c.if-not-t.true; table_after = c.enter_all-t.ensures.table_after.1 ∙ p.0; table_after_2 = c.enter_all-t.ensures.table_after.0 ∙ ap (masked query list catalogue (flat_bindings query)) p.1 }

pub returns : goal.returns
returns c = let catalogue = c.args.catalogue.now in let list = c.args.permits.now in let query = c.args.query.now in
    let p = placed-parts list c.args.table.now _ c.fill_places.ensures in record { value = outcome-passed query list catalogue _ c.enter_all-t.result (c.enter_all-t.ensures.value ∙ ap (tally_all query list catalogue) (sym c.enter_all-t.ensures.table_after.1)) c.if-not-t.false; table_after = c.enter_all-t.ensures.table_after.1 ∙ p.0; table_after_2 = c.enter_all-t.ensures.table_after.0 ∙ ap (masked query list catalogue (flat_bindings query)) p.1 }
