use Rattle.std.proofs.Common.{List, ◌+◌, length, refl, ap, ◌∙◌, arith}
use Rattle.model.specs.Lists.{all, total}
use Rattle.model.specs.Syntax.{Binding}
use Rattle.rewriter.specs.Rewritten.{places_in, masks_in}
use Rattle.scans.specs.Flat.{bindings_left}
use Rattle.scans.proofs.Walk.{bindings-few}
use Rattle.guards.specs.Filled.{masked}
use Rattle.guards.specs.Counted.{served_by, length_by, rewritten_length}
use Rattle.guards.proofs.enter_all.Goals as goal

pub loop-b-init : goal.loop-b-init
unfolding rewritten_length
loop-b-init c =
    let e = ap bindings_left c.into_iter-b-iterator.ensures.into_iter_gives ∙ c.of-b-items.ensures in
    let query = c.args.query.now in let list = c.args.permits.now in let catalogue = c.args.catalogue.now in let table = c.args.table.now in
    record {
      served = ap (all (served_by query list catalogue)) e;
      summed = ap (λ (bs : List Binding). length query + total (length_by query list catalogue (places_in table)) bs) e;
      small = omega (arith, ap length e, bindings-few query);
      masks = ap (λ (bs : List Binding). masked query list catalogue bs (masks_in table)) e;
      places = refl;
    }
