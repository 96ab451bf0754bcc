use native.Mathlib.Omega.{arith}
use Prim.Native.Nat.{ℕ}
use mathlib.Core.Path.{ap}
use lib.ListN.{replicate, length-replicate}
use Rattle.model.proofs.Lists.{get_or-same}
use Rattle.catalogue.specs.declared.Relation.{Relation}
use Rattle.rewriter.specs.Applying.{conditions_by}
use Rattle.permitted.proofs.judges.Steps.{bits-on}
use Rattle.permitted.proofs.Lists.{blank-bits, rows-listed}
use Rattle.permitted.proofs.Granting.list_by.Goals as goal

pub mark-requires : goal.mark-requires
mark-requires g c = let clear = get_or-same {A = ℕ} g.row.N 0 in
    (omega (arith, c.requires.rows), omega (arith, c.requires.rows, length-replicate {A = ℕ} g.row.N 0), blank-bits (replicate g.row.N 0) clear)

pub collect-requires : goal.collect-requires
collect-requires g c = let clear = get_or-same {A = ℕ} g.row.N 0 in let rows = ap (λ (x : Relation). x.rows) c.entry-known.ensures.value in
    (omega (arith, rows, c.mark.ensures.size, c.requires.rows, length-replicate {A = ℕ} g.row.N 0), c.entry-known.ensures.attributes_bound.1, omega (arith, rows, c.requires.room.list), c.requires.room.table, bits-on (blank-bits (replicate g.row.N 0) clear) c.mark.ensures)

pub returns : goal.returns
returns g c = let clear = get_or-same {A = ℕ} g.row.N 0 in let rows = ap (λ (x : Relation). x.rows) c.entry-known.ensures.value in
    record { listed = rows-listed c.args.self.now.catalogue.now c.args.self.now.values.now (conditions_by c.args.self.now.applying) c.args.grant.relation c.args.grant.mask _ c.args.grant.next _ _ (replicate g.row.N 0) _ c.args.walks.now _ clear c.mark.ensures rows (ap (λ (x : Relation). x.latest) c.entry-known.ensures.value) c.collect.ensures.listed; lower_bound = (c.collect.ensures.lower_bound.0, omega (arith, c.collect.ensures.lower_bound.1, rows)) }
