use Prim.Native.Nat.{ℕ, ◌-◌, ◌/◌}
use native.Mathlib.Omega.{arith}
use mathlib.Core.List.{List}
use mathlib.Core.Path.{sym, ap, subst, ◌∙◌}
use lib.IntN.{ℤ}
use lib.ListN.{length, length-replicate}
use Rattle.model.specs.Lists.{Every}
use Rattle.model.specs.Encoding.{query_of}
use Rattle.model.specs.Calls.{give}
use Rattle.scans.specs.Flat.{flat_bindings}
use Rattle.permitted.specs.Given.{Low}
use Rattle.permitted.proofs.Table.{cleared}
use Rattle.rewriter.specs.Rewritten.{places_in, masks_in}
use Rattle.guarded.proofs.Outcomes.{table-answers}
use Rattle.guarded.proofs.answer_sized.Goals as goal

pub fill-requires : goal.fill-requires
fill-requires g c =
    let n = length-replicate {A = ℕ} g.row.N 0 in
    let low = subst (λ (m : ℕ). Every (Low c.args.catalogue.now ((m - 64) / 8)) (flat_bindings c.args.query.now)) (sym n) c.requires.room.2 in
    (c.requires.passed.1.once, low, c.requires.passed.1.count, (omega (arith, n, c.requires.room.0), omega (arith, n, c.requires.room.1)), cleared g.row.N, c.requires.passed.2)

pub answer_query-requires : goal.answer_query-requires
answer_query-requires g c = record { by = c.args.catalogue.now; answerable = c.requires.passed.0 }

pub returns : goal.returns
returns g c = let query = c.args.query.now in
    c.answer_query.ensures ∙ ap (λ (rows : List (List ℤ)). give (length (query_of query).targets) rows c.args.answer.now) (table-answers c.args.catalogue.now c.args.values.now c.args.permits.now (places_in c.args.table.now) (masks_in c.args.table.now) query _ c.requires.passed.1.bindings c.fill.ensures)
