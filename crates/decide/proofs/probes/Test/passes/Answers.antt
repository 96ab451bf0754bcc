use Rattle.std.proofs.Common.{Bool, ◌≡◌, not, cond, sym, ap, ◌∙◌}
use mir.Syntax.{w32}
use mir.Facts.{to_z-of_z}
use Rattle.catalogue.specs.Layout.{tuple_at}
use Rattle.walks.specs.Walks.{place_at}
use Rattle.decide.specs.Cursor as C
use Rattle.decide.proofs.probes.Tests.{column-at, row-passes}
use Rattle.decide.proofs.probes.Test.passes.Goals.{After-inside-between}
use Rattle.decide.proofs.probes.Test.passes.Goals as goal

-- by what the value in the column says
told : (c : After-inside-between) → cond c.args.self.now.wanted c.inside-between.result (not c.inside-between.result) ≡ C.passes c.args.self.now (tuple_at c.args.rows.now.values.now (place_at c.args.rows.now.walks.now c.args.rows.now.walk c.args.i))
told c = let x = c.args.self.now in let rows = c.args.rows.now in
    row-passes x _ (tuple_at rows.values.now (place_at rows.walks.now rows.walk c.args.i)) _ (column-at x.attribute _ _ rows.values.now c.args.column.now _ (to_z-of_z {w = w32} (record { sfits = c.cell.type_inv }) ∙ c.cell.ensures) c.requires.1 c.place-place.ensures) c.inside-between.ensures

pub returns-then-self : goal.returns-then-self
returns-then-self c = ap (λ (w : Bool). cond w c.inside-between.result (not c.inside-between.result)) (sym c.if-self.true) ∙ told (goal.at.returns-then-self c).After-inside-between

pub returns-else-self : goal.returns-else-self
returns-else-self c = ap (λ (w : Bool). cond w c.inside-between.result (not c.inside-between.result)) (sym c.if-self.false) ∙ told (goal.at.returns-else-self c).After-inside-between
