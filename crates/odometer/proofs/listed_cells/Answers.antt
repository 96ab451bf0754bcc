use native.Mathlib.Omega.{arith}
use mathlib.Core.Path.{refl, ◌∙◌}
use Rattle.walks.specs.Assigned.{assigned}
use Rattle.odometer.proofs.Listing.{rest-start, rest_end, rest-nothing, rest_more}
use Rattle.odometer.proofs.listed_cells.Goals as goal

pub loop-i-init : goal.loop-i-init
loop-i-init c = (rest-start c.args.memo.now c.args.list.now c.args.n (assigned c.args.values.now c.args.env.now) c.args.row.now, omega arith, refl)

pub listed_cell-requires : goal.listed_cell-requires
listed_cell-requires c = (c.requires.0, omega (arith, c.requires.1, c.loop-i.invariant.2, c.loop-i-test.true), omega (arith, c.requires.2, c.loop-i-test.true), c.requires.3)

pub returns-then-not-listed_cell : goal.returns-then-not-listed_cell
returns-then-not-listed_cell c = rest-nothing c.args.memo.now c.args.list.now c.args.n (assigned c.args.values.now c.args.env.now) c.args.row.now c.loop-i.row c.loop-i.i c.loop-i.invariant.0 c.listed_cell.result _ c.loop-i-test.true c.listed_cell.ensures c.if-not-listed_cell.true-raw

pub loop-i-preserved : goal.loop-i-preserved
loop-i-preserved c = (rest_more c.args.memo.now c.args.list.now c.args.n (assigned c.args.values.now c.args.env.now) c.args.row.now c.loop-i.row c.loop-i.i c.loop-i.invariant.0 c.listed_cell.result _ c.loop-i-test.true c.listed_cell.ensures c.if-not-listed_cell.false-raw, omega (arith, c.loop-i-test.true), c.listed_cell.auto.row ∙ c.loop-i.invariant.2)

pub returns : goal.returns
returns c = rest_end c.args.memo.now c.args.list.now c.args.n (assigned c.args.values.now c.args.env.now) c.args.row.now c.loop-i.row c.loop-i.i c.loop-i.invariant.0 c.loop-i-test.false
