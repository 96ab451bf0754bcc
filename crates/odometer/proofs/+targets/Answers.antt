use borrow.Author.Rules.{rules}
use native.Mathlib.Omega.{arith}
use mathlib.Core.Path.{refl, sym, ap, ◌∙◌}
use mir.Syntax.{w64}
use mir.Val.{to_z, of_z}
use mir.Facts.{to_z-of_z}
use lib.ListN.{length, length-set}
use Rattle.numbers.proofs.Laws.{value_none, is_number, value-some}
use Rattle.odometer.proofs.Steps.{targets-none, targets-nothing, targets-more}
use Rattle.odometer.proofs.+targets.Goals as goal

pub returns-then-ahead-eq0 : goal.returns-then-ahead-eq0
returns-then-ahead-eq0 t c = record { written = targets-none c.args.walks.now c.args.values.now c.args.memo.now c.args.env.now c.args.q.now c.args.z.now c.args.ahead.left c.args.ahead.level c.args.ahead.at c.args.row.now c.if-ahead-eq0.true; env_unchanged = search rules }

pub returns-then-x-le0 : goal.returns-then-x-le0
returns-then-x-le0 t c = record { written = targets-nothing c.args.walks.now c.args.values.now c.args.memo.now c.args.env.now c.args.q.now c.args.z.now c.args.ahead.left c.args.ahead.level c.args.ahead.at c.args.row.now _ c.if-ahead-eq0.false (sym c.term-x.ensures.result_value ∙ value_none c.term-x.result c.term-x.ensures.small c.if-x-le0.true); env_unchanged = c.term-x.ensures.env_unchanged }

pub cell-requires : goal.cell-requires
cell-requires t c = (c.term-x.ensures.small, is_number c.term-x.result c.term-x.ensures.small c.if-x-le0.false)

pub targets-requires : goal.targets-requires
targets-requires t c = (omega (arith, c.decreases, c.if-ahead-eq0.false), (omega (arith, c.requires.0, ap length c.term-x.ensures.env_unchanged), omega (arith, c.requires.1, c.if-ahead-eq0.false, length-set c.args.row.now c.args.ahead.at (to_z w64 (of_z w64 c.cell.result)))))

pub returns : goal.returns
returns t c = record { written = targets-more c.args.walks.now c.args.values.now c.args.memo.now c.args.env.now c.args.q.now c.args.z.now c.args.ahead.left c.args.ahead.level c.args.ahead.at c.args.row.now _ _ _ _ _ _ _ _ _ c.if-ahead-eq0.false (sym c.term-x.ensures.result_value ∙ value-some c.term-x.result (is_number c.term-x.result c.term-x.ensures.small c.if-x-le0.false)) (to_z-of_z {w = w64} (record { sfits = c.cell.type_inv }) ∙ c.cell.ensures) refl c.size_at-n.ensures.value c.tail-u.ensures c.tail_sizes-v.ensures c.term-x.ensures.env_unchanged c.targets.ensures.written; env_unchanged = c.targets.ensures.env_unchanged ∙ c.term-x.ensures.env_unchanged }
