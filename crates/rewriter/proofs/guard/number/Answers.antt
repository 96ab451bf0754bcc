use Rattle.scans.specs.Flat.{flat_bindings}
use native.Mathlib.Omega.{arith}
use Rattle.rewriter.proofs.guard.Index.{index-small}
use Rattle.rewriter.proofs.guard.Copies.{number-zero, number-other}
use Rattle.rewriter.proofs.guard.number.Goals as goal

pub returns-then-w-eq0 : goal.returns-then-w-eq0
returns-then-w-eq0 c = number-zero c.args.q.now c.args.variable c.args.next c.args.w c.if-w-eq0.true

pub overflow_add-result : goal.overflow_add-result
overflow_add-result c = omega (arith, index-small c.args.w c.index_of.result (flat_bindings c.args.q.now) c.index_of.ensures)

pub overflow_cast-result : goal.overflow_cast-result
overflow_cast-result c = omega (arith, index-small c.args.w c.index_of.result (flat_bindings c.args.q.now) c.index_of.ensures)

pub returns : goal.returns
returns c = number-other c.args.q.now c.args.variable c.args.next c.args.w _ c.if-w-eq0.false c.index_of.ensures
