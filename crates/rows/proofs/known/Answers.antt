use native.Mathlib.Omega.{arith}
use mathlib.Core.Path.{refl, ap}
use Prim.Native.Nat.{◌-◌, ◌*◌}
use lib.ListN.{length, take, drop}
use Rattle.model.specs.Search.{Search}
use Rattle.rows.specs.Chains.{nexts_of}
use Rattle.rows.proofs.Compared.{sought-most}
use Rattle.rows.proofs.Links.{known-linked, known-rest}
use Rattle.rows.proofs.known.Goals as goal

pub returns-then-linked : goal.returns-then-linked
returns-then-linked c = known-linked c.args.row.now c.args.answer.now c.args.rows (nexts_of (length c.args.table.now)) _ c.chained-linked.ensures c.if-linked.true

pub overflow_add-result : goal.overflow_add-result
overflow_add-result c = let answer = c.args.answer.now in let row = c.args.row.now in
    omega (arith, ap (λ (s : Search). s.tried) c.find-rest.ensures, sought-most row (c.args.rows - c.nexts-n.result) (take (length answer - c.nexts-n.result * length row) (drop (c.nexts-n.result * length row) answer)), c.if-rows-n.false)

pub returns : goal.returns
returns c = known-rest c.args.row.now c.args.answer.now c.args.rows (nexts_of (length c.args.table.now)) _ c.chained-linked.ensures c.nexts-n.result c.nexts-n.ensures c.if-rows-n.false c.if-linked.false _ refl _ c.find-rest.ensures
