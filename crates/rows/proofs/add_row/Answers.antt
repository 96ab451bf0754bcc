use Rattle.std.proofs.Common.{arith, ap, ◌∙◌, ◌+◌, ◌*◌, false, ℤ, List, length}
use Rattle.rows.proofs.Laws.{added_full, added-stored, added-over, added-laid, copied}
use Rattle.rows.proofs.Compared.{sought-stored, sought-missed}
use Rattle.rows.proofs.Links.{linked-laid}
use Rattle.rows.proofs.add_row.Goals as goal

pub returns-then-state-clause-answer_after : goal.returns-then-state-clause-answer_after
returns-then-state-clause-answer_after c = added_full c.args.state.rows c.args.state.full c.args.answer.now c.args.row.now c.if-state.true

pub returns-then-known-clause-answer_after : goal.returns-then-known-clause-answer_after
returns-then-known-clause-answer_after c = let answer = c.args.answer.now in let row = c.args.row.now in let rows = c.args.state.rows in
    added-stored rows c.args.state.full answer row c.if-state.false (sought-stored row rows answer _ c.known.ensures _ c.if-known.true)

pub returns-then-capacity-rows-clause-answer_after : goal.returns-then-capacity-rows-clause-answer_after
returns-then-capacity-rows-clause-answer_after c = let answer = c.args.answer.now in let row = c.args.row.now in let rows = c.args.state.rows in
    added-over rows c.args.state.full answer row c.if-state.false (sought-stored row rows answer _ c.known.ensures _ c.if-known.false) (omega (arith, c.capacity.ensures, c.if-capacity-rows.true))

pub returns-clause-answer_after : goal.returns-clause-answer_after
returns-clause-answer_after c = let answer = c.args.answer.now in let row = c.args.row.now in let rows = c.args.state.rows in
    ap (λ (l : List ℤ). record { rows = rows + 1; full = false; cells = l }) (copied answer _ row (rows * length row) c.copy_from_slice.ensures.after)
    ∙ added-laid rows c.args.state.full answer row c.if-state.false (sought-stored row rows answer _ c.known.ensures _ c.if-known.false) (omega (arith, c.capacity.ensures, c.if-capacity-rows.false))

pub returns-clause-linked : goal.returns-clause-linked
returns-clause-linked c = let answer = c.args.answer.now in let row = c.args.row.now in let rows = c.args.state.rows in
    linked-laid answer _ row rows c.bucket-h.result c.args.table.now _ c.requires (sought-missed row rows answer _ c.known.ensures c.if-known.false) (omega (arith, c.capacity.ensures, c.if-capacity-rows.false)) c.bucket-h.ensures (copied answer _ row (rows * length row) c.copy_from_slice.ensures.after) c.link.auto.table c.link.ensures
