use Rattle.std.proofs.Common.{arith, sym, true, false}
use Rattle.model.proofs.Search.{none_over, none-next}
use Rattle.rows.proofs.Compared.{same_at, sought-hit, sought-none, rows_short}
use Rattle.rows.proofs.Links.{row-part}
use Rattle.rows.proofs.find.Goals as goal

pub returns-in_default : goal.returns-in_default
returns-in_default c = let answer = c.args.answer.now in let row = c.args.row.now in
    sym (sought-none row c.args.rows answer (none_over (same_at row answer) c.loop-i.i c.args.rows c.loop-i.invariant.none (λ j a _. rows_short row answer c.loop-i.at c.loop-i.i j c.loop-i.invariant.place (omega (arith, c.in_default.ensures.lookup)) a)))

pub returns-then-same : goal.returns-then-same
returns-then-same c = let answer = c.args.answer.now in let row = c.args.row.now in
    let h = row-part answer c.loop-i.at c.loop-i.i row c.in-Some.stored.now c.same.result true c.loop-i.invariant.place c.in-Some.ensures.lookup.0.2 c.same.ensures c.if-same.true in
    sym (sought-hit row c.args.rows c.loop-i.i answer c.loop-i-test.true c.loop-i.invariant.none h)

pub loop-i-preserved : goal.loop-i-preserved
loop-i-preserved c = let answer = c.args.answer.now in let row = c.args.row.now in
    let h = row-part answer c.loop-i.at c.loop-i.i row c.in-Some.stored.now c.same.result false c.loop-i.invariant.place c.in-Some.ensures.lookup.0.2 c.same.ensures c.if-same.false in
    record { none = none-next (same_at row answer) c.loop-i.i c.loop-i.invariant.none h; place = omega arith; within = omega (arith, c.in-Some.ensures.lookup) }

pub returns : goal.returns
returns c = sym (sought-none c.args.row.now c.args.rows c.args.answer.now (λ j k. c.loop-i.invariant.none j (omega arith)))
