use mathlib.Core.Path.{◌≡◌, subst, ◌∙◌}
use native.Mathlib.Omega.{arith}
use Prim.Native.Nat.{ℕ, ◌+◌, ◌*◌, ◌-◌, ◌≤◌, ◌<◌}
use lib.ListN.{length, take, drop}
use Rattle.copier.proofs.Sets.{Left, left_end, left-then, left-room}
use Rattle.program.specs.Text as T
use Rattle.program.proofs.text.Tables.{rows-room, table_step, table-end}
use Rattle.program.proofs.text.table.Goals as goal

pub cells-to-requires : goal.cells-to-requires
cells-to-requires c =
    let answer = c.args.answer.now in
    let columns = c.args.columns in
    let left = c.args.rows - c.loop.counter in
    let some : 0 < left = omega (arith, c.loop-test.true) in
    left-room c.args.out.now c.args.at (T.table c.args.rows columns answer) c.loop.out c.loop.to _ (T.line T.signed (take (c.loop.from + columns - c.loop.from) (drop c.loop.from answer))) (T.table (left - 1) columns (drop (c.loop.from + columns) answer)) (table_step left columns c.loop.from answer some) c.loop.invariant.0 c.requires.answer_bound

pub loop-preserved : goal.loop-preserved
loop-preserved c =
    let answer = c.args.answer.now in
    let columns = c.args.columns in
    let left = c.args.rows - c.loop.counter in
    let some : 0 < left = omega (arith, c.loop-test.true) in
    let fewer : left - 1 ≡ c.args.rows - (c.loop.counter + 1) = omega arith in
    let next = left-then c.args.out.now c.args.at (T.table c.args.rows columns answer) c.loop.out c.loop.to _ (T.line T.signed (take (c.loop.from + columns - c.loop.from) (drop c.loop.from answer))) (T.table (left - 1) columns (drop (c.loop.from + columns) answer)) _ _ (table_step left columns c.loop.from answer some) c.loop.invariant.0 (c.cells-to.ensures.value, c.cells-to.ensures.out_after) in (
      subst (λ (k : ℕ). Left c.args.out.now c.args.at (T.table c.args.rows columns answer) c.cells-to.new.out c.cells-to.result (T.table k columns (drop (c.loop.from + columns) answer))) fewer next,
      subst (λ (k : ℕ). c.loop.from + columns + k * columns ≤ length answer) fewer (rows-room c.loop.from left columns (length answer) some c.loop.invariant.1),
      c.cells-to.auto.out ∙ c.loop.invariant.2,
    )

pub returns : goal.returns
returns c =
    let columns = c.args.columns in
    let end = left_end c.args.out.now c.args.at (T.table c.args.rows columns c.args.answer.now) c.loop.out c.loop.to _ (table-end (c.args.rows - c.loop.counter) columns _ (omega (arith, c.loop-test.false))) c.loop.invariant.0 in
    record { value = end.0; out_after = end.1 }
