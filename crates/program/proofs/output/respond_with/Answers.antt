use native.Mathlib.Omega.{arith}
use mathlib.Core.Path.{◌≡◌, refl, sym, ap, ◌∙◌}
use Prim.Native.Nat.{ℕ}
use Rattle.model.specs.Refusals.{number_of}
use Rattle.model.proofs.Refusals.{number-positive}
use Rattle.plain.specs.Reply.{number_in}
use lib.ListN.{length}
use lib.Seq.{sets}
use Rattle.program.proofs.output.Parts.{refused-length}
use Rattle.program.proofs.output.Outcomes as A
use Rattle.program.proofs.output.respond_with.Goals as goal

pub returns-then-unreadable-clause-value : goal.returns-then-unreadable-clause-value
returns-then-unreadable-clause-value c = c.refused.ensures.value ∙ ap length (A.unread-text c.args.catalogue.now c.args.file.now c.args.permits.now c.args.question.now _ c.unreadable.ensures c.if-unreadable.true _ c.unread.ensures)

pub returns-then-unreadable-clause-out_after : goal.returns-then-unreadable-clause-out_after
returns-then-unreadable-clause-out_after c = c.refused.ensures.out_after ∙ ap (sets c.args.out.now 0) (A.unread-text c.args.catalogue.now c.args.file.now c.args.permits.now c.args.question.now _ c.unreadable.ensures c.if-unreadable.true _ c.unread.ensures)

pub returns-then-unreadable-clause-upper_bound : goal.returns-then-unreadable-clause-upper_bound
returns-then-unreadable-clause-upper_bound c = omega (arith, c.refused.ensures.value, refused-length (number_of c.unread.result))

pub returns-then-r-clause-value : goal.returns-then-r-clause-value
returns-then-r-clause-value c = c.refused-then-r.ensures.value ∙ ap length (A.refused-text c.args.catalogue.now c.args.file.now c.args.permits.now c.args.question.now _ c.unreadable.ensures c.if-unreadable.false (number_in c.in-Ok.r.answer) c.in-Ok.r.answer.rows c.in-Ok.r.answer.columns c.in-Ok.r.length _ _ _ c.args.rewritten.now c.args.answer.now c.read_values.ensures c.requires.rewritten_value c.requires.answer_value c.in-Ok.ensures 41 (sym (rw c.if-r.true)) (λ z. let e : number_in c.in-Ok.r.answer ≡ 41 = rw c.if-r.true in omega (arith, e, z)))

pub returns-then-r-clause-out_after : goal.returns-then-r-clause-out_after
returns-then-r-clause-out_after c = c.refused-then-r.ensures.out_after ∙ ap (sets c.args.out.now 0) (A.refused-text c.args.catalogue.now c.args.file.now c.args.permits.now c.args.question.now _ c.unreadable.ensures c.if-unreadable.false (number_in c.in-Ok.r.answer) c.in-Ok.r.answer.rows c.in-Ok.r.answer.columns c.in-Ok.r.length _ _ _ c.args.rewritten.now c.args.answer.now c.read_values.ensures c.requires.rewritten_value c.requires.answer_value c.in-Ok.ensures 41 (sym (rw c.if-r.true)) (λ z. let e : number_in c.in-Ok.r.answer ≡ 41 = rw c.if-r.true in omega (arith, e, z)))

pub returns-then-r-clause-upper_bound : goal.returns-then-r-clause-upper_bound
returns-then-r-clause-upper_bound c = omega (arith, c.refused-then-r.ensures.value, refused-length 41)

pub returns-in-Err-clause-value : goal.returns-in-Err-clause-value
returns-in-Err-clause-value c = c.refused-in-Err.ensures.value ∙ ap length (A.refused-text c.args.catalogue.now c.args.file.now c.args.permits.now c.args.question.now _ c.unreadable.ensures c.if-unreadable.false (number_of c.in-Err.refusal) 0 0 0 _ _ _ c.args.rewritten.now c.args.answer.now c.read_values.ensures c.requires.rewritten_value c.requires.answer_value c.in-Err.ensures _ refl (λ z. omega (arith, number-positive c.in-Err.refusal, z)))

pub returns-in-Err-clause-out_after : goal.returns-in-Err-clause-out_after
returns-in-Err-clause-out_after c = c.refused-in-Err.ensures.out_after ∙ ap (sets c.args.out.now 0) (A.refused-text c.args.catalogue.now c.args.file.now c.args.permits.now c.args.question.now _ c.unreadable.ensures c.if-unreadable.false (number_of c.in-Err.refusal) 0 0 0 _ _ _ c.args.rewritten.now c.args.answer.now c.read_values.ensures c.requires.rewritten_value c.requires.answer_value c.in-Err.ensures _ refl (λ z. omega (arith, number-positive c.in-Err.refusal, z)))

pub returns-in-Err-clause-upper_bound : goal.returns-in-Err-clause-upper_bound
returns-in-Err-clause-upper_bound c = omega (arith, c.refused-in-Err.ensures.value, refused-length (number_of c.in-Err.refusal))

pub returns-else-r-clause-value : goal.returns-else-r-clause-value
returns-else-r-clause-value c = c.accepted.ensures.value ∙ ap length (A.accepted-text c.args.catalogue.now c.args.file.now c.args.permits.now c.args.question.now _ c.unreadable.ensures c.if-unreadable.false (number_in c.in-Ok.r.answer) c.in-Ok.r.answer.rows c.in-Ok.r.answer.columns c.in-Ok.r.length _ _ _ c.args.rewritten.now c.args.answer.now c.read_values.ensures c.requires.rewritten_value c.requires.answer_value c.in-Ok.ensures (rw c.if-r.false))

pub returns-else-r-clause-out_after : goal.returns-else-r-clause-out_after
returns-else-r-clause-out_after c = c.accepted.ensures.out_after ∙ ap (sets c.args.out.now 0) (A.accepted-text c.args.catalogue.now c.args.file.now c.args.permits.now c.args.question.now _ c.unreadable.ensures c.if-unreadable.false (number_in c.in-Ok.r.answer) c.in-Ok.r.answer.rows c.in-Ok.r.answer.columns c.in-Ok.r.length _ _ _ c.args.rewritten.now c.args.answer.now c.read_values.ensures c.requires.rewritten_value c.requires.answer_value c.in-Ok.ensures (rw c.if-r.false))

pub returns-else-r-clause-upper_bound : goal.returns-else-r-clause-upper_bound
returns-else-r-clause-upper_bound c = omega (arith, c.accepted.ensures.value, A.text-short c.args.catalogue.now c.args.file.now c.args.permits.now c.args.question.now _ c.unreadable.ensures c.if-unreadable.false (number_in c.in-Ok.r.answer) c.in-Ok.r.answer.rows c.in-Ok.r.answer.columns c.in-Ok.r.length _ _ _ c.args.rewritten.now c.args.answer.now c.read_values.ensures c.requires.rewritten_value c.requires.answer_value c.in-Ok.ensures c.ask.auto.answer c.ask.auto.rewritten)

pub accepted-requires-clause-columns_in_bounds : goal.accepted-requires-clause-columns_in_bounds
accepted-requires-clause-columns_in_bounds c = A.cells_in c.args.catalogue.now c.args.file.now c.args.permits.now c.args.question.now _ c.unreadable.ensures c.if-unreadable.false (number_in c.in-Ok.r.answer) c.in-Ok.r.answer.rows c.in-Ok.r.answer.columns c.in-Ok.r.length _ _ _ c.args.rewritten.now c.args.answer.now c.read_values.ensures c.requires.rewritten_value c.requires.answer_value c.in-Ok.ensures c.ask.auto.answer c.ask.auto.rewritten

pub accepted-requires-clause-count_in_bounds : goal.accepted-requires-clause-count_in_bounds
accepted-requires-clause-count_in_bounds c = A.bytes-in c.args.catalogue.now c.args.file.now c.args.permits.now c.args.question.now _ c.unreadable.ensures c.if-unreadable.false (number_in c.in-Ok.r.answer) c.in-Ok.r.answer.rows c.in-Ok.r.answer.columns c.in-Ok.r.length _ _ _ c.args.rewritten.now c.args.answer.now c.read_values.ensures c.requires.rewritten_value c.requires.answer_value c.in-Ok.ensures c.ask.auto.answer c.ask.auto.rewritten

pub accepted-requires-clause-answer_len_bound : goal.accepted-requires-clause-answer_len_bound
accepted-requires-clause-answer_len_bound c = A.text-room c.args.catalogue.now c.args.file.now c.args.permits.now c.args.question.now _ c.unreadable.ensures c.if-unreadable.false (number_in c.in-Ok.r.answer) c.in-Ok.r.answer.rows c.in-Ok.r.answer.columns c.in-Ok.r.length _ _ _ c.args.rewritten.now c.args.answer.now c.read_values.ensures c.requires.rewritten_value c.requires.answer_value c.in-Ok.ensures c.ask.auto.answer c.ask.auto.rewritten
