use mathlib.Core.Path.{refl}
use lib.ListN.{take}
use Rattle.program.specs.Text as T
use Rattle.program.specs.Output as O
use Rattle.program.proofs.output.Parts as P
use Rattle.program.proofs.output.accepted.Goals as goal

pub labelled-a-requires : goal.labelled-a-requires
unfolding O.accepted
labelled-a-requires c = let answer = c.args.answer.now in let rewritten = c.args.rewritten.now in let columns = c.args.columns in let count = c.args.count in let rows = c.args.rows in
    P.room1 (O.accepted rows columns count rewritten answer) (T.labelled O.rows_word rows) (T.labelled O.columns_word columns) (T.labelled O.question_word count) (T.line T.decimal (take count rewritten)) (T.table rows columns answer) refl c.requires.answer_len_bound c.args.out.now

pub labelled-b-requires : goal.labelled-b-requires
unfolding O.accepted
labelled-b-requires c = let answer = c.args.answer.now in let rewritten = c.args.rewritten.now in let columns = c.args.columns in let count = c.args.count in let rows = c.args.rows in
    P.room2 (O.accepted rows columns count rewritten answer) (T.labelled O.rows_word rows) (T.labelled O.columns_word columns) (T.labelled O.question_word count) (T.line T.decimal (take count rewritten)) (T.table rows columns answer) refl c.requires.answer_len_bound c.args.out.now _ _ (c.labelled-a.ensures.value, c.labelled-a.ensures.out_after)

pub labelled-c-requires : goal.labelled-c-requires
unfolding O.accepted
labelled-c-requires c = let answer = c.args.answer.now in let rewritten = c.args.rewritten.now in let columns = c.args.columns in let count = c.args.count in let rows = c.args.rows in
    P.room3 (O.accepted rows columns count rewritten answer) (T.labelled O.rows_word rows) (T.labelled O.columns_word columns) (T.labelled O.question_word count) (T.line T.decimal (take count rewritten)) (T.table rows columns answer) refl c.requires.answer_len_bound c.args.out.now _ _ (c.labelled-a.ensures.value, c.labelled-a.ensures.out_after) _ _ (c.labelled-b.ensures.value, c.labelled-b.ensures.out_after)

pub bytes-d-requires : goal.bytes-d-requires
unfolding O.accepted
bytes-d-requires c = let answer = c.args.answer.now in let rewritten = c.args.rewritten.now in let columns = c.args.columns in let count = c.args.count in let rows = c.args.rows in
    P.room4 (O.accepted rows columns count rewritten answer) (T.labelled O.rows_word rows) (T.labelled O.columns_word columns) (T.labelled O.question_word count) (T.line T.decimal (take count rewritten)) (T.table rows columns answer) refl c.requires.answer_len_bound c.args.out.now _ _ (c.labelled-a.ensures.value, c.labelled-a.ensures.out_after) _ _ (c.labelled-b.ensures.value, c.labelled-b.ensures.out_after) _ _ (c.labelled-c.ensures.value, c.labelled-c.ensures.out_after)

pub table-requires : goal.table-requires
unfolding O.accepted
table-requires c = let answer = c.args.answer.now in let rewritten = c.args.rewritten.now in let columns = c.args.columns in let count = c.args.count in let rows = c.args.rows in record { columns_in_bounds = c.requires.columns_in_bounds; answer_bound = P.room5 (O.accepted rows columns count rewritten answer) (T.labelled O.rows_word rows) (T.labelled O.columns_word columns) (T.labelled O.question_word count) (T.line T.decimal (take count rewritten)) (T.table rows columns answer) refl c.requires.answer_len_bound c.args.out.now _ _ (c.labelled-a.ensures.value, c.labelled-a.ensures.out_after) _ _ (c.labelled-b.ensures.value, c.labelled-b.ensures.out_after) _ _ (c.labelled-c.ensures.value, c.labelled-c.ensures.out_after) _ _ (c.bytes-d.ensures.value, c.bytes-d.ensures.out_after) }

pub returns : goal.returns
unfolding O.accepted
returns c = let answer = c.args.answer.now in let rewritten = c.args.rewritten.now in let columns = c.args.columns in let count = c.args.count in let rows = c.args.rows in record { value = (P.parts (O.accepted rows columns count rewritten answer) (T.labelled O.rows_word rows) (T.labelled O.columns_word columns) (T.labelled O.question_word count) (T.line T.decimal (take count rewritten)) (T.table rows columns answer) refl c.requires.answer_len_bound c.args.out.now _ _ (c.labelled-a.ensures.value, c.labelled-a.ensures.out_after) _ _ (c.labelled-b.ensures.value, c.labelled-b.ensures.out_after) _ _ (c.labelled-c.ensures.value, c.labelled-c.ensures.out_after) _ _ (c.bytes-d.ensures.value, c.bytes-d.ensures.out_after) _ _ (c.table.ensures.value, c.table.ensures.out_after)).0; out_after = (P.parts (O.accepted rows columns count rewritten answer) (T.labelled O.rows_word rows) (T.labelled O.columns_word columns) (T.labelled O.question_word count) (T.line T.decimal (take count rewritten)) (T.table rows columns answer) refl c.requires.answer_len_bound c.args.out.now _ _ (c.labelled-a.ensures.value, c.labelled-a.ensures.out_after) _ _ (c.labelled-b.ensures.value, c.labelled-b.ensures.out_after) _ _ (c.labelled-c.ensures.value, c.labelled-c.ensures.out_after) _ _ (c.bytes-d.ensures.value, c.bytes-d.ensures.out_after) _ _ (c.table.ensures.value, c.table.ensures.out_after)).1 }
