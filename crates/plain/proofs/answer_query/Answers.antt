use lib.IntN.{pos}
use Rattle.model.proofs.Lists.{get_or-same}
use Rattle.plain.proofs.Memo.{blank-trusted}
use Rattle.plain.proofs.answer_query.Goals as goal

pub answer_by-requires : goal.answer_by-requires
answer_by-requires c = blank-trusted _ _ (get_or-same 2 (pos 0)) _

pub answer_sized-requires-clause-trusted : goal.answer_sized-requires-clause-trusted
answer_sized-requires-clause-trusted c = blank-trusted _ _ (get_or-same 2 (pos 0)) _
